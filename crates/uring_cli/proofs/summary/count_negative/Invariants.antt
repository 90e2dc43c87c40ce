use Rattle.std.proofs.Common.{◌≡◌, ◌+◌, ◌≤◌, drop}
use Rattle.uring_cli.specs.Generated.{negative_outcomes}
use Rattle.uring_cli.proofs.summary.count_negative.Given as goal

-- those counted, and those that are still to be looked at
abbrev pub invariant-loop-outcome : goal.invariant-loop-outcome
invariant-loop-outcome l = (l.count + negative_outcomes (drop l.outcome-index l.outcomes) ≡ negative_outcomes l.outcomes) × (l.count ≤ l.outcome-index)
