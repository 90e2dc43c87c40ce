use Rattle.std.proofs.Common.{◌≡◌, ◌+◌, ◌≤◌, drop}
use Rattle.job_generator.specs.Journal.{turns_in}
use Rattle.uring_cli.proofs.summary.count_turns.Given as goal

-- those counted, and those that are still to be looked at
abbrev pub invariant-loop-event : goal.invariant-loop-event
invariant-loop-event l = (l.count + turns_in (drop l.event-index l.journal) ≡ turns_in l.journal) × (l.count ≤ l.event-index)
