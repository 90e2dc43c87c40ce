use Rattle.std.proofs.Common.{◌≡◌, ◌++◌, None}
use Rattle.std.specs.Prelude.{replicate}
use Rattle.uring_model.proofs.replayed.add_open.Given as goal

abbrev pub invariant-loop-added : goal.invariant-loop-added
invariant-loop-added l = l.outcomes.items ≡ l.fn.outcomes.items ++ replicate l._added None
