use Rattle.std.specs.FinMap.{from_entries}
use Rattle.uring_model.specs.FreeNumber.{AllUsed}
use Rattle.uring_model.proofs.files.free_from.Given as goal

-- each number before this one is used
abbrev pub invariant-loop-number : goal.invariant-loop-number
invariant-loop-number l = AllUsed l.number-counter (from_entries l.files.entries)
