use Rattle.std.specs.Prelude.{ℕ, ◌<◌, IsSome}
use Rattle.uring_std.specs.Numbers.{place_in}
use Rattle.uring_std.proofs.open_files.OpenFiles.least_free.Given as goal

-- each number before has a file
abbrev pub invariant-loop-number : goal.invariant-loop-number
invariant-loop-number g l = (k : ℕ) → k < l.number → IsSome (place_in k l.self.files.items)
