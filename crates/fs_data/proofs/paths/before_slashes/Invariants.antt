use Rattle.std.proofs.Common.{◌≡◌, ℕ, ◌≤◌, List}
use Rattle.fs_data.specs.Paths.{before_slashes}
use Rattle.fs_data.proofs.paths.before_slashes.Given as goal

pub record Reached (path : List ℕ) (end at : ℕ) : Type 0 where
  pub same : before_slashes path end ≡ before_slashes path at
  pub inside : at ≤ end

abbrev pub invariant-loop-at : goal.invariant-loop-at
invariant-loop-at l = Reached l.path l.end l.at

abbrev pub decreases-loop-at : goal.decreases-loop-at
decreases-loop-at l = l.at
