-- The source of a move or copy, which stands in an unsigned word.
use Rattle.std.specs.Prelude.{ℕ}
use Rattle.uring_base.specs.declared.types.Target.{Target}
use Rattle.uring_base.specs.declared.types.Target.TheVariants.{Fd, Fixed}
use Rattle.uring_ops_path.specs.declared.marks.TheConstants.{FD_IN_FIXED}

-- the bit of the operation's flags that a registered source has
abbrev pub source_mark : Target → ℕ
source_mark (Fd n) = 0
source_mark (Fixed i) = FD_IN_FIXED
