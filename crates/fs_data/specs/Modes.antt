-- Modes of files.
use Rattle.std.specs.Prelude.{ℕ, Bool, true, false, not, ◌==◌, bit_and, bit_or}
use Rattle.std.specs.Int.{w32, bit_not}
use Rattle.uring_base.specs.declared.stat.TheConstants.{S_WRITE}
use Rattle.fs_data.specs.declared.permissions.Permissions.{Permissions}

abbrev pub mode_of : Permissions → ℕ
mode_of permissions = permissions.mode

-- the owner, the group or others may write
abbrev pub may_write : ℕ → Bool
may_write mode = not (bit_and mode S_WRITE == 0)

-- a mode by which nobody may write, or everybody may
abbrev pub with_readonly : Bool → ℕ → ℕ
with_readonly true mode = bit_and mode (bit_not w32 S_WRITE)
with_readonly false mode = bit_or mode S_WRITE
