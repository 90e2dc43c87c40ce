-- Which operations a cancel means.
use Rattle.std.specs.Prelude.{ℕ, ℤ, bit_or, Option, Some, None}
use Rattle.uring_base.specs.declared.types.Target.{Target}
use Rattle.uring_base.specs.declared.types.Target.TheVariants.{Fd, Fixed}
use Rattle.uring_base.specs.Words.{no_fd, signed_of}
use Rattle.uring_types.specs.declared.cancel_flags.TheConstants.{ALL, FD, ANY, FD_FIXED}

-- the cancel's flags, and the user data or the target of what it means, where it asks for one
pub record Cancel : Type 0 where
  pub flags : ℕ
  pub user_data : Option ℕ
  pub fd : Option Target

-- any operation
abbrev pub any_operation : Cancel
any_operation = record { flags = ANY; user_data = None; fd = None }

-- the operation with this user data
abbrev pub with_user_data : ℕ → Cancel
with_user_data user_data = record { flags = 0; user_data = Some user_data; fd = None }

-- the flag of a cancel by its target, and for a registered file the flag of that beside it
abbrev pub target_flags : Target → ℕ
target_flags (Fd n) = FD
target_flags (Fixed i) = bit_or FD FD_FIXED

-- the operation on this target
abbrev pub on_target : Target → Cancel
on_target target = record { flags = target_flags target; user_data = None; fd = Some target }

-- all operations that fit, and not the first alone
abbrev pub all_that_fit : Cancel → Cancel
all_that_fit cancel = record cancel { flags = bit_or cancel.flags ALL }

-- the descriptor word of a cancel: that of its target, or -1
abbrev pub target_word : Option Target → ℤ
target_word None = no_fd
target_word (Some (Fd n)) = n
target_word (Some (Fixed i)) = signed_of i
