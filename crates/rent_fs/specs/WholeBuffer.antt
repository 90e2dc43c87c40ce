-- What a list of answers makes of a whole buffer.
use Rattle.std.specs.Prelude.{ℕ, ◌+◌, ◌-◌, Bool, true, false, ◌==◌, if◌then◌else◌, nat_lt, ℤ, pos, negsuc, List}
use Rattle.std.specs.List.{fold}
use Rattle.std.specs.Int.{w32, cast_unsigned}
use Rattle.uring_base.specs.declared.errno.TheConstants.{EINTR}
use Rattle.rent_fs.specs.declared.answers.TheConstants.{MAX_BREAKS}
use Rattle.rent_fs.specs.declared.answers.Left.{Left}
use Rattle.rent_fs.specs.declared.answers.Progress.{Progress}
use Rattle.rent_fs.specs.declared.answers.Progress.TheVariants.{Going, Whole, Failed}
use Rattle.rent_fs.specs.declared.answers.WholeFault.TheVariants.{Os, Nothing, Interrupted, BadCount}

-- an operation's result, and the length of the buffer that came back
pub record TransferAnswer : Type 0 where
  pub result : ℤ
  pub length : ℕ

-- where nothing is left, the whole buffer is moved
abbrev pub going : ℕ → ℕ → Progress
going rest breaks = if rest == 0 then Whole else Going (record { rest = rest; breaks = breaks })

-- a count is taken from the rest; 0, and more than the rest, is a fault
abbrev pub after_count : Left → ℕ → Progress
after_count left n =
    if n == 0 then Failed Nothing
    else (if nat_lt left.rest n then Failed BadCount else going (left.rest - n) left.breaks)

-- an interruption is counted, up to one too many
abbrev pub after_break : Left → Progress
after_break left = if nat_lt left.breaks MAX_BREAKS then Going (record left { breaks = left.breaks + 1 }) else Failed Interrupted

abbrev pub after_error : Left → ℕ → Progress
after_error left errno = if errno == cast_unsigned w32 EINTR then after_break left else Failed (Os errno)

abbrev pub after_result : Left → ℤ → Progress
after_result left (pos n) = after_count left n
after_result left (negsuc n) = after_error left (n + 1)

-- one answer, where a buffer of this length was lent
abbrev pub after_answer : ℕ → Progress → TransferAnswer → Progress
after_answer len (Going left) a = if a.length == len then after_result left a.result else Failed BadCount
after_answer len Whole a = Whole
after_answer len (Failed fault) a = Failed fault

-- all answers in turn, from a whole buffer of this length on
abbrev pub progress_of : ℕ → List TransferAnswer → Progress
progress_of len answers = fold (after_answer len) (going len 0) answers

abbrev pub is_going : Progress → Bool
is_going (Going left) = true
is_going Whole = false
is_going (Failed fault) = false
