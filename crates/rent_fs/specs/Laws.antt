-- What holds of whole buffers over whole lists of answers.
use Rattle.std.specs.Prelude.{◌≡◌, ◌↔◌, ◌&&◌, ◌==◌, ℕ, ◌+◌, ◌≤◌, Bool, true, nat_lt, if◌then◌else◌, ℤ, pos, negsuc, List, ◌++◌, sum_by}
use Rattle.std.specs.List.{AllByRecursion}
use Rattle.std.specs.Int.{w32, cast_unsigned}
use Rattle.uring_base.specs.declared.errno.TheConstants.{EINTR}
use Rattle.rent_fs.specs.declared.answers.TheConstants.{MAX_BREAKS}
use Rattle.rent_fs.specs.declared.answers.Progress.TheVariants.{Whole}
use Rattle.rent_fs.specs.WholeBuffer.{TransferAnswer, progress_of}

-- how many bytes a result tells
abbrev pub bytes_in : ℤ → ℕ
bytes_in (pos n) = n
bytes_in (negsuc n) = 0

-- 1 where a result tells an interruption
abbrev pub breaks_in : ℤ → ℕ
breaks_in (pos n) = 0
breaks_in (negsuc n) = if n + 1 == cast_unsigned w32 EINTR then 1 else 0

-- the buffer came back as it was lent, with a count above 0 or with an interruption
abbrev pub is_good : ℕ → TransferAnswer → Bool
is_good len a = (a.length == len) && nat_lt 0 (bytes_in a.result + breaks_in a.result)

-- the first answers are good, and their counts add up to the whole
pub record AddsUp (len : ℕ) (answers : List TransferAnswer) : Type 0 where
  pub first : List TransferAnswer
  pub behind : List TransferAnswer
  pub all : answers ≡ first ++ behind
  pub good : AllByRecursion (λ a. is_good len a ≡ true) first
  pub whole : sum_by (λ a. bytes_in a.result) first ≡ len
  pub few : sum_by (λ a. breaks_in a.result) first ≤ MAX_BREAKS

abbrev pub IsWholeExactly : Type 0
IsWholeExactly = (len : ℕ) (answers : List TransferAnswer) → (progress_of len answers ≡ Whole) ↔ AddsUp len answers
