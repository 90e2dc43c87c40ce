-- How an answer of the system becomes a result.
use Rattle.std.specs.Prelude.{◌≡◌, ℕ, ◌<◌, ◌^◌, ℤ, pos, negsuc, zero, suc, Option, Some, None, Result, Ok, Err}
use Rattle.std.specs.IoError.{raw_os_error}
use Rattle.std.specs.declared.io.Error.{Error}
use Rattle.uring_base.specs.Errnos.{error_result}
use Rattle.uring_base.specs.declared.errno.TheConstants.{EIO}

-- the error number of a failure: the system's, which is above 0, and EIO where it gave none
abbrev pub errno_told : Option ℤ → ℤ
errno_told None = EIO
errno_told (Some (pos zero)) = EIO
errno_told (Some (pos (suc n))) = pos (suc n)
errno_told (Some (negsuc n)) = EIO

-- the result of a call that failed
abbrev pub refusal : Error → ℤ
refusal error = error_result (errno_told (raw_os_error error))

-- a call without a count is 0 where it succeeds
abbrev pub result_of : {A : Type 0} → Result A Error → ℤ
result_of (Ok done) = pos 0
result_of (Err error) = refusal error

-- a count is its own result, where it fits one
abbrev pub IsCountOf : Result ℕ Error → ℤ → Type 0
IsCountOf (Ok count) r = count < 2 ^ 31 → r ≡ pos count
IsCountOf (Err error) r = r ≡ refusal error
