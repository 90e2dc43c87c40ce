-- What the states of files give.
use Rattle.std.specs.Prelude.{ℕ, ◌+◌, ◌^◌, ◌≤◌, ℤ, pos, negsuc, List, [], Option, Some, None, Result, Ok, Err}
use Rattle.uring_base.specs.declared.limits.TheConstants.{MAX_BUFFER}
use Rattle.rent_engine.specs.declared.one_op.OneAnswer.{OneAnswer}
use Rattle.rent_engine.specs.declared.one_op.OneAnswer.TheVariants.{Done, InUse, NoMemory, Lost}
use Rattle.rent_fs.specs.declared.error.FsError.{FsError}
use Rattle.rent_fs.specs.declared.error.FsError.TheVariants as errors
use Rattle.rent_fs.specs.Errors.{errno_of}

-- a count, or the errno of a negative result
abbrev pub counted : ℤ → Result ℕ FsError
counted (pos n) = Ok n
counted (negsuc n) = Err (errors.Os (n + 1))

-- a count, or an errno, that a result of 32 bits tells
abbrev pub IsSmall : Result ℕ FsError → Type 0
IsSmall (Ok n) = n ≤ MAX_BUFFER
IsSmall (Err e) = errno_of e ≤ 2 ^ 31

abbrev pub HasSmallCount : Result ℕ FsError × List ℕ → Type 0
HasSmallCount output = IsSmall output.0

abbrev pub or_empty : Option (List ℕ) → List ℕ
or_empty None = []
or_empty (Some buf) = buf

-- a result without the buffer that was lent is lost
abbrev pub with_buf : ℤ → Option (List ℕ) → Result ℕ FsError × List ℕ
with_buf result None = (Err errors.KeyLost, [])
with_buf result (Some buf) = (counted result, buf)

-- the output of an operation that lent a buffer
abbrev pub moved : OneAnswer → Result ℕ FsError × List ℕ
moved (Done done) = with_buf done.result done.buf
moved (InUse buf) = (Err errors.KeyInUse, or_empty buf)
moved (NoMemory buf) = (Err errors.NoMemory, or_empty buf)
moved Lost = (Err errors.KeyLost, [])

-- nothing but that it is done, or the errno of a negative result
abbrev pub ended : ℤ → Result (Unit {0}) FsError
ended (pos n) = Ok tt
ended (negsuc n) = Err (errors.Os (n + 1))

-- the output of an operation that lent no buffer
abbrev pub synced : OneAnswer → Result (Unit {0}) FsError
synced (Done done) = ended done.result
synced (InUse buf) = Err errors.KeyInUse
synced (NoMemory buf) = Err errors.NoMemory
synced Lost = Err errors.KeyLost

-- an errno that a result of 32 bits tells
abbrev pub IsSmallFault : Result (Unit {0}) FsError → Type 0
IsSmallFault (Ok _) = Unit {0}
IsSmallFault (Err e) = errno_of e ≤ 2 ^ 31
