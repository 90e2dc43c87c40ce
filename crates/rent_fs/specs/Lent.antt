-- What comes of operations that lend a buffer, or none.
use Rattle.std.specs.Prelude.{ℕ, ℤ, List, Option, Some, None, Result, Ok, Err}
use Rattle.rent_engine.specs.declared.one_op.OneAnswer.{OneAnswer}
use Rattle.rent_engine.specs.declared.one_op.OneAnswer.TheVariants.{Done, InUse, NoMemory, Lost}
use Rattle.rent_fs.specs.declared.error.FsError.{FsError}
use Rattle.rent_fs.specs.declared.error.FsError.TheVariants as errors
use Rattle.rent_fs.specs.Outputs.{ended}

-- a result without the buffer that was lent is lost
abbrev pub with_loan : ℤ → Option (List ℕ) → Result (ℤ × List ℕ) FsError
with_loan result None = Err errors.KeyLost
with_loan result (Some buf) = Ok (result, buf)

-- the result of an operation that lent a buffer, and the buffer as it came back
abbrev pub lent : OneAnswer → Result (ℤ × List ℕ) FsError
lent (Done done) = with_loan done.result done.buf
lent (InUse buf) = Err errors.KeyInUse
lent (NoMemory buf) = Err errors.NoMemory
lent Lost = Err errors.KeyLost

-- what the result and the buffer give
abbrev pub where_lent : {T : Type 0} → (ℤ → List ℕ → Result T FsError) → Result (ℤ × List ℕ) FsError → Result T FsError
where_lent f (Ok p) = f p.0 p.1
where_lent f (Err e) = Err e

-- nothing but that an operation on a path is done
abbrev pub path_done : OneAnswer → Result (Unit {0}) FsError
path_done answer = where_lent (λ code buf. ended code) (lent answer)

-- a close is done whatever its result
abbrev pub closed : OneAnswer → Result (Unit {0}) FsError
closed (Done done) = Ok tt
closed (InUse buf) = Err errors.KeyInUse
closed (NoMemory buf) = Err errors.NoMemory
closed Lost = Err errors.KeyLost
