-- Why work on files failed.
use Rattle.std.specs.Prelude.{◌≡◌, ℕ, Some}
use Rattle.std.specs.Int.{w32, cast_signed}
use Rattle.std.specs.IoError.{raw_os_error, error_kind}
use Rattle.std.specs.declared.io.Error.{Error}
use Rattle.std.specs.declared.io.ErrorKind.TheVariants as kinds
use Rattle.rent_engine.specs.declared.fault.StartFault.{StartFault}
use Rattle.rent_engine.specs.declared.fault.StartFault.TheVariants as starts
use Rattle.rent_engine.specs.declared.fault.EngineFault.{EngineFault}
use Rattle.rent_engine.specs.declared.fault.EngineFault.TheVariants as faults
use Rattle.rent_fs.specs.declared.error.FsError.{FsError}
use Rattle.rent_fs.specs.declared.error.FsError.TheVariants.{Os, UnexpectedEof, WriteZero, Interrupted, BadCount, WholeTree, NoBirthTime, KeyInUse, KeyLost, RingFull, Stranger, NoMemory}

-- the error number of an operation that failed, and 0 for another fault
abbrev pub errno_of : FsError → ℕ
errno_of (Os errno) = errno
errno_of UnexpectedEof = 0
errno_of WriteZero = 0
errno_of Interrupted = 0
errno_of BadCount = 0
errno_of WholeTree = 0
errno_of NoBirthTime = 0
errno_of KeyInUse = 0
errno_of KeyLost = 0
errno_of RingFull = 0
errno_of (Stranger number) = 0
errno_of NoMemory = 0

-- why a start was refused, without its buffer
abbrev pub start_error_of : StartFault → FsError
start_error_of (starts.KeyInUse buf) = KeyInUse
start_error_of (starts.RingFull buf) = RingFull
start_error_of (starts.NoMemory buf) = NoMemory

-- an engine's fault, handed on with its number
abbrev pub engine_error_of : EngineFault → FsError
engine_error_of (faults.Stranger number) = Stranger number
engine_error_of (faults.Fault errno) = Os errno
engine_error_of faults.NoMemory = NoMemory

-- as an error of the system: the same error number, or the kind that is nearest
abbrev pub FsErrorIsToldAs : FsError → Error → Type 0
FsErrorIsToldAs (Os errno) e = raw_os_error e ≡ Some (cast_signed w32 errno)
FsErrorIsToldAs UnexpectedEof e = error_kind e ≡ kinds.UnexpectedEof
FsErrorIsToldAs WriteZero e = error_kind e ≡ kinds.WriteZero
FsErrorIsToldAs Interrupted e = error_kind e ≡ kinds.Interrupted
FsErrorIsToldAs BadCount e = error_kind e ≡ kinds.InvalidData
FsErrorIsToldAs WholeTree e = error_kind e ≡ kinds.Other
FsErrorIsToldAs NoBirthTime e = error_kind e ≡ kinds.Unsupported
FsErrorIsToldAs KeyInUse e = error_kind e ≡ kinds.AlreadyExists
FsErrorIsToldAs KeyLost e = error_kind e ≡ kinds.Other
FsErrorIsToldAs RingFull e = error_kind e ≡ kinds.WouldBlock
FsErrorIsToldAs (Stranger number) e = error_kind e ≡ kinds.InvalidData
FsErrorIsToldAs NoMemory e = error_kind e ≡ kinds.OutOfMemory
