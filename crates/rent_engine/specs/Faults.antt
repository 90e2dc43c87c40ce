-- Why an engine's call failed.
use Rattle.std.specs.Prelude.{◌≡◌, ℕ, Bool, true, false, Option, Some, Result, Ok, Err}
use Rattle.std.specs.Int.{w32, cast_signed, cast_unsigned}
use Rattle.std.specs.IoError.{raw_os_error, error_kind}
use Rattle.std.specs.declared.io.Error.{Error}
use Rattle.std.specs.declared.io.ErrorKind.{ErrorKind}
use Rattle.std.specs.declared.io.ErrorKind.TheVariants.{AlreadyExists, WouldBlock, InvalidData, OutOfMemory}
use Rattle.uring_base.specs.declared.buffer.Buf.{Buf}
use Rattle.uring_base.specs.declared.errno.TheConstants.{EEXIST, EINVAL}
use Rattle.uring_submit.specs.declared.error.SubmitError.{SubmitError}
use Rattle.uring_submit.specs.declared.error.SubmitError.TheVariants as submit
use Rattle.rent_engine.specs.declared.fault.StartFault.{StartFault}
use Rattle.rent_engine.specs.declared.fault.StartFault.TheVariants as starts
use Rattle.rent_engine.specs.declared.fault.EngineFault.{EngineFault}
use Rattle.rent_engine.specs.declared.fault.EngineFault.TheVariants.{Stranger, Fault, NoMemory}

-- a fault of the partner
abbrev pub is_engine_fault : EngineFault → Bool
is_engine_fault (Stranger n) = false
is_engine_fault (Fault errno) = true
is_engine_fault NoMemory = false

-- a submitter's error, handed on with its error number
abbrev pub engine_fault_of : SubmitError → EngineFault
engine_fault_of submit.Exists = Fault (cast_unsigned w32 EEXIST)
engine_fault_of submit.NotRegistered = Fault (cast_unsigned w32 EINVAL)
engine_fault_of (submit.Fault errno) = Fault errno
engine_fault_of submit.NoMemory = NoMemory

-- a fault of the partner has the error number that it keeps now, and any other answer leaves the one that it kept
abbrev pub KeepsEngineErrno : {T : Type 0} → Result T EngineFault → ℕ → ℕ → Type 0
KeepsEngineErrno (Ok x) before after = after ≡ before
KeepsEngineErrno (Err (Stranger n)) before after = after ≡ before
KeepsEngineErrno (Err (Fault errno)) before after = after ≡ errno
KeepsEngineErrno (Err NoMemory) before after = after ≡ before

-- as an error of the system
abbrev pub EngineFaultIsToldAs : EngineFault → Error → Type 0
EngineFaultIsToldAs (Stranger n) e = error_kind e ≡ InvalidData
EngineFaultIsToldAs (Fault errno) e = raw_os_error e ≡ Some (cast_signed w32 errno)
EngineFaultIsToldAs NoMemory e = error_kind e ≡ OutOfMemory

abbrev pub start_kind : StartFault → ErrorKind
start_kind (starts.KeyInUse buf) = AlreadyExists
start_kind (starts.RingFull buf) = WouldBlock
start_kind (starts.NoMemory buf) = OutOfMemory

abbrev pub ending : {T : Type 0} → Result T EngineFault → Result (Unit {0}) EngineFault
ending (Ok _) = Ok tt
ending (Err fault) = Err fault

abbrev pub fault_buf : StartFault → Option Buf
fault_buf (starts.KeyInUse buf) = buf
fault_buf (starts.RingFull buf) = buf
fault_buf (starts.NoMemory buf) = buf

-- which refusal it is
abbrev pub is_key_in_use : {T : Type 0} → Result T StartFault → Bool
is_key_in_use (Ok _) = false
is_key_in_use (Err (starts.KeyInUse buf)) = true
is_key_in_use (Err (starts.RingFull buf)) = false
is_key_in_use (Err (starts.NoMemory buf)) = false

abbrev pub is_ring_full : {T : Type 0} → Result T StartFault → Bool
is_ring_full (Ok _) = false
is_ring_full (Err (starts.KeyInUse buf)) = false
is_ring_full (Err (starts.RingFull buf)) = true
is_ring_full (Err (starts.NoMemory buf)) = false

abbrev pub is_no_memory : {T : Type 0} → Result T StartFault → Bool
is_no_memory (Ok _) = false
is_no_memory (Err (starts.KeyInUse buf)) = false
is_no_memory (Err (starts.RingFull buf)) = false
is_no_memory (Err (starts.NoMemory buf)) = true
