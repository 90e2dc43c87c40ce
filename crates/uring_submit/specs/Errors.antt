-- Why a submitter's call failed.
use Rattle.std.specs.Prelude.{◌≡◌, ℕ, Bool, true, false, Some, Result, Ok, Err}
use Rattle.std.specs.Int.{w32, cast_signed}
use Rattle.std.specs.IoError.{raw_os_error, error_kind}
use Rattle.std.specs.declared.io.Error.{Error}
use Rattle.std.specs.declared.io.ErrorKind.TheVariants.{OutOfMemory}
use Rattle.uring_base.specs.declared.errno.TheConstants.{EEXIST, EINVAL}
use Rattle.partner_traits.specs.declared.call.PartnerError.{PartnerError}
use Rattle.partner_traits.specs.declared.call.PartnerError.TheVariants as partner
use Rattle.uring_submit.specs.declared.error.SubmitError.{SubmitError}
use Rattle.uring_submit.specs.declared.error.SubmitError.TheVariants.{Exists, NotRegistered, Fault, NoMemory}

-- a partner's error, handed on
abbrev pub error_of : PartnerError → SubmitError
error_of (partner.Fault errno) = Fault errno
error_of partner.NoMemory = NoMemory

abbrev pub is_submit_fault : SubmitError → Bool
is_submit_fault Exists = false
is_submit_fault NotRegistered = false
is_submit_fault (Fault errno) = true
is_submit_fault NoMemory = false

-- one that a partner answered
abbrev pub is_of_partner : SubmitError → Bool
is_of_partner Exists = false
is_of_partner NotRegistered = false
is_of_partner (Fault errno) = true
is_of_partner NoMemory = true

-- a fault has the error number that the partner keeps now, and any other answer leaves the one that it kept
abbrev pub KeepsSubmitErrno : {T : Type 0} → Result T SubmitError → ℕ → ℕ → Type 0
KeepsSubmitErrno (Ok x) before after = after ≡ before
KeepsSubmitErrno (Err Exists) before after = after ≡ before
KeepsSubmitErrno (Err NotRegistered) before after = after ≡ before
KeepsSubmitErrno (Err (Fault errno)) before after = after ≡ errno
KeepsSubmitErrno (Err NoMemory) before after = after ≡ before

-- as an error of the system: the error number of Linux, or want of memory
abbrev pub SubmitErrorIsToldAs : SubmitError → Error → Type 0
SubmitErrorIsToldAs Exists e = raw_os_error e ≡ Some EEXIST
SubmitErrorIsToldAs NotRegistered e = raw_os_error e ≡ Some EINVAL
SubmitErrorIsToldAs (Fault errno) e = raw_os_error e ≡ Some (cast_signed w32 errno)
SubmitErrorIsToldAs NoMemory e = error_kind e ≡ OutOfMemory
