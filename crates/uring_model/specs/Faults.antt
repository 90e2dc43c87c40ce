-- Why a run of jobs has no report, as an error of the system.
use Rattle.std.specs.Prelude.{◌≡◌}
use Rattle.std.specs.IoError.{error_kind}
use Rattle.std.specs.declared.io.Error.{Error}
use Rattle.std.specs.declared.io.ErrorKind.{ErrorKind}
use Rattle.std.specs.declared.io.ErrorKind.TheVariants.{InvalidInput, OutOfMemory, Other}
use Rattle.uring_model.specs.declared.jobs.RunFault.{RunFault}
use Rattle.uring_model.specs.declared.jobs.RunFault.TheVariants.{BadSize, BadJob, Stranger, Stalled, PartnerFault, NoMemory}

-- its kind: what the caller gave isn't valid, there is no memory, or the partner failed
abbrev pub run_fault_kind : RunFault → ErrorKind
run_fault_kind BadSize = InvalidInput
run_fault_kind (BadJob job) = InvalidInput
run_fault_kind (Stranger job) = Other
run_fault_kind Stalled = Other
run_fault_kind PartnerFault = Other
run_fault_kind NoMemory = OutOfMemory

-- the error of the system has its kind
abbrev pub HasKindOf : RunFault → Error → Type 0
HasKindOf fault error = error_kind error ≡ run_fault_kind fault
