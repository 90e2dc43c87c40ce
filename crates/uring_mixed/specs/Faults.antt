-- The kind of error that a fault is to the system.
use Rattle.std.specs.declared.io.ErrorKind.{ErrorKind}
use Rattle.std.specs.declared.io.ErrorKind.TheVariants.{InvalidData, UnexpectedEof, OutOfMemory}
use Rattle.uring_mixed.specs.declared.fault.MixedFault.{MixedFault}
use Rattle.uring_mixed.specs.declared.fault.MixedFault.TheVariants.{Mark, Cut, NoMemory}

abbrev pub mixed_fault_kind : MixedFault → ErrorKind
mixed_fault_kind (Mark place) = InvalidData
mixed_fault_kind (Cut place) = UnexpectedEof
mixed_fault_kind NoMemory = OutOfMemory
