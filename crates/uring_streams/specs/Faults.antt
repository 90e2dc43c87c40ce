-- Why an input was not read, as an error of the system.
use Rattle.std.specs.declared.io.ErrorKind.{ErrorKind}
use Rattle.std.specs.declared.io.ErrorKind.TheVariants.{Other, FileTooLarge, OutOfMemory}
use Rattle.uring_streams.specs.declared.read.InputFault.{InputFault}
use Rattle.uring_streams.specs.declared.read.InputFault.TheVariants.{ReadFault, TooLong, NoMemory}

abbrev pub input_fault_kind : InputFault → ErrorKind
input_fault_kind ReadFault = Other
input_fault_kind TooLong = FileTooLarge
input_fault_kind NoMemory = OutOfMemory
