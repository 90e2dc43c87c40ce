-- Why bytes give no script, as an error of the system.
use Rattle.std.specs.declared.io.ErrorKind.{ErrorKind}
use Rattle.std.specs.declared.io.ErrorKind.TheVariants.{InvalidData, OutOfMemory}
use Rattle.uring_text.specs.declared.script.ScriptFault.{ScriptFault}
use Rattle.uring_text.specs.declared.script.ScriptFault.TheVariants.{Line, NoMemory}

abbrev pub script_fault_kind : ScriptFault → ErrorKind
script_fault_kind (Line number) = InvalidData
script_fault_kind NoMemory = OutOfMemory
