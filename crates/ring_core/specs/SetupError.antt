-- Why a ring wasn't made, as an error of the system.
use Rattle.std.specs.declared.io.ErrorKind.{ErrorKind}
use Rattle.std.specs.declared.io.ErrorKind.TheVariants.{InvalidInput, OutOfMemory}
use Rattle.ring_core.specs.declared.error.SetupError.{SetupError}
use Rattle.ring_core.specs.declared.error.SetupError.TheVariants.{Invalid, NoMemory}

-- its kind
abbrev pub setup_kind : SetupError → ErrorKind
setup_kind Invalid = InvalidInput
setup_kind NoMemory = OutOfMemory
