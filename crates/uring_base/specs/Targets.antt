-- What an operation acts on, and how that stands in an entry.
use Rattle.std.specs.Prelude.{ℕ, bit_or}
use Rattle.std.specs.Int.{w32, cast_signed}
use Rattle.uring_base.specs.declared.squeue.Entry.{Entry}
use Rattle.uring_base.specs.Words.{bits_of}
use Rattle.uring_base.specs.FlagBits.{bits_in}
use Rattle.uring_base.specs.declared.flags.TheConstants.Flags.{FIXED_FILE}
use Rattle.uring_base.specs.declared.types.Target.{Target}
use Rattle.uring_base.specs.declared.types.Target.TheVariants.{Fd, Fixed}

-- an entry on its target: a raw descriptor as it is; a registered file by the 32 bits of its index and the mark FIXED_FILE
abbrev pub on : Target → Entry → Entry
on (Fd n) entry = record entry { fd = n }
on (Fixed i) entry = record entry { fd = cast_signed w32 i; flags = bit_or entry.flags (bits_in FIXED_FILE) }

-- the number of a target in an unsigned word: the 32 bits of a raw descriptor, or an index as it is
abbrev pub number_of : Target → ℕ
number_of (Fd n) = bits_of n
number_of (Fixed i) = i
