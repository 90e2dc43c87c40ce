-- States that read and write whole files.
use Rattle.std.specs.Prelude.{ℕ, Bool, true, false, bit_or, [], Some, None}
use Rattle.std.specs.Int.{w32, cast_unsigned}
use Rattle.uring_base.specs.declared.errno.TheConstants.{EFBIG}
use Rattle.uring_base.specs.declared.fcntl.TheConstants.{O_CLOEXEC, O_CREAT, O_RDONLY, O_TRUNC, O_WRONLY}
use Rattle.rent_engine.specs.declared.one_op.Request.{Request}
use Rattle.rent_fs.specs.declared.error.FsError.{FsError}
use Rattle.rent_fs.specs.declared.error.FsError.TheVariants.{Os, UnexpectedEof, WriteZero, Interrupted, BadCount, WholeTree, NoBirthTime, KeyInUse, KeyLost, RingFull, Stranger, NoMemory}
use Rattle.rent_fs.specs.declared.file.File.{File}
use Rattle.rent_fs.specs.Entries.{close_entry, stat_file_entry}
use Rattle.rent_fs.specs.Files.{file_number}

-- a file whose work ends so may stay open
abbrev pub is_at_once : FsError → Bool
is_at_once (Os errno) = false
is_at_once UnexpectedEof = false
is_at_once WriteZero = false
is_at_once Interrupted = false
is_at_once BadCount = false
is_at_once WholeTree = false
is_at_once NoBirthTime = false
is_at_once KeyInUse = true
is_at_once KeyLost = true
is_at_once RingFull = false
is_at_once (Stranger number) = false
is_at_once NoMemory = true

-- more than a buffer may have
abbrev pub too_long : FsError
too_long = Os (cast_unsigned w32 EFBIG)

abbrev pub close_request : File → Request
close_request file = record { number = None; entry = close_entry (file_number file); from = 0; buf = None }

abbrev pub stat_request : File → Request
stat_request file = record { number = None; entry = stat_file_entry (file_number file); from = 0; buf = Some [] }

-- how a file is opened to be read, and to be written anew
abbrev pub read_bits : ℕ
read_bits = bit_or O_CLOEXEC O_RDONLY

abbrev pub write_bits : ℕ
write_bits = bit_or (bit_or (bit_or O_CLOEXEC O_WRONLY) O_CREAT) O_TRUNC
