-- How files are opened.
use Rattle.std.specs.Prelude.{ℕ, Bool, true, false, not, ◌&&◌, ◌||◌, if◌then◌else◌, bit_and, bit_or, ℤ, pos, Option, Some, None, Result, Ok, Err}
use Rattle.std.specs.Int.{w32, bit_not, cast_signed, cast_unsigned}
use Rattle.uring_base.specs.declared.errno.TheConstants.{EINVAL}
use Rattle.uring_base.specs.declared.fcntl.TheConstants.{O_ACCMODE, O_APPEND, O_CLOEXEC, O_CREAT, O_EXCL, O_RDONLY, O_RDWR, O_TRUNC, O_WRONLY}
use Rattle.rent_fs.specs.declared.error.FsError.{FsError}
use Rattle.rent_fs.specs.declared.error.FsError.TheVariants as errors
use Rattle.rent_fs.specs.declared.open_options.OpenOptions.{OpenOptions}
use Rattle.rent_fs.specs.declared.open_options.TheConstants.{NEW_FILE_MODE}

abbrev pub default_options : OpenOptions
default_options = record { read = false; write = false; append = false; truncate = false; create = false; create_new = false; mode = NEW_FILE_MODE; custom_flags = pos 0 }

-- by what is read, written and appended to
abbrev pub access_bits : Bool → Bool → Bool → Option ℕ
access_bits true false false = Some O_RDONLY
access_bits false true false = Some O_WRONLY
access_bits true true false = Some O_RDWR
access_bits false write true = Some (bit_or O_APPEND O_WRONLY)
access_bits true write true = Some (bit_or O_APPEND O_RDWR)
access_bits false false false = None

-- what is made or emptied must be written or appended to; and what is appended to is emptied only where it is new
abbrev pub refuses_creation : OpenOptions → Bool
refuses_creation o =
    (not o.write && not o.append && (o.truncate || o.create || o.create_new))
    || (o.append && o.truncate && not o.create_new)

abbrev pub made_bits : OpenOptions → ℕ
made_bits o =
    if o.create_new then bit_or O_CREAT O_EXCL
    else bit_or (if o.create then O_CREAT else 0) (if o.truncate then O_TRUNC else 0)

abbrev pub creation_bits : OpenOptions → Option ℕ
creation_bits o = if refuses_creation o then None else Some (made_bits o)

-- both modes, and the further flags without those of an access mode
abbrev pub joined_bits : ℤ → Option ℕ → Option ℕ → Option ℕ
joined_bits custom None creation = None
joined_bits custom (Some access) None = None
joined_bits custom (Some access) (Some creation) =
    Some (bit_or (bit_or (bit_or O_CLOEXEC access) creation) (bit_and (cast_unsigned w32 custom) (bit_not w32 O_ACCMODE)))

abbrev pub open_bits : OpenOptions → Option ℕ
open_bits o = joined_bits o.custom_flags (access_bits o.read o.write o.append) (creation_bits o)

abbrev pub bad_options : FsError
bad_options = errors.Os (cast_unsigned w32 EINVAL)

abbrev pub flags_or_refusal : Option ℕ → Result ℤ FsError
flags_or_refusal None = Err bad_options
flags_or_refusal (Some bits) = Ok (cast_signed w32 bits)

abbrev pub options_to_read : OpenOptions
options_to_read = record default_options { read = true }

abbrev pub options_to_create : OpenOptions
options_to_create = record default_options { write = true; create = true; truncate = true }
