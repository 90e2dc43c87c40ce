-- What files are.
use Rattle.std.specs.Prelude.{ℕ, ◌+◌, ◌%◌, ◌^◌, Bool, true, false, ◌==◌, bit_and, ℤ, pos, negsuc, List, Result, Ok, Err}
use Rattle.std.specs.Int.{w64, cast_signed}
use Rattle.uring_base.specs.declared.stat.TheConstants.{S_IFDIR, S_IFMT}
use Rattle.fs_data.specs.declared.moment.Moment.{Moment}
use Rattle.fs_data.specs.declared.stat_record.StatRecord.{StatRecord}
use Rattle.fs_data.specs.Records.{record_of}
use Rattle.rent_engine.specs.declared.one_op.OneAnswer.{OneAnswer}
use Rattle.rent_fs.specs.declared.error.FsError.{FsError}
use Rattle.rent_fs.specs.declared.error.FsError.TheVariants as errors
use Rattle.rent_fs.specs.declared.metadata.Metadata.{Metadata}
use Rattle.rent_fs.specs.Lent.{lent, where_lent}

abbrev pub stat_of : Metadata → StatRecord
stat_of metadata = metadata.stat

abbrev pub metadata_of : List ℕ → Metadata
metadata_of bytes = record { stat = record_of bytes }

-- the low 32 bits of a word
abbrev pub low_word : ℕ → ℕ
low_word word = word % 2 ^ 32

abbrev pub mode_in : Metadata → ℕ
mode_in metadata = low_word (stat_of metadata).mode

abbrev pub is_directory : Metadata → Bool
is_directory metadata = bit_and (mode_in metadata) S_IFMT == S_IFDIR

abbrev pub moment_of : ℕ → ℕ → Moment
moment_of secs nanos = record { secs = cast_signed w64 secs; nanos = low_word nanos }

-- its birth, where it is told
abbrev pub born : Bool → StatRecord → Result Moment FsError
born true stat = Ok (moment_of stat.btime stat.btime_nsec)
born false stat = Err errors.NoBirthTime

-- what a stat's result and bytes say
abbrev pub stated_by : ℤ → List ℕ → Result Metadata FsError
stated_by (pos n) bytes = Ok (metadata_of bytes)
stated_by (negsuc n) bytes = Err (errors.Os (n + 1))

abbrev pub stated : OneAnswer → Result Metadata FsError
stated answer = where_lent stated_by (lent answer)
