-- A script that goes on by one line.
use Rattle.std.specs.Prelude.{◌+◌, [], ◌∷◌, ◌++◌, length, sum_by, not, Option, Some, None, nat_le, nat_lt, ◌&&◌, if◌then◌else◌}
use Rattle.uring_text.specs.declared.script.Line.{Line}
use Rattle.uring_text.specs.declared.script.Line.TheVariants as line
use Rattle.uring_text.specs.declared.limits.TheConstants.{MAX_FILES, MAX_JOBS, MAX_JOB_BYTES}
use Rattle.uring_text.specs.Script.{Told, buffer_len, has_number}

abbrev pub adds : Told → Line → Option Told
adds told line.Blank = Some told
adds told (line.File seed) =
    if nat_lt (length told.files) MAX_FILES && not (has_number seed.number told.files)
    then Some (record { files = told.files ++ seed ∷ []; choices = told.choices; jobs = told.jobs }) else None
adds told (line.Choose choice) = Some (record { files = told.files; choices = told.choices ++ choice ∷ []; jobs = told.jobs })
adds told (line.Job job) =
    if nat_lt (length told.jobs) MAX_JOBS && nat_le (sum_by buffer_len told.jobs + buffer_len job) MAX_JOB_BYTES
    then Some (record { files = told.files; choices = told.choices; jobs = told.jobs ++ job ∷ [] }) else None
