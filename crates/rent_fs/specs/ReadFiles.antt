-- States that read whole files.
use Rattle.std.specs.Prelude.{◌≡◌, ℕ, Bool, true, false, ◌==◌, nat_lt, ℤ, List, [], replicate, Option, Result, Ok, Err, ◌⊎◌}
use Rattle.uring_base.specs.declared.limits.TheConstants.{MAX_BUFFER}
use Rattle.rent_engine.specs.declared.one_op.OneAnswer.{OneAnswer}
use Rattle.rent_engine.specs.declared.one_op.OneAnswer.TheVariants as answers
use Rattle.rent_engine.specs.declared.sequences.PlanStep.{PlanStep}
use Rattle.rent_engine.specs.declared.sequences.PlanStep.TheVariants.{Asks, Gives}
use Rattle.rent_engine.specs.declared.sequences.Sequence.{Sequence}
use Rattle.rent_fs.specs.declared.error.FsError.{FsError}
use Rattle.rent_fs.specs.declared.error.FsError.TheVariants as errors
use Rattle.rent_fs.specs.declared.file.File.{File}
use Rattle.rent_fs.specs.declared.metadata.Metadata.{Metadata}
use Rattle.rent_fs.specs.declared.open_options.TheConstants.{NEW_FILE_MODE}
use Rattle.rent_fs.specs.declared.read_exact_at.WholeRead.{WholeRead}
use Rattle.rent_fs.specs.declared.read_whole.WholeFileRead.{WholeFileRead}
use Rattle.rent_fs.specs.declared.read_whole.WholeFileRead.TheVariants.{Opens, Stats, Reads, Closes}
use Rattle.rent_fs.specs.declared.whole_buffer.WholeBuffer.{WholeBuffer}
use Rattle.rent_fs.specs.Beginnings.{asks_first}
use Rattle.rent_fs.specs.Files.{file_number}
use Rattle.rent_fs.specs.Lent.{where_lent, with_loan}
use Rattle.rent_fs.specs.Opens.{open_request, opened_by}
use Rattle.rent_fs.specs.Stats.{stat_of, stated, stated_by}
use Rattle.rent_fs.specs.Transfers.{rest_read, whole_read}
use Rattle.rent_fs.specs.WholeFiles.{close_request, is_at_once, read_bits, stat_request, too_long}
use Rattle.rent_fs.specs.WholePlans.{rest_request, whole_error, whole_plan, StepsWith}

abbrev pub ReadStep : Type 0
ReadStep = PlanStep (Result (List ℕ) FsError)

-- the file is closed, and this is given then
abbrev pub ReadCloses : File → Result (List ℕ) FsError → ReadStep → WholeFileRead → Type 0
ReadCloses file kept step next = (step ≡ Asks (close_request file)) × (next ≡ Closes kept)

-- it fails, at once or once the file is closed
abbrev pub ReadFails : Bool → File → FsError → ReadStep → WholeFileRead → Type 0
ReadFails true file e step next = step ≡ Gives (Err e)
ReadFails false file e step next = ReadCloses file (Err e) step next

abbrev pub ReadOpens : Result File FsError → ReadStep → WholeFileRead → Type 0
ReadOpens (Err e) step next = step ≡ Gives (Err e)
ReadOpens (Ok file) step next = (step ≡ Asks (stat_request file)) × (next ≡ Stats file)

-- it is read from its front into this buffer
abbrev pub ReadReads : File → List ℕ → ReadStep → WholeFileRead → Type 0
ReadReads file buf step next =
    let whole = whole_plan rest_read (whole_read (file_number file) 0 buf) buf in
    (step ≡ Asks (rest_request rest_read whole buf)) × (next ≡ Reads file whole)

-- by whether the size is too great, and whether it is 0
abbrev pub ReadSizesBy : Bool → Bool → File → ℕ → ReadStep → WholeFileRead → Type 0
ReadSizesBy true none file size step next = ReadCloses file (Err too_long) step next
ReadSizesBy false true file size step next = ReadCloses file (Ok []) step next
ReadSizesBy false false file size step next = ReadReads file (replicate size 0) step next ⊎ (step ≡ Gives (Err errors.NoMemory))

-- as many bytes as its size are read
abbrev pub ReadSizes : File → ℕ → ReadStep → WholeFileRead → Type 0
ReadSizes file size step next = ReadSizesBy (nat_lt MAX_BUFFER size) (size == 0) file size step next

abbrev pub ReadStatsBy : File → Result Metadata FsError → ReadStep → WholeFileRead → Type 0
ReadStatsBy file (Err e) step next = ReadFails (is_at_once e) file e step next
ReadStatsBy file (Ok metadata) step next = ReadSizes file (stat_of metadata).size step next

abbrev pub ReadStats : File → OneAnswer → ReadStep → WholeFileRead → Type 0
ReadStats file answer step next = ReadStatsBy file (stated answer) step next

abbrev pub ReadEnds : File → Result (Unit {0}) FsError → List ℕ → ReadStep → WholeFileRead → Type 0
ReadEnds file (Ok _) buf step next = ReadCloses file (Ok buf) step next
ReadEnds file (Err e) buf step next = ReadFails (is_at_once e) file e step next

-- by a step of the whole buffer
abbrev pub ReadMoves : File → WholeBuffer WholeRead → PlanStep (Result (Unit {0}) FsError × List ℕ) → ReadStep → WholeFileRead → Type 0
ReadMoves file whole (Asks request) step next = (step ≡ Asks request) × (next ≡ Reads file whole)
ReadMoves file whole (Gives output) step next = ReadEnds file output.0 output.1 step next

-- the whole buffer makes a step, and that leads on
pub record ReadSteps (file : File) (whole : WholeBuffer WholeRead) (result : ℤ) (buf : Option (List ℕ)) (step : ReadStep) (next : WholeFileRead) : Type 0 where
  pub inner : PlanStep (Result (Unit {0}) FsError × List ℕ)
  pub after : WholeBuffer WholeRead
  pub steps : StepsWith rest_read (whole_error errors.UnexpectedEof) whole result buf inner after
  pub moves : ReadMoves file after inner step next

-- what a result and the buffer that came back lead to
abbrev pub ReadTakes : WholeFileRead → ℤ → Option (List ℕ) → ReadStep → WholeFileRead → Type 0
ReadTakes Opens result buf step next = ReadOpens (where_lent opened_by (with_loan result buf)) step next
ReadTakes (Stats file) result buf step next = ReadStatsBy file (where_lent stated_by (with_loan result buf)) step next
ReadTakes (Reads file whole) result buf step next = ReadSteps file whole result buf step next
ReadTakes (Closes kept) result buf step next = step ≡ Gives kept

-- what became of its operation leads to this step
abbrev pub FollowsRead : WholeFileRead → OneAnswer → ReadStep → WholeFileRead → Type 0
FollowsRead plan (answers.Done done) step next = ReadTakes plan done.result done.buf step next
FollowsRead plan (answers.InUse buf) step next = step ≡ Gives (Err errors.KeyInUse)
FollowsRead plan (answers.NoMemory buf) step next = step ≡ Gives (Err errors.NoMemory)
FollowsRead plan answers.Lost step next = step ≡ Gives (Err errors.KeyLost)

abbrev pub reads_whole : List ℕ → Sequence WholeFileRead (Result (List ℕ) FsError)
reads_whole path = asks_first Opens (open_request read_bits NEW_FILE_MODE path)
