-- States that write whole files.
use Rattle.std.specs.Prelude.{◌≡◌, ℕ, Bool, true, false, ◌==◌, nat_lt, ℤ, List, length, Option, None, Result, Ok, Err}
use Rattle.uring_base.specs.declared.limits.TheConstants.{MAX_BUFFER}
use Rattle.rent_engine.specs.declared.one_op.OneAnswer.{OneAnswer}
use Rattle.rent_engine.specs.declared.one_op.OneAnswer.TheVariants as answers
use Rattle.rent_engine.specs.declared.sequences.PlanStep.{PlanStep}
use Rattle.rent_engine.specs.declared.sequences.PlanStep.TheVariants.{Asks, Gives}
use Rattle.rent_engine.specs.declared.sequences.Sequence.{Sequence}
use Rattle.rent_fs.specs.declared.error.FsError.{FsError}
use Rattle.rent_fs.specs.declared.error.FsError.TheVariants as errors
use Rattle.rent_fs.specs.declared.file.File.{File}
use Rattle.rent_fs.specs.declared.open_options.TheConstants.{NEW_FILE_MODE}
use Rattle.rent_fs.specs.declared.write_all_at.WholeWrite.{WholeWrite}
use Rattle.rent_fs.specs.declared.write_whole.WholeFileWrite.{WholeFileWrite}
use Rattle.rent_fs.specs.declared.write_whole.WholeFileWrite.TheVariants.{Opens, Writes, Closes}
use Rattle.rent_fs.specs.declared.whole_buffer.WholeBuffer.{WholeBuffer}
use Rattle.rent_fs.specs.Beginnings.{asks_first}
use Rattle.rent_fs.specs.Files.{file_number}
use Rattle.rent_fs.specs.Lent.{where_lent, with_loan}
use Rattle.rent_fs.specs.Opens.{open_request, opened_by}
use Rattle.rent_fs.specs.Outputs.{or_empty}
use Rattle.rent_fs.specs.Transfers.{rest_write, whole_write}
use Rattle.rent_fs.specs.WholeFiles.{close_request, is_at_once, too_long, write_bits}
use Rattle.rent_fs.specs.WholePlans.{rest_request, whole_error, whole_plan, StepsWith}

abbrev pub WriteStep : Type 0
WriteStep = PlanStep (Result (Unit {0}) FsError × List ℕ)

-- the file is closed, and this is given then
abbrev pub WriteCloses : File → Result (Unit {0}) FsError → List ℕ → WriteStep → WholeFileWrite → Type 0
WriteCloses file kept buf step next = (step ≡ Asks (close_request file)) × (next ≡ Closes kept buf)

-- it fails, at once or once the file is closed
abbrev pub WriteFails : Bool → File → FsError → List ℕ → WriteStep → WholeFileWrite → Type 0
WriteFails true file e buf step next = step ≡ Gives (Err e, buf)
WriteFails false file e buf step next = WriteCloses file (Err e) buf step next

-- this buffer is written at its front
abbrev pub WriteWrites : File → List ℕ → WriteStep → WholeFileWrite → Type 0
WriteWrites file buf step next =
    let whole = whole_plan rest_write (whole_write (file_number file) 0 buf) buf in
    (step ≡ Asks (rest_request rest_write whole buf)) × (next ≡ Writes file whole)

-- by whether the contents are too long, and whether they are empty
abbrev pub WriteBegins : Bool → Bool → File → List ℕ → WriteStep → WholeFileWrite → Type 0
WriteBegins true none file contents step next = WriteCloses file (Err too_long) contents step next
WriteBegins false true file contents step next = WriteCloses file (Ok tt) contents step next
WriteBegins false false file contents step next = WriteWrites file contents step next

abbrev pub WriteOpens : List ℕ → Result File FsError → WriteStep → WholeFileWrite → Type 0
WriteOpens contents (Err e) step next = step ≡ Gives (Err e, contents)
WriteOpens contents (Ok file) step next = WriteBegins (nat_lt MAX_BUFFER (length contents)) (length contents == 0) file contents step next

abbrev pub WriteEnds : File → Result (Unit {0}) FsError → List ℕ → WriteStep → WholeFileWrite → Type 0
WriteEnds file (Ok _) buf step next = WriteCloses file (Ok tt) buf step next
WriteEnds file (Err e) buf step next = WriteFails (is_at_once e) file e buf step next

-- by a step of the whole buffer
abbrev pub WriteMoves : File → WholeBuffer WholeWrite → WriteStep → WriteStep → WholeFileWrite → Type 0
WriteMoves file whole (Asks request) step next = (step ≡ Asks request) × (next ≡ Writes file whole)
WriteMoves file whole (Gives output) step next = WriteEnds file output.0 output.1 step next

-- the whole buffer makes a step, and that leads on
pub record WriteSteps (file : File) (whole : WholeBuffer WholeWrite) (result : ℤ) (buf : Option (List ℕ)) (step : WriteStep) (next : WholeFileWrite) : Type 0 where
  pub inner : WriteStep
  pub after : WholeBuffer WholeWrite
  pub steps : StepsWith rest_write (whole_error errors.WriteZero) whole result buf inner after
  pub moves : WriteMoves file after inner step next

-- what a result and the buffer that came back lead to
abbrev pub WriteTakes : WholeFileWrite → ℤ → Option (List ℕ) → WriteStep → WholeFileWrite → Type 0
WriteTakes (Opens contents) result buf step next = WriteOpens contents (where_lent opened_by (with_loan result buf)) step next
WriteTakes (Writes file whole) result buf step next = WriteSteps file whole result buf step next
WriteTakes (Closes kept contents) result buf step next = step ≡ Gives (kept, contents)

-- what is to be written comes back, where it isn't lent, or wasn't
abbrev pub write_ends : WholeFileWrite → FsError → Option (List ℕ) → WriteStep
write_ends (Opens contents) e buf = Gives (Err e, contents)
write_ends (Writes file whole) e buf = Gives (Err e, or_empty buf)
write_ends (Closes kept contents) e buf = Gives (Err e, contents)

-- what became of its operation leads to this step
abbrev pub FollowsWrite : WholeFileWrite → OneAnswer → WriteStep → WholeFileWrite → Type 0
FollowsWrite plan (answers.Done done) step next = WriteTakes plan done.result done.buf step next
FollowsWrite plan (answers.InUse buf) step next = step ≡ write_ends plan errors.KeyInUse buf
FollowsWrite plan (answers.NoMemory buf) step next = step ≡ write_ends plan errors.NoMemory buf
FollowsWrite plan answers.Lost step next = step ≡ write_ends plan errors.KeyLost None

abbrev pub writes_whole : List ℕ → List ℕ → Sequence WholeFileWrite (Result (Unit {0}) FsError × List ℕ)
writes_whole path contents = asks_first (Opens contents) (open_request write_bits NEW_FILE_MODE path)
