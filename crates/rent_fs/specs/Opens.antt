-- Openings of files.
use Rattle.std.specs.Prelude.{◌≡◌, ℕ, ◌+◌, ℤ, pos, negsuc, List, Option, Some, None, Result, Ok, Err}
use Rattle.rent_engine.specs.declared.one_op.Request.{Request}
use Rattle.rent_engine.specs.declared.one_op.OneAnswer.{OneAnswer}
use Rattle.rent_engine.specs.declared.sequences.PlanStep.{PlanStep}
use Rattle.rent_engine.specs.declared.sequences.PlanStep.TheVariants.{Gives}
use Rattle.rent_engine.specs.declared.sequences.Sequence.{Sequence}
use Rattle.rent_fs.specs.declared.error.FsError.{FsError}
use Rattle.rent_fs.specs.declared.error.FsError.TheVariants as errors
use Rattle.rent_fs.specs.declared.file.File.{File}
use Rattle.rent_fs.specs.declared.open.Opening.{Opening}
use Rattle.rent_fs.specs.Beginnings.{asks_first, gives_first}
use Rattle.rent_fs.specs.Entries.{open_entry}
use Rattle.rent_fs.specs.Lent.{lent, where_lent}
use Rattle.rent_fs.specs.OpenFlags.{bad_options}

-- a result that isn't negative is the file's number
abbrev pub opened_by : ℤ → List ℕ → Result File FsError
opened_by (pos n) buf = Ok (record { number = n })
opened_by (negsuc n) buf = Err (errors.Os (n + 1))

abbrev pub opened : OneAnswer → Result File FsError
opened answer = where_lent opened_by (lent answer)

abbrev pub FollowsOpening : Opening → OneAnswer → PlanStep (Result File FsError) → Opening → Type 0
FollowsOpening plan answer step next = step ≡ Gives (opened answer)

abbrev pub open_request : ℕ → ℕ → List ℕ → Request
open_request bits mode path = record { number = None; entry = open_entry bits mode; from = 0; buf = Some path }

-- without options that open a file, that is refused at once
abbrev pub opens_with : Opening → Option ℕ → ℕ → List ℕ → Sequence Opening (Result File FsError)
opens_with plan None mode path = gives_first plan (Err bad_options)
opens_with plan (Some bits) mode path = asks_first plan (open_request bits mode path)
