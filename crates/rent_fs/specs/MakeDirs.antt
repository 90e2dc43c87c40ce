-- States that make directories.
use Rattle.std.specs.Prelude.{◌≡◌, ℕ, Bool, true, false, ◌==◌, if◌then◌else◌, List, length, ℤ, Some, None, Result, Ok, Err, ◌⊎◌}
use Rattle.rent_engine.specs.declared.one_op.Request.{Request}
use Rattle.rent_engine.specs.declared.one_op.OneAnswer.{OneAnswer}
use Rattle.rent_engine.specs.declared.sequences.PlanStep.{PlanStep}
use Rattle.rent_engine.specs.declared.sequences.PlanStep.TheVariants.{Asks, Gives}
use Rattle.rent_engine.specs.declared.sequences.Sequence.{Sequence}
use Rattle.rent_fs.specs.declared.error.FsError.{FsError}
use Rattle.rent_fs.specs.declared.error.FsError.TheVariants as errors
use Rattle.rent_fs.specs.declared.creation.Phase.TheVariants.{Up}
use Rattle.rent_fs.specs.declared.make_dir.DirBuilder.{DirBuilder}
use Rattle.rent_fs.specs.declared.make_dir.Making.{Making}
use Rattle.rent_fs.specs.declared.make_dir.Making.TheVariants.{Plain, First, Goes}
use Rattle.rent_fs.specs.Beginnings.{asks_first, gives_first}
use Rattle.rent_fs.specs.Creation.{Next, Tries, Ends, creation_of, creation_request, made}
use Rattle.rent_fs.specs.Entries.{mk_dir_entry}
use Rattle.rent_fs.specs.Lent.{lent}
use Rattle.rent_fs.specs.Outputs.{ended}
use Rattle.rent_fs.specs.Stats.{is_directory, metadata_of}

abbrev pub Step : Type 0
Step = PlanStep (Result (Unit {0}) FsError)

-- the next operation is asked for, where there is memory for its path
abbrev pub MovesTo : Next → Step → Making → Type 0
MovesTo (Tries c) step next = ((step ≡ Asks (creation_request c)) × (next ≡ Goes c)) ⊎ (step ≡ Gives (Err errors.NoMemory))
MovesTo (Ends output) step next = step ≡ Gives output

-- What a result and the buffer that came back lead to. The path is what came back first; later a stat's bytes may say directory.
abbrev pub MakesBy : Making → ℤ → List ℕ → Step → Making → Type 0
MakesBy Plain result buf step next = step ≡ Gives (ended result)
MakesBy (First mode) result buf step next = MovesTo (made (creation_of buf mode) Up result false) step next
MakesBy (Goes c) result buf step next = MovesTo (made c c.phase result (is_directory (metadata_of buf))) step next

abbrev pub MakesWhere : Making → Result (ℤ × List ℕ) FsError → Step → Making → Type 0
MakesWhere making (Ok p) step next = MakesBy making p.0 p.1 step next
MakesWhere making (Err e) step next = step ≡ Gives (Err e)

abbrev pub FollowsMaking : Making → OneAnswer → Step → Making → Type 0
FollowsMaking making answer step next = MakesWhere making (lent answer) step next

abbrev pub mk_dir_request : ℕ → List ℕ → Request
mk_dir_request mode path = record { number = None; entry = mk_dir_entry mode; from = 0; buf = Some path }

-- the whole path is tried first; with those above it, an empty path is made already
abbrev pub makes_with : Bool → ℕ → List ℕ → Sequence Making (Result (Unit {0}) FsError)
makes_with true mode path =
    if length path == 0 then gives_first (First mode) (Ok tt)
    else asks_first (First mode) (mk_dir_request mode path)
makes_with false mode path = asks_first Plain (mk_dir_request mode path)

abbrev pub makes_dir : DirBuilder → List ℕ → Sequence Making (Result (Unit {0}) FsError)
makes_dir builder path = makes_with builder.recursive builder.mode path
