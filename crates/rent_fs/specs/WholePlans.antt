-- States that move whole buffers.
use Rattle.std.specs.Prelude.{◌≡◌, ℕ, ◌-◌, ◌==◌, if◌then◌else◌, List, [], length, ℤ, Option, Some, None, Result, Ok, Err}
use Rattle.uring_base.specs.declared.squeue.Entry.{Entry}
use Rattle.rent_engine.specs.declared.one_op.Request.{Request}
use Rattle.rent_engine.specs.declared.one_op.Stage.TheVariants.{Offers, Over}
use Rattle.rent_engine.specs.declared.one_op.OneAnswer.{OneAnswer}
use Rattle.rent_engine.specs.declared.one_op.OneAnswer.TheVariants as answers
use Rattle.rent_engine.specs.declared.sequences.PlanStep.{PlanStep}
use Rattle.rent_engine.specs.declared.sequences.PlanStep.TheVariants.{Asks, Gives}
use Rattle.rent_engine.specs.declared.sequences.Sequence.{Sequence}
use Rattle.rent_engine.specs.Plans.{no_flags}
use Rattle.rent_fs.specs.declared.error.FsError.{FsError}
use Rattle.rent_fs.specs.declared.error.FsError.TheVariants as errors
use Rattle.rent_fs.specs.declared.answers.Progress.{Progress}
use Rattle.rent_fs.specs.declared.answers.Progress.TheVariants.{Going, Whole, Failed}
use Rattle.rent_fs.specs.declared.answers.WholeFault.{WholeFault}
use Rattle.rent_fs.specs.declared.answers.WholeFault.TheVariants as faults
use Rattle.rent_fs.specs.declared.whole_buffer.WholeBuffer.{WholeBuffer}
use Rattle.rent_fs.specs.Outputs.{or_empty}
use Rattle.rent_fs.specs.WholeBuffer.{after_answer}

-- a fault as an error of files; a count of 0 has an error of its own
abbrev pub whole_error : FsError → WholeFault → FsError
whole_error nothing (faults.Os errno) = errors.Os errno
whole_error nothing faults.Nothing = nothing
whole_error nothing faults.Interrupted = errors.Interrupted
whole_error nothing faults.BadCount = errors.BadCount
whole_error nothing faults.KeyInUse = errors.KeyInUse
whole_error nothing faults.KeyLost = errors.KeyLost
whole_error nothing faults.NoMemory = errors.NoMemory

module _ {M : Type 0} (asks : M → ℕ → Entry) where
  -- the operation for the rest begins behind what is moved
  abbrev pub rest_request : WholeBuffer M → List ℕ → Request
  rest_request plan buf = record { number = None; entry = asks plan.transfer plan.left.rest; from = plan.len - plan.left.rest; buf = Some buf }

  abbrev pub whole_plan : M → List ℕ → WholeBuffer M
  whole_plan transfer buf = record { transfer = transfer; len = length buf; left = record { rest = length buf; breaks = 0 } }

  module _ {E : Type 0} (tells : WholeFault → E) where
    abbrev pub fails : WholeFault → List ℕ → PlanStep (Result (Unit {0}) E × List ℕ)
    fails fault buf = Gives (Err (tells fault), buf)

    -- the buffer comes back, or the rest of it is asked for
    abbrev pub StepsBy : WholeBuffer M → Progress → List ℕ → PlanStep (Result (Unit {0}) E × List ℕ) → WholeBuffer M → Type 0
    StepsBy plan (Going left) buf step next = (next ≡ record plan { left = left }) × (step ≡ Asks (rest_request next buf))
    StepsBy plan Whole buf step next = step ≡ Gives (Ok tt, buf)
    StepsBy plan (Failed fault) buf step next = step ≡ fails fault buf

    abbrev pub StepsWith : WholeBuffer M → ℤ → Option (List ℕ) → PlanStep (Result (Unit {0}) E × List ℕ) → WholeBuffer M → Type 0
    StepsWith plan result None step next = step ≡ fails faults.KeyLost []
    StepsWith plan result (Some buf) step next = StepsBy plan (after_answer plan.len (Going plan.left) (record { result = result; length = length buf })) buf step next

    -- what became of an operation leads to this step
    abbrev pub FollowsWhole : WholeBuffer M → OneAnswer → PlanStep (Result (Unit {0}) E × List ℕ) → WholeBuffer M → Type 0
    FollowsWhole plan (answers.Done done) step next = StepsWith plan done.result done.buf step next
    FollowsWhole plan (answers.InUse buf) step next = step ≡ fails faults.KeyInUse (or_empty buf)
    FollowsWhole plan (answers.NoMemory buf) step next = step ≡ fails faults.NoMemory (or_empty buf)
    FollowsWhole plan answers.Lost step next = step ≡ fails faults.KeyLost []

  -- an empty buffer comes back at once, and of another one the whole is asked for
  abbrev pub begun : {E : Type 0} → M → List ℕ → Sequence (WholeBuffer M) (Result (Unit {0}) E × List ℕ)
  begun transfer buf =
      if length buf == 0
      then record { plan = whole_plan transfer buf; op = Over; given = Some (Ok tt, buf); number = None; flags = no_flags }
      else record { plan = whole_plan transfer buf; op = Offers (rest_request (whole_plan transfer buf) buf); given = None; number = None; flags = no_flags }
