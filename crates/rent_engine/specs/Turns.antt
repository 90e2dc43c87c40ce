-- What one turn does with the rings, the partner and the operations.
use Rattle.std.specs.Prelude.{◌≡◌, ℕ, List, [], length, Option, None, IfSome, IfOk, Result, Ok, Err}
use Rattle.uring_base.specs.declared.events.Taken.{Taken}
use Rattle.uring_base.specs.declared.events.Completion.{Completion}
use Rattle.uring_base.specs.declared.events.LogEvent.{LogEvent}
use Rattle.uring_model.specs.Schedule.{Machine, State}
use Rattle.ring_setup.specs.declared.parameters.Parameters.{Parameters}
use Rattle.ring_traits.specs.Lists.{Lists, Becomes, all_published}
use Rattle.uring_submit.specs.declared.error.SubmitError.{SubmitError}
use Rattle.uring_submit.specs.Decisions.{wanted_call}
use Rattle.uring_submit.specs.Submits.{EntersOnce}
use Rattle.rent_table.specs.Ops.{Ops}
use Rattle.rent_table.specs.Steps.{KeptSteps}
use Rattle.rent_engine.specs.declared.fault.EngineFault.{EngineFault}
use Rattle.rent_engine.specs.declared.ops.TurnReport.{TurnReport}
use Rattle.rent_engine.specs.Engines.{Pumped, finals_in}
use Rattle.rent_engine.specs.Faults.{ending, engine_fault_of}

module _ {W : Type 0} (m : Machine W) {P R : Type 0} (log : P → Option (List LogEvent)) (state : P → Option (State W)) (lists : R → Option Lists) (ready space : R → ℕ) (moved : R → List Taken → List Completion → R → Type 0) (flags_word : R → ℕ) (used : R → List Taken → List Completion → R → Type 0) where
  -- what was offered is published, and the partner enters once, over all that is published, and waits for one completion
  pub record Submitted (params : Parameters) (old new : P) (before after : R) (result : Result ℕ SubmitError) : Type 0 where
    pub shown : R
    pub publishes : used before [] [] shown
    pub told : Becomes (lists before) all_published (lists shown)
    pub published : ℕ
    pub counted : IfSome (lists shown) (λ l. published ≡ length l.published)
    pub enters : EntersOnce m log state lists ready space moved (wanted_call published (flags_word shown) params None 1 None) old new shown after result

  module _ (room waiting : R → ℕ) where
    -- after an enter that succeeds all is pumped, and the report says how many were taken; after another nothing more is done
    abbrev pub TurnEnds : Result ℕ SubmitError → R → R → Ops → Ops → KeptSteps → KeptSteps → Result TurnReport EngineFault → Type 0
    TurnEnds (Ok taken) left after ops ops' steps steps' result =
        (p : Pumped used lists room waiting left after ops ops' steps steps' (ending result))
        × IfOk result (λ report. (report.taken ≡ taken) × (report.finals ≡ finals_in p.completions))
    TurnEnds (Err error) left after ops ops' steps steps' result = (after ≡ left) × (ops' ≡ ops) × (steps' ≡ steps) × (result ≡ Err (engine_fault_of error))

    pub record EngineTurned (params : Parameters) (old new : P) (before after : R) (ops ops' : Ops) (steps steps' : KeptSteps) (result : Result TurnReport EngineFault) : Type 0 where
      pub left : R
      pub answer : Result ℕ SubmitError
      pub submitted : Submitted params old new before left answer
      pub ends : TurnEnds answer left after ops ops' steps steps' result

    -- one turn, whatever steps were kept before it
    abbrev pub HasTurned : Parameters → P → P → R → R → Ops → Ops → Result TurnReport EngineFault → Type 0
    HasTurned params old new before after ops ops' result = (steps steps' : KeptSteps) × EngineTurned params old new before after ops ops' steps steps' result
