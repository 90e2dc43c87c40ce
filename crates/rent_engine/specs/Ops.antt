-- What completions and polls make of the operations of an engine and of their kept steps.
use Rattle.std.specs.Prelude.{◌≡◌, ℕ, Bool, true, false, not, ◌&&◌, ◌||◌, ◌==◌, if◌then◌else◌, Option, Some, None, is_some, List, [], ◌∷◌, ◌⊎◌, Result, Ok, Err}
use Rattle.std.specs.FinMap.{remove}
use Rattle.uring_base.specs.declared.events.Completion.{Completion}
use Rattle.uring_base.specs.declared.buffer.Loan.{Loan}
use Rattle.uring_base.specs.Completions.{is_more, is_final}
use Rattle.uring_base.specs.Loans.{loan_buf}
use Rattle.rent_table.specs.declared.ops.Flight.{Flight}
use Rattle.rent_table.specs.declared.ops.OpDone.{OpDone}
use Rattle.rent_table.specs.declared.ops.Step.{Step}
use Rattle.rent_table.specs.Ops.{Ops, flight_at, done_at, resolved}
use Rattle.rent_table.specs.Steps.{KeptSteps, step_kept}
use Rattle.rent_engine.specs.declared.ops.OpPoll.{OpPoll}
use Rattle.rent_engine.specs.declared.ops.OpPoll.TheVariants.{Ready, Pending, Lost}
use Rattle.rent_engine.specs.declared.fault.EngineFault.{EngineFault}
use Rattle.rent_engine.specs.declared.fault.EngineFault.TheVariants.{Stranger, Fault, NoMemory}

-- The last completion lacks the loan that was lent; or a loan comes where none was lent, under another number, or before the last completion.
abbrev pub has_strange_loan : Bool → ℕ → Bool → Option Loan → Bool
has_strange_loan lent n last None = lent && last
has_strange_loan lent n last (Some loan) = not lent || not (loan.number == n) || not last

abbrev pub is_strange_for : Option Flight → Completion → Bool
is_strange_for None c = true
is_strange_for (Some flight) c = has_strange_loan flight.lent c.user_data (is_final c.flags) c.loan

-- a completion that no operation in flight may have
abbrev pub is_stranger : Ops → Completion → Bool
is_stranger ops c = is_strange_for (flight_at ops c.user_data) c

-- what a final completion tells of its operation
abbrev pub outcome : Completion → OpDone
outcome c = record { result = c.result; flags = c.flags; buf = loan_buf c.loan; quiet = false }

-- what a completion makes of the operations: a final one resolves its operation, and all that hang on it

abbrev pub completed_by : Option Flight → Completion → Ops → Ops
completed_by None c ops = ops
completed_by (Some flight) c ops = resolved flight c.user_data (outcome c) ops

abbrev pub completed : Ops → Completion → Ops
completed ops c =
    if is_stranger ops c || is_more c.flags then ops
    else completed_by (flight_at ops c.user_data) c ops

abbrev pub step_of : Completion → Option Step
step_of c = if is_more c.flags then Some (record { number = c.user_data; result = c.result; flags = c.flags }) else None

abbrev pub polled_done : ℕ → Option OpDone → OpPoll
polled_done n None = Lost n
polled_done n (Some done) = Ready done

-- what a poll of a number answers
abbrev pub polled : Ops → ℕ → OpPoll
polled ops n = if is_some (flight_at ops n) then Pending n else polled_done n (done_at ops n)

-- a poll of what isn't in flight drops the steps of its number
abbrev pub steps_polled : ℕ → Ops → KeptSteps → KeptSteps
steps_polled n ops steps = if is_some (flight_at ops n) then steps else remove steps n

-- Completions are taken one after another. The last may be a stranger, which ends it and is named.
abbrev pub Pumps : Ops → List Completion → Ops → Result (Unit {0}) EngineFault → Type 0
Pumps ops [] after (Ok _) = after ≡ ops
Pumps ops [] after (Err NoMemory) = after ≡ ops
Pumps ops [] after (Err (Stranger n)) = ⊥
Pumps ops [] after (Err (Fault errno)) = ⊥
Pumps ops (c ∷ cs) after end =
    ((is_stranger ops c ≡ true) × (cs ≡ []) × (after ≡ ops) × (end ≡ Err (Stranger c.user_data)))
    ⊎ ((is_stranger ops c ≡ false) × Pumps (completed ops c) cs after end)

-- The steps that are kept, where completions are taken one after another. A stranger's isn't.

abbrev pub kept_if : Option Step → Ops → KeptSteps → KeptSteps
kept_if None ops steps = steps
kept_if (Some step) ops steps = step_kept step ops steps

abbrev pub kept_of : Ops → Completion → KeptSteps → KeptSteps
kept_of ops c steps = if is_stranger ops c then steps else kept_if (step_of c) ops steps

abbrev pub steps_after : Ops → List Completion → KeptSteps → KeptSteps
steps_after ops [] steps = steps
steps_after ops (c ∷ cs) steps = steps_after (completed ops c) cs (kept_of ops c steps)
