-- The steps that are kept.
use Rattle.std.specs.Prelude.{◌≡◌, ℕ, ◌≤◌, Bool, false, not, if◌then◌else◌, List, [], ◌∷◌, ◌++◌, length, Option, Some, None, refl}
use Rattle.std.specs.Coded.{Coded, code_by, coded×, coded_ℕ, coded_list}
use Rattle.std.specs.Ordering.{nat_cmp}
use Rattle.std.specs.FinMap.{FinMap, entries, code, get}
use Rattle.rent_table.specs.declared.ops.Flight.{Flight}
use Rattle.rent_table.specs.declared.ops.Step.{Step}
use Rattle.rent_table.specs.contracts.ops.Step as steps_row
use Rattle.rent_table.specs.NumberedSlab.{picked}
use Rattle.rent_table.specs.Lists.{if_any, list_at, with_list}
use Rattle.rent_table.specs.Ops.{Ops, flight_at, is_asked}

-- the kept steps of each number that has some, oldest first
abbrev pub KeptSteps : Type 0
KeptSteps = FinMap nat_cmp (List Step)

-- the steps, and how many more can be kept with no memory
pub record Queues : Type 0 where
  pub steps : KeptSteps
  pub room : ℕ

abbrev pub steps_code : Coded KeptSteps
steps_code = code coded_ℕ (coded_list steps_row.the_row.coded)

abbrev pub queues_code : Coded Queues
queues_code = code_by (KeptSteps × ℕ) (coded× steps_code coded_ℕ) (λ q. (q.steps, q.room)) (λ p. record { steps = p.0; room = p.1 }) (λ _. refl)

abbrev pub steps_of : FinMap nat_cmp (List Step) → KeptSteps
steps_of queues = picked if_any (entries queues)

-- a step is kept where its operation is in flight and wasn't forgotten

abbrev pub keeps_by : Option Flight → Bool
keeps_by None = false
keeps_by (Some flight) = not flight.forgotten

abbrev pub keeps_steps : Ops → ℕ → Bool
keeps_steps ops n = keeps_by (flight_at ops n)

abbrev pub step_kept : Step → Ops → KeptSteps → KeptSteps
step_kept step ops steps =
    if keeps_steps ops step.number then with_list step.number (list_at steps step.number ++ step ∷ []) steps else steps

-- no steps are kept of a number that nobody may ask for
abbrev pub AreOfAsked : Ops → KeptSteps → Type 0
AreOfAsked ops steps = (n : ℕ) → is_asked ops n ≡ false → get steps n ≡ None

-- No queue is longer than so many steps were kept, and at most one step is ready to be filled in.
pub record AreShort (queues : FinMap nat_cmp (List Step)) (ready : List Step) (kept : ℕ) : Type 0 where
  pub queue : (n : ℕ) (steps : List Step) → get queues n ≡ Some steps → length steps ≤ kept
  pub ready_one : length ready ≤ 1
