-- The operations that an engine has for the jobs of a run.
use Rattle.std.specs.Prelude.{◌≡◌, ℕ, ◌+◌, Bool, true, false, if◌then◌else◌, cond, nat_lt, nat_eq, List, [], ◌∷◌, Option, Some, None, is_some, IfSome, slice_get, slice_set, map}
use Rattle.uring_model.specs.declared.jobs.Outcome.{Outcome}
use Rattle.rent_table.specs.declared.ops.Flight.{Flight}
use Rattle.rent_table.specs.declared.ops.OpDone.{OpDone}
use Rattle.rent_engine.specs.declared.ops.OpPoll.{OpPoll}
use Rattle.rent_engine.specs.declared.ops.OpPoll.TheVariants.{Ready, Pending, Lost}
use Rattle.rent_table.specs.Ops.{Ops, flight_at, done_at, knows}
use Rattle.std.specs.List.{AllByRecursion}
use Rattle.run_loop.specs.JobOps.{TellsFor}
use Rattle.run_loop.specs.Told.{lends, heard}
use Rattle.run_loop.specs.Slots.{all_closed}
use Rattle.run_loop.specs.declared.slot.Reply.{Reply}
use Rattle.run_loop.specs.declared.entries.Offer.{Offer}
use Rattle.run_loop.specs.declared.flights.InFlight.{InFlight}
use Rattle.run_loop.specs.declared.slot.Slot.{Slot}
use Rattle.run_loop.specs.declared.slot.Slot.TheVariants.{Open, Done}

-- What is resolved is of a job whose slot is open, a buffer came back exactly where the job lends one, and something was posted
-- for a job that isn't quiet.
pub record WasLent (slots : List Slot) (n : ℕ) (done : OpDone) : Type 0 where
  pub reply : Reply
  pub quiet : Bool
  pub slot : slice_get slots n ≡ Some (Open reply quiet)
  pub lent : lends reply ≡ is_some done.buf
  pub posted : done.quiet ≡ true → quiet ≡ true

-- a quiet job's operation is resolved with that of the next job
abbrev pub next_for : ℕ → Bool → Option ℕ
next_for n quiet = cond quiet (Some (n + 1)) None

-- a job without an outcome has an operation in flight, that lends a buffer where the job does
abbrev pub slot_flight : ℕ → Option Slot → Option Flight
slot_flight n None = None
slot_flight n (Some (Open reply quiet)) = Some (record { lent = lends reply; forgotten = false; next = next_for n quiet })
slot_flight n (Some (Done outcome)) = None

abbrev pub flight_in : ℕ → List Slot → ℕ → Option Flight
flight_in started slots n = if nat_lt n started then slot_flight n (slice_get slots n) else None

-- what a resolved operation gives its job
abbrev pub outcome_polled : Reply → OpDone → Outcome
outcome_polled reply done = record { result = heard reply done.result; buf = done.buf; quiet = done.quiet }

abbrev pub polled_slot : Slot → Option OpDone → Slot
polled_slot slot None = slot
polled_slot (Done outcome) (Some done) = Done outcome
polled_slot (Open reply quiet) (Some done) = Done (outcome_polled reply done)

-- the slots, once all that is resolved is polled

abbrev pub polled_from : ℕ → Ops → List Slot → List Slot
polled_from n ops [] = []
polled_from n ops (slot ∷ slots) = polled_slot slot (done_at ops n) ∷ polled_from (n + 1) ops slots

abbrev pub all_polled : Ops → List Slot → List Slot
all_polled ops slots = polled_from 0 ops slots

-- one poll: what is resolved goes into its job's slot, and a job whose operation is in flight is left

abbrev pub with_polled : Reply → ℕ → OpPoll → List Slot → List Slot
with_polled reply job (Ready done) slots = slice_set slots job (Done (outcome_polled reply done))
with_polled reply job (Pending n) slots = slots
with_polled reply job (Lost n) slots = slots

abbrev pub left_by : OpPoll → ℕ → List ℕ
left_by (Ready done) job = []
left_by (Pending n) job = job ∷ []
left_by (Lost n) job = []

abbrev pub jobs_in_flight : List InFlight → List ℕ
jobs_in_flight flights = map (λ f. f.job) flights

-- how often a job stands in a list
abbrev pub times_in : ℕ → List ℕ → ℕ
times_in n [] = 0
times_in n (job ∷ jobs) = (if nat_eq job n then 1 else 0) + times_in n jobs

-- The engine knows exactly the jobs of the list, each once. A job that is resolved has an open slot, and once all that is
-- resolved is polled, those in flight are the started jobs whose slot is open, and no quiet one of these stands in front of a
-- job that has its outcome. A quiet job lends no buffer.
pub record AreOperated (ops : Ops) (started : ℕ) (slots : List Slot) (jobs : List ℕ) : Type 0 where
  pub in_flight : (n : ℕ) → flight_at ops n ≡ flight_in started (all_polled ops slots) n
  pub resolved : (n : ℕ) → IfSome (done_at ops n) (WasLent slots n)
  pub listed : (n : ℕ) → times_in n jobs ≡ (if knows ops n then 1 else 0)
  pub closed : all_closed (all_polled ops slots) ≡ all_polled ops slots
  pub bare : (n : ℕ) (reply : Reply) → slice_get slots n ≡ Some (Open reply true) → lends reply ≡ false

abbrev pub NoneResolved : Ops → Type 0
NoneResolved ops = (n : ℕ) → done_at ops n ≡ None

-- What is to be offered is numbered from n on, and each one's slot is open.

pub record IsAhead (n : ℕ) (slots : List Slot) (offer : Offer) : Type 0 where
  pub number : offer.entry.user_data ≡ n
  pub slot : slice_get slots n ≡ Some (Open offer.reply offer.quiet)

abbrev pub AreAhead : ℕ → List Slot → List Offer → Type 0
AreAhead n slots [] = Unit {0}
AreAhead n slots (offer ∷ offers) = IsAhead n slots offer × AreAhead (n + 1) slots offers

-- The operations tell of their ends what the open slots of their jobs wait for.
pub record AreReplied (slots : List Slot) (flights : List InFlight) : Type 0 where
  pub replies : ℕ → Reply
  pub quiets : ℕ → Bool
  pub of_slots : (n : ℕ) (reply : Reply) (quiet : Bool) → slice_get slots n ≡ Some (Open reply quiet) → (reply ≡ replies n) × (quiet ≡ quiets n)
  pub of_flights : AllByRecursion (λ f. TellsFor (replies f.job) (quiets f.job) f.op) flights

-- Between rounds nothing is resolved, the jobs in flight are those of the open slots of the started jobs, and the others
-- are ahead.
pub record IsSettled (ops : Ops) (started : ℕ) (slots : List Slot) (flights : List InFlight) (todo : List Offer) : Type 0 where
  pub operated : AreOperated ops started slots (jobs_in_flight flights)
  pub replied : AreReplied slots flights
  pub none : NoneResolved ops
  pub ahead : AreAhead started slots todo
