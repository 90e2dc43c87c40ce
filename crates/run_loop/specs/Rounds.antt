-- What one round of a run does to the ring, the partner and the table.
use Rattle.std.specs.Prelude.{◌≡◌, ◌≤◌, ◌⊎◌, ◌||◌, nat_lt, ℕ, Bool, true, false, List, [], ◌++◌, length, map, Result, Ok, Err, Option, Some, None}
use Rattle.std.specs.Bool.{OnTrue}
use Rattle.uring_base.specs.declared.events.Taken.{Taken}
use Rattle.uring_base.specs.declared.events.Completion.{Completion}
use Rattle.uring_base.specs.declared.events.LogEvent.{LogEvent}
use Rattle.uring_model.specs.declared.jobs.RunFault.{RunFault}
use Rattle.uring_model.specs.declared.jobs.RunFault.TheVariants.{BadSize, BadJob, Stranger, Stalled, PartnerFault, NoMemory}
use Rattle.uring_model.specs.Moves.{Move, took, posted, IsLogged}
use Rattle.uring_model.specs.Schedule as schedule
use Rattle.ring_traits.specs.Lists.{Lists, HasRoom, all_published, free_of, Advances}
use Rattle.partner_traits.specs.declared.call.PartnerError.{PartnerError}
use Rattle.partner_traits.specs.declared.call.PartnerError.TheVariants as errors
use Rattle.rent_engine.specs.declared.fault.EngineFault.{EngineFault}
use Rattle.rent_engine.specs.declared.fault.EngineFault.TheVariants as faults
use Rattle.partner_traits.specs.Calls.{IsCall, IsWholeTurn}
use Rattle.run_loop.specs.declared.slot.Slot.{Slot}
use Rattle.run_loop.specs.Slots.{land_all, stranger_among, any_final}

-- these entries were offered, where the lists are told
abbrev pub pushed_more : List Taken → Lists → Lists
pushed_more ts l = record l { pushed = l.pushed ++ ts }

-- nothing stands in the rings but what is published, and the user sees how much fits
pub record IsCalm (l : Lists) (room : ℕ) : Type 0 where
  pub pushed : l.pushed ≡ []
  pub completions : l.completions ≡ []
  pub seen : room ≡ free_of l

-- the positions of the next offer and of the next reap went on by so many
abbrev pub PlacesGoOn : {R : Type 0} → (R → ℕ) → (R → ℕ) → R → R → ℕ → ℕ → Type 0
PlacesGoOn offer_place reap_place from to offered reaped = Advances (offer_place from) offered (offer_place to) × Advances (reap_place from) reaped (reap_place to)

-- the fault of a run, by a partner's error, and by an engine's

abbrev pub run_fault_of : PartnerError → RunFault
run_fault_of (errors.Fault errno) = PartnerFault
run_fault_of errors.NoMemory = NoMemory

abbrev pub engine_fault : EngineFault → RunFault
engine_fault (faults.Stranger u) = Stranger u
engine_fault (faults.Fault errno) = PartnerFault
engine_fault faults.NoMemory = NoMemory

abbrev pub is_partner_fault : RunFault → Bool
is_partner_fault BadSize = false
is_partner_fault (BadJob n) = false
is_partner_fault (Stranger u) = false
is_partner_fault Stalled = false
is_partner_fault PartnerFault = true
is_partner_fault NoMemory = false

abbrev pub is_stall : RunFault → Bool
is_stall BadSize = false
is_stall (BadJob n) = false
is_stall (Stranger u) = false
is_stall Stalled = true
is_stall PartnerFault = false
is_stall NoMemory = false

abbrev pub is_stranger_fault : RunFault → Bool
is_stranger_fault BadSize = false
is_stranger_fault (BadJob n) = false
is_stranger_fault (Stranger u) = true
is_stranger_fault Stalled = false
is_stranger_fault PartnerFault = false
is_stranger_fault NoMemory = false

abbrev pub is_refusal : RunFault → Bool
is_refusal BadSize = true
is_refusal (BadJob n) = true
is_refusal (Stranger u) = false
is_refusal Stalled = false
is_refusal PartnerFault = false
is_refusal NoMemory = false

-- an entry was taken, or a completion was final: the round wasn't idle
abbrev pub goes_on : List Taken → List Completion → Bool
goes_on ts cs = nat_lt 0 (length ts) || any_final cs

-- how a round ends, by the completions that it reaped: none was strange, and they land in the slots; or it ended at the first
-- strange one
abbrev pub ReapEnds : ℕ → List Slot → List Completion → List Slot → Result Bool RunFault → Type 0
ReapEnds started slots cs slots' (Ok went) = (stranger_among started slots cs ≡ None) × (slots' ≡ land_all slots cs)
ReapEnds started slots cs slots' (Err (Stranger u)) = stranger_among started slots cs ≡ Some u
ReapEnds started slots cs slots' (Err PartnerFault) = Unit {0}
ReapEnds started slots cs slots' (Err NoMemory) = Unit {0}
ReapEnds started slots cs slots' (Err BadSize) = ⊥
ReapEnds started slots cs slots' (Err (BadJob n)) = ⊥
ReapEnds started slots cs slots' (Err Stalled) = ⊥

-- a round that ends well, or at a stranger, entered; and where it ends well it tells whether it was idle
abbrev pub IsEntered : List Taken → List Completion → Bool → Result Bool RunFault → Type 0
IsEntered ts cs entered (Ok went) = (entered ≡ true) × (went ≡ goes_on ts cs)
IsEntered ts cs entered (Err fault) = is_stranger_fault fault ≡ true → entered ≡ true

-- A round offers entries until the ring is full or none is left, publishes, enters once, over all that is published, and
-- reaps all that was posted.
pub record Round {W : Type 0} (mach : schedule.Machine W) {P R : Type 0} (log : P → Option (List LogEvent)) (state : P → Option (schedule.State W)) (lists : R → Option Lists) (kept : Completion → Completion) (old new : P) (from to : R) (todo todo' : List Taken) (started : ℕ) (slots slots' : List Slot) (answer : Result Bool RunFault) : Type 0 where
  pub ts : List Taken
  pub ms : List Move
  pub entered : Bool
  pub before : Lists
  pub at : Lists
  pub after : Lists
  pub told_before : lists from ≡ Some before
  pub told_after : lists to ≡ Some after
  pub offered : todo ≡ ts ++ todo'
  pub full : (todo' ≡ []) ⊎ (free_of (pushed_more ts before) ≡ 0)
  pub published : at ≡ all_published (pushed_more ts before)
  pub fits : HasRoom at
  pub logs : IsLogged (log old) ms (log new)
  pub states : schedule.IsServed mach (state old) ms (state new)
  pub to_submit : ℕ
  pub enough : length at.published ≤ to_submit
  pub call : IsCall entered to_submit (Some at) ms
  pub whole : OnTrue entered (IsWholeTurn mach (state old) (Some at) ms)
  pub taken : at.published ≡ took ms ++ after.published
  pub pushed : after.pushed ≡ []
  pub capacity : after.capacity ≡ at.capacity
  pub completion_capacity : after.completion_capacity ≡ at.completion_capacity
  pub enters : IsEntered (took ms) (map kept (posted ms)) entered answer
  pub ends : ReapEnds started slots (map kept (posted ms)) slots' answer
