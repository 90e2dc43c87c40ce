-- What a user does in a run over its own ends of the rings, whatever the partner does meanwhile.
use Rattle.std.specs.Prelude.{◌≡◌, ℕ, ◌+◌, ◌⊎◌, Bool, List, [], ◌++◌, length, Result, Ok, Err, Some, None, IfOk}
use Rattle.uring_base.specs.declared.events.Taken.{Taken}
use Rattle.uring_base.specs.declared.events.Completion.{Completion}
use Rattle.uring_model.specs.declared.jobs.RunFault.{RunFault}
use Rattle.uring_model.specs.declared.jobs.RunFault.TheVariants.{BadSize, BadJob, Stranger, Stalled, PartnerFault, NoMemory}
use Rattle.run_loop.specs.declared.entries.Offer.{Offer}
use Rattle.run_loop.specs.declared.slot.Slot.{Slot}
use Rattle.run_loop.specs.Entries.{all_taken}
use Rattle.run_loop.specs.Slots.{slots_from, stranger_among, any_final}
use Rattle.run_loop.specs.Rounds.{ReapEnds}

-- The user's run so far: it offered the first of the offers' entries, one for each started job; none of the completions that it
-- reaped was strange to a user that had started these jobs; and the slots are what the completions make of them.
pub record UserRun (offers : List Offer) (offered todo : List Taken) (reaped : List Completion) (started : ℕ) (slots : List Slot) : Type 0 where
  -- the size that the ring gives to the entries
  pub large : Bool
  pub entries : offered ++ todo ≡ all_taken offers large
  pub started_is : started ≡ length offered
  pub told_slots : slots ≡ slots_from 0 offers reaped
  pub expected : stranger_among started (slots_from 0 offers []) reaped ≡ None

module _ {R : Type 0} (used : R → List Taken → List Completion → R → Type 0) where
  -- Whatever stopped it, it offered the first of these entries alone.
  pub record UserSent (from to : R) (todo : List Taken) : Type 0 where
    pub offered : List Taken
    pub rest : List Taken
    pub reaped : List Completion
    pub uses : used from offered reaped to
    pub entries : todo ≡ offered ++ rest

  -- A round offers entries until the ring is full or none is left, and reaps all that it sees.
  pub record UserRound (room waiting : R → ℕ) (from to : R) (todo todo' : List Taken) (started started' : ℕ) (slots slots' : List Slot) (answer : Result Bool RunFault) : Type 0 where
    pub ts : List Taken
    pub cs : List Completion
    pub uses : used from ts cs to
    pub offered : todo ≡ ts ++ todo'
    pub full : (todo' ≡ []) ⊎ ((between : R) × used from ts [] between × (room between ≡ 0) × used between [] cs to)
    pub starts : started' ≡ started + length ts
    pub ends : ReapEnds started' slots cs slots' answer
    pub reaps : IfOk answer (λ fin. (fin ≡ any_final cs) × (waiting to ≡ 0))

  -- the rounds that led from this ring to that one
  pub record UserRounds (from to : R) (offers : List Offer) (todo : List Taken) (started : ℕ) (slots : List Slot) : Type 0 where
    pub offered : List Taken
    pub reaped : List Completion
    pub uses : used from offered reaped to
    pub run : UserRun offers offered todo reaped started slots

  -- The rounds ended at a stranger: the last of the completions, strange to a user that had started the jobs of all that was
  -- offered.
  pub record EndsAtStranger (from to : R) (offers : List Offer) (todo : List Taken) (number : ℕ) : Type 0 where
    pub offered : List Taken
    pub reaped : List Completion
    pub uses : used from offered reaped to
    pub large : Bool
    pub entries : offered ++ todo ≡ all_taken offers large
    pub strange : stranger_among (length offered) (slots_from 0 offers []) reaped ≡ Some number

  -- The rounds ended in a fault: at a stranger, or for want of memory. The user's side knows of no other.
  abbrev pub EndsBy : R → R → List Offer → RunFault → Type 0
  EndsBy from to offers (Stranger u) = (todo : List Taken) × EndsAtStranger from to offers todo u
  EndsBy from to offers NoMemory = (large : Bool) × UserSent from to (all_taken offers large)
  EndsBy from to offers PartnerFault = ⊥
  EndsBy from to offers Stalled = ⊥
  EndsBy from to offers BadSize = ⊥
  EndsBy from to offers (BadJob n) = ⊥

  -- A run of both sides ended in a fault: at a stranger, for want of memory, or by the partner's fault.
  abbrev pub RunEndsBy : R → R → List Offer → RunFault → Type 0
  RunEndsBy from to offers (Stranger u) = (todo : List Taken) × EndsAtStranger from to offers todo u
  RunEndsBy from to offers PartnerFault = (large : Bool) × UserSent from to (all_taken offers large)
  RunEndsBy from to offers NoMemory = (large : Bool) × UserSent from to (all_taken offers large)
  RunEndsBy from to offers Stalled = ⊥
  RunEndsBy from to offers BadSize = ⊥
  RunEndsBy from to offers (BadJob n) = ⊥

  -- how far the user came in a run of both sides, which goes on or ended in a fault
  abbrev pub RunGoes : R → R → List Offer → List Taken → ℕ → List Slot → Result (Unit {0}) RunFault → Type 0
  RunGoes from to offers todo started slots (Ok _) = UserRounds from to offers todo started slots
  RunGoes from to offers todo started slots (Err e) = RunEndsBy from to offers e
