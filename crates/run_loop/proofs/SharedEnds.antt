-- What a run of both sides tells, however it ended.
use Rattle.std.proofs.Common.{◌≡◌, ℕ, ◌⊎◌, inl, inr, Bool, true, false, List, [], ◌++◌, length, map, drop, Result, Ok, Err, Option, Some, None, MatchResult, IfOk, IfErr, IfSome, OnOk, is_none, refl, ap, sym, subst, ◌∙◌}
use Rattle.uring_base.specs.declared.events.Taken.{Taken}
use Rattle.uring_base.specs.declared.events.Completion.{Completion}
use Rattle.uring_base.specs.declared.events.LogEvent.{LogEvent}
use Rattle.uring_model.specs.declared.jobs.Job.{Job}
use Rattle.uring_model.specs.declared.jobs.Report.{Report}
use Rattle.uring_model.specs.declared.jobs.RunFault.{RunFault}
use Rattle.uring_model.specs.declared.jobs.RunFault.TheVariants as faults
use Rattle.uring_model.specs.Machine.{Files}
use Rattle.uring_model.specs.Moves.{event_of}
use Rattle.uring_model.specs.Schedule as schedule
use Rattle.ring_traits.specs.Lists.{IsKept}
use Rattle.partner_traits.specs.declared.call.PartnerError.{PartnerError}
use Rattle.partner_serving.specs.Serving.{Serving, NoRoundServes}
use Rattle.partner_serving.specs.TwoSides.{TwoSides, TwoSidesAreOneRun}
use Rattle.run_loop.specs.declared.entries.Offer.{Offer}
use Rattle.run_loop.specs.declared.slot.Slot.{Slot}
use Rattle.run_loop.specs.declared.slot.Slot.TheVariants.{Done}
use Rattle.run_loop.specs.Entries.{AllValid, AllInRange, all_taken, offers_from}
use Rattle.run_loop.specs.Laws.{ModelLaws}
use Rattle.run_loop.specs.Rounds.{is_partner_fault, run_fault_of}
use Rattle.run_loop.specs.SharedRounds.{AreEndedBy}
use Rattle.run_loop.specs.SharedRuns.{SharedSays}
use Rattle.run_loop.specs.Slots.{count_open, slots_from, stranger_among}
use Rattle.run_loop.specs.UserRounds.{UserSent, UserRounds, RunEndsBy, RunGoes}
use Rattle.run_loop.proofs.SharedSays.{says_report, says_stranger, says_other}
use Rattle.run_loop.proofs.UserLemmas.{rounds_sent}

module _ {W : Type 0} (mach : schedule.Machine W) (view : W → Files) (Plain : W → Type 0) (laws : ModelLaws mach view Plain) (law : TwoSidesAreOneRun mach view Plain)
    {P : Type 0} (log : P → Option (List LogEvent)) (state : P → Option (schedule.State W)) (old new : P) (jobs : List Job) (valid : AllValid jobs) (range : AllInRange jobs)
    (kept : Completion → Completion) (keeps : (c : Completion) → IsKept c (kept c)) (ended : Option PartnerError) (ts : List Taken) (cs : List Completion)
    (s : Serving mach Plain (is_none ended) (log old) (log new) (state old) (state new) ts cs)
    {R : Type 0} (used : R → List Taken → List Completion → R → Type 0) (first to : R)
    (meets : (large : Bool) (offered todo : List Taken) (reaped : List Completion) → used first offered reaped to → all_taken (offers_from 0 jobs) large ≡ offered ++ todo → TwoSides kept (all_taken (offers_from 0 jobs) large) offered ts cs reaped)
    (start : ℕ) (at : IfSome (log old) (λ l. start ≡ length l)) where
  other : (e : RunFault) → (e ≡ faults.NoMemory) ⊎ (e ≡ faults.PartnerFault) → (large : Bool) → UserSent used first to (all_taken (offers_from 0 jobs) large) → SharedSays mach view Plain log state old new jobs (Err e)
  other e why large x =
      says_other mach view Plain laws law log state old new jobs valid range large kept keeps (is_none ended) x.offered ts cs x.reaped s (meets large x.offered x.rest x.reaped x.uses x.entries) e why

  faulted : (e : RunFault) → RunEndsBy used first to (offers_from 0 jobs) e → SharedSays mach view Plain log state old new jobs (Err e)
  faulted (faults.Stranger u) h =
      says_stranger mach view Plain laws law log state old new jobs valid range h.1.large kept keeps (is_none ended) h.1.offered ts cs h.1.reaped s (meets h.1.large h.1.offered h.0 h.1.reaped h.1.uses (sym h.1.entries)) u h.1.strange
  faulted faults.NoMemory h = other faults.NoMemory (inl refl) h.0 h.1
  faulted faults.PartnerFault h = other faults.PartnerFault (inr refl) h.0 h.1
  faulted faults.Stalled h = absurd h
  faulted faults.BadSize h = absurd h
  faulted (faults.BadJob n) h = absurd h

  whole_told : (todo : List Taken) (started : ℕ) (slots : List Slot) → ended ≡ None → UserRounds used first to (offers_from 0 jobs) todo started slots → count_open slots ≡ 0
      → (r : Result Report RunFault) → IfOk r (λ report. map (λ o. Done o) report.outcomes.items ≡ slots) → IfOk r (λ report. IfSome (log new) (λ l. report.journal.items ≡ map event_of (drop start l))) → IfErr r (λ e. e ≡ faults.NoMemory)
      → SharedSays mach view Plain log state old new jobs r
  whole_told todo started slots none x whole (Ok report) outcomes journal memory =
      let due : stranger_among (length x.offered) (slots_from 0 (offers_from 0 jobs) []) x.reaped ≡ None = subst (λ n. stranger_among n (slots_from 0 (offers_from 0 jobs) []) x.reaped ≡ None) x.run.started_is x.run.expected in
      says_report mach view Plain laws law log state old new jobs valid range x.run.large kept keeps (is_none ended) x.offered ts cs x.reaped s (meets x.run.large x.offered todo x.reaped x.uses (sym x.run.entries)) report start (ap is_none none) due
      (ap count_open (sym x.run.told_slots) ∙ whole) (outcomes ∙ x.run.told_slots) at journal
  whole_told todo started slots none x whole (Err e) outcomes journal memory = other e (inl memory) x.run.large (rounds_sent used first to (offers_from 0 jobs) todo started slots x)

  pub shared_told : (went : Result (Unit {0}) RunFault) (todo : List Taken) (started : ℕ) (slots : List Slot) → AreEndedBy ended went → RunGoes used first to (offers_from 0 jobs) todo started slots went → OnOk went (count_open slots ≡ 0)
      → (r : Result Report RunFault) → MatchResult went (λ _. IfErr r (λ e. e ≡ faults.NoMemory)) (λ e. r ≡ Err e) → IfOk r (λ report. map (λ o. Done o) report.outcomes.items ≡ slots) → IfOk r (λ report. IfSome (log new) (λ l. report.journal.items ≡ map event_of (drop start l)))
      → SharedSays mach view Plain log state old new jobs r
  shared_told (Ok u) todo started slots why goes whole r told outcomes journal = whole_told todo started slots why.ok goes whole r outcomes journal told
  shared_told (Err e) todo started slots why goes whole r told outcomes journal = subst (SharedSays mach view Plain log state old new jobs) (sym told) (faulted e goes)

-- a run that didn't begin, for want of memory
pub none_told : {W : Type 0} (mach : schedule.Machine W) (view : W → Files) (Plain : W → Type 0) (laws : ModelLaws mach view Plain) (law : TwoSidesAreOneRun mach view Plain) (none : NoRoundServes mach Plain)
    {P : Type 0} (log : P → Option (List LogEvent)) (state : P → Option (schedule.State W)) (old : P) (jobs : List Job) (valid : AllValid jobs) (range : AllInRange jobs) → SharedSays mach view Plain log state old old jobs (Err faults.NoMemory)
none_told mach view Plain laws law none log state old jobs valid range =
    says_other mach view Plain laws law log state old old jobs valid range false (λ c. c) (λ c. refl) true [] [] [] [] (none (log old) (state old))
    (record { todo = all_taken (offers_from 0 jobs) false; offers = refl; untaken = []; takes = refl; unreaped = []; posts = refl }) faults.NoMemory (inl refl)

-- the fault of the answer is the one in which the rounds ended, or want of memory for the report
pub told_fault : {T : Type 0} (ended : Option PartnerError) (went : Result (Unit {0}) RunFault) (r : Result T RunFault) → MatchResult went (λ _. IfErr r (λ e. e ≡ faults.NoMemory)) (λ e. r ≡ Err e)
    → IfErr went (λ e. (is_partner_fault e ≡ false) ⊎ ((error : PartnerError) × (ended ≡ Some error) × (e ≡ run_fault_of error))) → IfErr r (λ e. (is_partner_fault e ≡ false) ⊎ ((error : PartnerError) × (ended ≡ Some error) × (e ≡ run_fault_of error)))
told_fault ended (Ok u) (Ok x) told h = tt
told_fault ended (Ok u) (Err e) told h = inl (ap is_partner_fault told)
told_fault ended (Err e) r told h = subst (λ r. IfErr r (λ e. (is_partner_fault e ≡ false) ⊎ ((error : PartnerError) × (ended ≡ Some error) × (e ≡ run_fault_of error)))) (sym told) h

-- however the rounds ended, the user offered some entries and reaped some completions
module _ {R : Type 0} (used : R → List Taken → List Completion → R → Type 0) (from to : R) (offers : List Offer) where
  ended_used : (e : RunFault) → RunEndsBy used from to offers e → (offered : List Taken) × (reaped : List Completion) × used from offered reaped to
  ended_used (faults.Stranger u) h = (h.1.offered, h.1.reaped, h.1.uses)
  ended_used faults.NoMemory h = (h.1.offered, h.1.reaped, h.1.uses)
  ended_used faults.PartnerFault h = (h.1.offered, h.1.reaped, h.1.uses)
  ended_used faults.Stalled h = absurd h
  ended_used faults.BadSize h = absurd h
  ended_used (faults.BadJob n) h = absurd h

  pub goes_used : (todo : List Taken) (started : ℕ) (slots : List Slot) (went : Result (Unit {0}) RunFault) → RunGoes used from to offers todo started slots went → (offered : List Taken) × (reaped : List Completion) × used from offered reaped to
  goes_used todo started slots (Ok u) x = (x.offered, x.reaped, x.uses)
  goes_used todo started slots (Err e) h = ended_used e h
