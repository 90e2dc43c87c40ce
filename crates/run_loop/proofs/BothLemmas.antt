-- How the rounds of both sides of a run end.
use Rattle.std.proofs.Common.{◌≡◌, ℕ, Bool, true, false, ◌⊎◌, inl, inr, List, Result, Ok, Err, Option, Some, None, IfSome, IfErr, IsTrue, refl, ap, subst, ◌∙◌}
use Rattle.uring_base.specs.declared.events.Taken.{Taken}
use Rattle.uring_base.specs.declared.events.Completion.{Completion}
use Rattle.uring_base.specs.Causes.{HasCause, Rose}
use Rattle.uring_model.specs.declared.jobs.RunFault.{RunFault}
use Rattle.uring_model.specs.declared.jobs.RunFault.TheVariants as faults
use Rattle.partner_traits.specs.declared.call.PartnerError.{PartnerError}
use Rattle.partner_traits.specs.declared.call.PartnerError.TheVariants as errors
use Rattle.partner_traits.specs.Calls.{is_fault}
use Rattle.partner_serving.specs.Rows.{ended_by}
use Rattle.run_loop.specs.declared.entries.Offer.{Offer}
use Rattle.run_loop.specs.declared.slot.Slot.{Slot}
use Rattle.run_loop.specs.Rounds.{is_partner_fault, run_fault_of}
use Rattle.run_loop.specs.UserRounds.{UserRounds, EndsBy, RunEndsBy}
use Rattle.run_loop.proofs.UserLemmas.{rounds_sent}

module _ {R : Type 0} (used : R → List Taken → List Completion → R → Type 0) (from to : R) (offers : List Offer) where
  -- the user's fault ends the run
  pub run_ends : (e : RunFault) → EndsBy used from to offers e → RunEndsBy used from to offers e
  run_ends (faults.Stranger u) h = h
  run_ends faults.NoMemory h = h
  run_ends faults.PartnerFault h = absurd h
  run_ends faults.Stalled h = absurd h
  run_ends faults.BadSize h = absurd h
  run_ends (faults.BadJob n) h = absurd h

  -- and so does the partner's refusal
  pub partner_ends : (todo : List Taken) (started : ℕ) (slots : List Slot) (error : PartnerError) → UserRounds used from to offers todo started slots → RunEndsBy used from to offers (run_fault_of error)
  partner_ends todo started slots (errors.Fault errno) x = (x.run.large, rounds_sent used from to offers todo started slots x)
  partner_ends todo started slots errors.NoMemory x = (x.run.large, rounds_sent used from to offers todo started slots x)

-- what the partner's count of faults says of the end

is_its_fault : (error : PartnerError) → IsTrue (is_partner_fault (run_fault_of error)) → IsTrue (is_fault error)
is_its_fault (errors.Fault errno) h = refl
is_its_fault errors.NoMemory h = cc

no_fault : (error : PartnerError) → is_fault error ≡ false → is_partner_fault (run_fault_of error) ≡ false
no_fault (errors.Fault errno) h = cc
no_fault errors.NoMemory h = refl

not_both : (b : Bool) → b ≡ false → IsTrue b → ⊥
not_both true h t = cc
not_both false h t = cc

pub ends_caused : {T : Type 0} (before now : ℕ) (ended : Option PartnerError) (result : Result T RunFault) → HasCause is_fault before now (ended_by ended)
    → IfErr result (λ e. (is_partner_fault e ≡ false) ⊎ ((error : PartnerError) × (ended ≡ Some error) × (e ≡ run_fault_of error))) → HasCause is_partner_fault before now result
ends_caused before now ended (Ok x) h why = record { later = h.later; failed = tt }
ends_caused before now ended (Err e) h (inl own) = record { later = h.later; failed = λ t. absurd (not_both (is_partner_fault e) own t) }
ends_caused before now ended (Err e) h (inr p) =
    let cause : HasCause is_fault before now (ended_by (Some p.0)) = subst (λ o. HasCause is_fault before now (ended_by o)) p.1 h in
    let failed : IsTrue (is_fault p.0) → Rose before now = cause.failed in
    record { later = h.later; failed = λ t. failed (is_its_fault p.0 (subst (λ f. IsTrue (is_partner_fault f)) p.2 t)) }

pub ends_unplanned : {T : Type 0} (ended : Option PartnerError) (result : Result T RunFault) → IfSome ended (λ e. is_fault e ≡ false)
    → IfErr result (λ e. (is_partner_fault e ≡ false) ⊎ ((error : PartnerError) × (ended ≡ Some error) × (e ≡ run_fault_of error))) → IfErr result (λ e. is_partner_fault e ≡ false)
ends_unplanned ended (Ok x) h why = tt
ends_unplanned ended (Err e) h (inl own) = own
ends_unplanned ended (Err e) h (inr p) = let calm : is_fault p.0 ≡ false = subst (λ o. IfSome o (λ e. is_fault e ≡ false)) p.1 h in ap is_partner_fault p.2 ∙ no_fault p.0 calm

pub unplanned_told : {S T : Type 0} (o : Option S) (P A : Type 0) (ended : Option PartnerError) (result : Result T RunFault) → IfSome o (λ _. P → A × IfSome ended (λ e. is_fault e ≡ false))
    → IfErr result (λ e. (is_partner_fault e ≡ false) ⊎ ((error : PartnerError) × (ended ≡ Some error) × (e ≡ run_fault_of error))) → IfSome o (λ _. P → IfErr result (λ e. is_partner_fault e ≡ false))
unplanned_told None P A ended result h why = tt
unplanned_told (Some s) P A ended result h why = λ e. ends_unplanned ended result (h e).1 why

pub calm_told : {S : Type 0} (o : Option S) (P A : Type 0) (ended : Option PartnerError) → IfSome o (λ _. P → A × IfSome ended (λ e. is_fault e ≡ false)) → IfSome o (λ _. P → A)
calm_told None P A ended h = tt
calm_told (Some s) P A ended h = λ e. (h e).0
