-- Rounds in a row: one stretch, whose faults are counted.
use Rattle.std.proofs.Common.{◌≡◌, ℕ, ◌≤◌, Bool, true, false, List, [], ◌++◌, Option, Some, None, IfSome, IfErr, IsTrue, Contains, Result, Ok, Err, is_none, length, refl, ap, sym, subst, ◌∙◌, arith}
use Rattle.uring_base.specs.declared.events.Taken.{Taken}
use Rattle.uring_base.specs.declared.events.Completion.{Completion}
use Rattle.uring_base.specs.declared.events.LogEvent.{LogEvent}
use Rattle.uring_base.specs.Causes.{HasCause, Rose}
use Rattle.uring_model.specs.Moves.{Move}
use Rattle.uring_model.specs.Schedule.{Machine, State, IsServed}
use Rattle.partner_traits.specs.declared.call.PartnerError.{PartnerError}
use Rattle.partner_traits.specs.declared.call.PartnerError.TheVariants.{Fault, NoMemory}
use Rattle.partner_traits.specs.Calls.{KeepsErrno, is_fault}
use Rattle.partner_serving.specs.Serving.{Serving, ServingsJoin, NoRoundServes}
use Rattle.partner_serving.specs.Rounds.{plan_after}
use Rattle.partner_serving.specs.Rows.{ended_by, AreFaultsCounted, RoundsServe}

-- a plan that names no enter

none_planned : (plan : List ℕ) → plan ≡ [] → ¬ Contains plan 1
none_planned plan e c = absurd (let lt = c.1 in omega (arith, lt, ap length e))

still_unplanned : (r : Result Bool PartnerError) → plan_after r [] ≡ []
still_unplanned (Ok true) = refl
still_unplanned (Ok false) = refl
still_unplanned (Err e) = refl

-- no fault, where one is refuted
not_fault : (e : PartnerError) → (IsTrue (is_fault e) → ⊥) → is_fault e ≡ false
not_fault (Fault k) h = absurd (h refl)
not_fault NoMemory h = refl

-- what ended the rounds once this one was made
abbrev pub refusal_of : Result Bool PartnerError → Option PartnerError
refusal_of (Ok entered) = None
refusal_of (Err e) = Some e

-- the faults of one round

module _ {S P : Type 0} (state : P → Option S) (plan : P → List ℕ) (faults errno : P → ℕ) where
  round_cause : (old new : P) (r : Result Bool PartnerError) → HasCause is_fault (faults old) (faults new) r → HasCause is_fault (faults old) (faults new) (ended_by (refusal_of r))
  round_cause old new (Ok entered) h = record { later = h.later; failed = tt }
  round_cause old new (Err e) h = record { later = h.later; failed = h.failed }

  round_number : (old new : P) (r : Result Bool PartnerError) → KeepsErrno r (errno old) (errno new) → KeepsErrno (ended_by (refusal_of r)) (errno old) (errno new)
  round_number old new (Ok entered) h = h
  round_number old new (Err (Fault k)) h = h
  round_number old new (Err NoMemory) h = h

  round_calm : (old : P) (r : Result Bool PartnerError) → plan old ≡ [] → IfErr r (λ e. IsTrue (is_fault e) → Contains (plan old) 1) → IfSome (refusal_of r) (λ e. is_fault e ≡ false)
  round_calm old (Ok entered) none h = tt
  round_calm old (Err e) none h = not_fault e (λ fault. none_planned (plan old) none (h fault))

  both_told : (o : Option S) (old new : P) (r : Result Bool PartnerError) → IfSome o (λ _. IfErr r (λ e. IsTrue (is_fault e) → Contains (plan old) 1)) → IfSome o (λ _. ¬ Contains (plan old) 1 → faults new ≡ faults old)
      → IfSome o (λ _. plan old ≡ [] → (faults new ≡ faults old) × IfSome (refusal_of r) (λ e. is_fault e ≡ false))
  both_told None old new r planned counted = tt
  both_told (Some a) old new r planned counted = λ none. (counted (none_planned (plan old) none), round_calm old r none planned)

  pub round_counted : (old new : P) (r : Result Bool PartnerError) → HasCause is_fault (faults old) (faults new) r → KeepsErrno r (errno old) (errno new) → plan new ≡ plan_after r (plan old)
      → IfSome (state old) (λ _. IfErr r (λ e. IsTrue (is_fault e) → Contains (plan old) 1)) → IfSome (state old) (λ _. ¬ Contains (plan old) 1 → faults new ≡ faults old)
      → AreFaultsCounted state plan faults errno old new (refusal_of r)
  round_counted old new r cause number after planned counted = record {
    cause = round_cause old new r cause;
    number = round_number old new r number;
    unplanned = λ none. after ∙ subst (λ l. plan_after r l ≡ []) (sym none) (still_unplanned r);
    calm = both_told (state old) old new r planned counted;
  }

  -- no round at all
  none_counted : (old : P) → AreFaultsCounted state plan faults errno old old None
  none_counted old = record { cause = record { later = omega arith; failed = tt }; number = refl; unplanned = λ none. none; calm = calm (state old) }
    where
      calm : (o : Option S) → IfSome o (λ _. plan old ≡ [] → (faults old ≡ faults old) × Unit {0})
      calm None = tt
      calm (Some a) = λ none. (refl, tt)

  -- those of a row and of one round more

  then_cause : (a b c : ℕ) (ended : Option PartnerError) → a ≤ b → HasCause is_fault b c (ended_by ended) → HasCause is_fault a c (ended_by ended)
  then_cause a b c None le h = record { later = omega (arith, le, h.later); failed = tt }
  then_cause a b c (Some e) le h = record { later = omega (arith, le, h.later); failed = λ fault. let rose : Rose b c = h.failed fault in omega (arith, le, rose) }

  then_number : (a b c : ℕ) (ended : Option PartnerError) → b ≡ a → KeepsErrno (ended_by ended) b c → KeepsErrno (ended_by ended) a c
  then_number a b c None e h = h ∙ e
  then_number a b c (Some (Fault k)) e h = h
  then_number a b c (Some NoMemory) e h = h ∙ e

  then_calm : (o p : Option S) (old now new : P) (ended : Option PartnerError) → (p ≡ None → o ≡ None) → (plan old ≡ [] → plan now ≡ []) → IfSome o (λ _. plan old ≡ [] → (faults now ≡ faults old) × Unit {0})
      → IfSome p (λ _. plan now ≡ [] → (faults new ≡ faults now) × IfSome ended (λ e. is_fault e ≡ false))
      → IfSome o (λ _. plan old ≡ [] → (faults new ≡ faults old) × IfSome ended (λ e. is_fault e ≡ false))
  then_calm None p old now new ended tells empty first then = tt
  then_calm (Some a) None old now new ended tells empty first then = let bad : Some a ≡ None = tells refl in cc
  then_calm (Some a) (Some b) old now new ended tells empty first then = λ none. let f = first none in let t = then (empty none) in (t.0 ∙ f.0, t.1)

  then_counted : (old now new : P) (ended : Option PartnerError) → (state now ≡ None → state old ≡ None) → AreFaultsCounted state plan faults errno old now None → AreFaultsCounted state plan faults errno now new ended → AreFaultsCounted state plan faults errno old new ended
  then_counted old now new ended tells first then = record {
    cause = then_cause (faults old) (faults now) (faults new) ended first.cause.later then.cause;
    number = then_number (errno old) (errno now) (errno new) ended first.number then.number;
    unplanned = λ none. then.unplanned (first.unplanned none);
    calm = then_calm (state old) (state now) old now new ended tells first.unplanned first.calm then.calm;
  }

-- a state that was told is told
still_told : {W : Type 0} (m : Machine W) (o p : Option (State W)) (ms : List Move) → IsServed m o ms p → p ≡ None → o ≡ None
still_told m None p ms s e = refl
still_told m (Some a) None ms s e = absurd (s tt)
still_told m (Some a) (Some b) ms s e = cc

-- rows

module _ {W : Type 0} (m : Machine W) (Plain : W → Type 0) {P S : Type 0} (log : P → Option (List LogEvent)) (state : P → Option (State W)) (plan : P → List ℕ) (faults errno : P → ℕ)
    (moved : S → List Taken → List Completion → S → Type 0) where
  pub rows_none : NoRoundServes m Plain → (from : S) (old : P) → moved from [] [] from → RoundsServe m Plain log state plan faults errno moved from old from old None
  rows_none law from old stays = record { ts = []; cs = []; moves = stays; served = law (log old) (state old); counted = none_counted state plan faults errno old }

  pub rows_then : ServingsJoin m Plain → ((a b c : S) (ts us : List Taken) (cs ds : List Completion) → moved a ts cs b → moved b us ds c → moved a (ts ++ us) (cs ++ ds) c)
      → (from to end : S) (old now new : P) (ended : Option PartnerError) (us : List Taken) (ds : List Completion)
      → RoundsServe m Plain log state plan faults errno moved from old to now None → moved to us ds end → Serving m Plain (is_none ended) (log now) (log new) (state now) (state new) us ds → AreFaultsCounted state plan faults errno now new ended
      → RoundsServe m Plain log state plan faults errno moved from old end new ended
  rows_then law joins from to end old now new ended us ds row moves served counted = record {
    ts = row.ts ++ us;
    cs = row.cs ++ ds;
    moves = joins from to end row.ts us row.cs ds row.moves moves;
    served = law true (is_none ended) (log old) (log now) (log new) (state old) (state now) (state new) row.ts us row.cs ds row.served served;
    counted = then_counted state plan faults errno old now new ended (still_told m (state old) (state now) row.served.moves row.served.states) row.counted counted;
  }
