-- What the completions that a round reaps make of the slots of its jobs.
use Rattle.std.proofs.Common.{◌≡◌, ℕ, ◌+◌, ◌||◌, Bool, true, false, cond, min, nat_lt, count_by, Result, Ok, Err, OnOk, List, [], ◌∷◌, ◌++◌, Option, Some, None, refl, ap, sym, subst, ◌∙◌, arith}
use Rattle.std.specs.Result.{is_err}
use Rattle.std.proofs.lemmas.Bool.Decides.{nat_tests}
use Rattle.std.proofs.lemmas.List.Recursion.{is_count_by}
use Rattle.uring_base.specs.declared.events.Completion.{Completion}
use Rattle.uring_base.specs.Completions.{is_final}
use Rattle.rent_table.specs.Ops.{Ops}
use Rattle.rent_engine.specs.declared.fault.EngineFault.{EngineFault}
use Rattle.rent_engine.specs.declared.fault.EngineFault.TheVariants as faults
use Rattle.rent_engine.specs.Ops.{Pumps}
use Rattle.rent_engine.specs.Engines.{finals_in}
use Rattle.run_loop.specs.declared.entries.Offer.{Offer}
use Rattle.run_loop.specs.declared.flights.InFlight.{InFlight}
use Rattle.run_loop.specs.declared.slot.Slot.{Slot}
use Rattle.run_loop.specs.Slots.{is_unexpected, land_one, land_all, stranger_among, any_final}
use Rattle.run_loop.specs.Flights.{jobs_in_flight, all_polled, AreOperated, AreReplied, NoneResolved, AreAhead, IsSettled}
use Rattle.run_loop.specs.Rounds.{ReapEnds, engine_fault}
use Rattle.run_loop.proofs.FlightLemmas.{none_polled}
use Rattle.run_loop.proofs.PumpLemmas.{all_completed}
use Rattle.run_loop.proofs.StartLemmas.{closed_between, ahead_landed}

-- what stands behind the first stranger doesn't matter
found_then : (b : Bool) (u v : ℕ) (o p : Option ℕ) → cond b (Some u) o ≡ Some v → (o ≡ Some v → p ≡ Some v) → cond b (Some u) p ≡ Some v
found_then true u v o p e f = e
found_then false u v o p e f = f e

stranger-append : (started : ℕ) (slots : List Slot) (cs ds : List Completion) (u : ℕ) → stranger_among started slots cs ≡ Some u → stranger_among started slots (cs ++ ds) ≡ Some u
stranger-append started slots [] ds u e = let bad : None ≡ Some u = e in cc
stranger-append started slots (c ∷ cs) ds u e = found_then (is_unexpected started slots c) c.user_data u _ _ e (stranger-append started (land_one slots c) cs ds u)

-- a pump that failed: it took all in up to the first stranger, whatever stands behind
pub fault_ends : (begun : ℕ) (slots slots' : List Slot) (jobs : List ℕ) (ops ops' : Ops) (cs ds : List Completion) (fault : EngineFault) → AreOperated ops begun slots jobs → NoneResolved ops → Pumps ops cs ops' (Err fault)
    → ReapEnds begun slots (cs ++ ds) slots' (Err (engine_fault fault))
fault_ends begun slots slots' jobs ops ops' cs ds (faults.Stranger u) a n h =
    stranger-append begun slots cs ds u (ap (λ s. stranger_among begun s cs) (sym (none_polled ops slots n)) ∙ all_completed ops begun slots jobs a cs ops' (Err (faults.Stranger u)) h)
fault_ends begun slots slots' jobs ops ops' cs ds (faults.Fault errno) a n h = tt
fault_ends begun slots slots' jobs ops ops' cs ds faults.NoMemory a n h = tt

-- a pump that ended well: all that was reaped was due, and lands once all is polled
pub record Landed (begun : ℕ) (slots : List Slot) (jobs : List ℕ) (cs : List Completion) (ops' : Ops) : Type 0 where
  pub operated : AreOperated ops' begun slots jobs
  pub due : stranger_among begun slots cs ≡ None
  pub lands : all_polled ops' slots ≡ land_all slots cs

pub landed_by : (begun : ℕ) (slots : List Slot) (jobs : List ℕ) (ops ops' : Ops) (cs : List Completion) → AreOperated ops begun slots jobs → NoneResolved ops → Pumps ops cs ops' (Ok tt) → Landed begun slots jobs cs ops'
landed_by begun slots jobs ops ops' cs a n h =
    let l = all_completed ops begun slots jobs a cs ops' (Ok tt) h in
    let start = none_polled ops slots n in
    record {
      operated = l.1;
      due = ap (λ s. stranger_among begun s cs) (sym start) ∙ l.0;
      lands = l.2 ∙ ap (λ s. land_all s cs) start;
    }

pub landed_ends : (begun : ℕ) (slots : List Slot) (jobs : List ℕ) (cs : List Completion) (ops' : Ops) → Landed begun slots jobs cs ops'
    → (begun' : ℕ) (first slots' : List Slot) (went : Bool) → begun' ≡ begun → first ≡ slots → slots' ≡ all_polled ops' slots → ReapEnds begun' first cs slots' (Ok went)
landed_ends begun slots jobs cs ops' l begun' first slots' went e f g =
    ((λ i. stranger_among (e i) (f i) cs) ∙ l.due, g ∙ l.lands ∙ ap (λ s. land_all s cs) (sym f))

-- and all is settled again
pub landed_settled : (begun : ℕ) (slots : List Slot) (flights : List InFlight) (ops ops' : Ops) (todo : List Offer) (cs : List Completion) → IsSettled ops begun slots flights todo → Landed begun slots (jobs_in_flight flights) cs ops'
    → (begun' : ℕ) (slots' : List Slot) (flights' : List InFlight) (ops'' : Ops) → begun' ≡ begun → slots' ≡ all_polled ops' slots
    → AreOperated ops'' begun' slots' (jobs_in_flight flights') → AreReplied slots' flights' → NoneResolved ops'' → IsSettled ops'' begun' slots' flights' todo
landed_settled begun slots flights ops ops' todo cs s l begun' slots' flights' ops'' e f operated replied none = record {
  operated = operated;
  replied = replied;
  none = none;
  ahead =
      subst (λ n. AreAhead n slots' todo) (sym e)
      (subst (λ x. AreAhead begun x todo) (sym (f ∙ l.lands)) (ahead_landed begun slots todo cs (closed_between ops begun slots flights todo s) l.due s.ahead));
}

-- whether a completion was final
abbrev finals : List Completion → ℕ
finals [] = 0
finals (c ∷ cs) = cond (is_final c.flags) (1 + finals cs) (finals cs)

some_finals : (cs : List Completion) → any_final cs ≡ nat_lt 0 (finals cs)
some_finals [] = grind (arith, nat_tests)
some_finals (c ∷ cs) = more (is_final c.flags) (any_final cs) (finals cs) (some_finals cs)
  where
    more : (b any : Bool) (n : ℕ) → any ≡ nat_lt 0 n → (b || any) ≡ nat_lt 0 (cond b (1 + n) n)
    more true any n e = grind (arith, nat_tests)
    more false any n e = e

pub any_by_count : (cs : List Completion) (n : ℕ) → n ≡ finals_in cs → any_final cs ≡ nat_lt 0 n
any_by_count cs n e =
    let k : finals cs ≡ count_by (λ c. is_final c.flags) cs = is_count_by finals (λ c. is_final c.flags) refl (λ x xs. refl) cs in
    some_finals cs ∙ capped (finals cs) n (e ∙ ap (λ m. min m 4294967295) (sym k))
  where
    capped : (k n : ℕ) → n ≡ min k 4294967295 → nat_lt 0 k ≡ nat_lt 0 n
    capped k n e = grind (arith, nat_tests)

pub once_ok : {T E : Type 0} (r : Result T E) (P : Type 0) → is_err r ≡ false → OnOk r P → P
once_ok (Ok x) P e h = h
once_ok (Err x) P e h = let bad : true ≡ false = e in cc
