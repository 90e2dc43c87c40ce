-- Completions that an engine takes one after another, and the slots of their jobs.
use Rattle.std.proofs.Common.{◌≡◌, ℕ, ◌+◌, ◌<◌, ◌≤◌, zero, suc, Bool, true, false, ◌||◌, ◌&&◌, not, cond, nat_eq, nat_lt, List, [], ◌∷◌, length, Result, Ok, Err, Option, Some, None, is_some, IfSome, inl, inr, slice_get, slice_set, refl, ap, sym, subst, ◌∙◌, pos, arith}
use Rattle.std.proofs.lemmas.Bool.Decides.{nat_tests}
use Rattle.std.specs.FinMap.{insert, remove, len}
use Rattle.uring_base.specs.declared.buffer.Loan.{Loan}
use Rattle.uring_base.specs.declared.events.Completion.{Completion}
use Rattle.uring_base.specs.Completions.{is_more, is_final}
use Rattle.uring_base.specs.Loans.{loan_buf}
use Rattle.uring_model.specs.declared.jobs.Outcome.{Outcome}
use Rattle.rent_table.specs.declared.ops.Flight.{Flight}
use Rattle.rent_table.specs.declared.ops.OpDone.{OpDone}
use Rattle.rent_table.specs.Lists.{has}
use Rattle.rent_table.specs.Ops.{Ops, flight_at, done_at, knows, next_by, quiet_outcome, hangs, hanging, all_quietly_resolved, with_hanging_resolved}
use Rattle.rent_table.specs.Laws.{AreInOrder}
use Rattle.rent_table.proofs.Endings.{all_done, done_told, resolved_flights, resolved_outcomes}
use Rattle.rent_table.proofs.Orders.{in_order}
use Rattle.rent_engine.specs.declared.fault.EngineFault.{EngineFault}
use Rattle.rent_engine.specs.declared.fault.EngineFault.TheVariants.{Stranger, Fault, NoMemory}
use Rattle.rent_engine.specs.Ops as engine
use Rattle.rent_engine.specs.Ops.{has_strange_loan, is_strange_for, completed, completed_by, outcome, Pumps}
use Rattle.run_loop.specs.declared.slot.Reply.{Reply}
use Rattle.run_loop.specs.declared.slot.Reply.TheVariants.{Plain, Buffer, Success}
use Rattle.run_loop.specs.declared.slot.Slot.{Slot}
use Rattle.run_loop.specs.declared.slot.Slot.TheVariants.{Open, Done}
use Rattle.run_loop.specs.Told.{lends, heard, outcome_from, unposted}
use Rattle.run_loop.specs.Slots.{is_unexpected, first_is_done, closed_slot, all_closed, land_in, land_one, land_all, stranger_among}
use Rattle.run_loop.specs.Flights.{WasLent, next_for, slot_flight, flight_in, all_polled, AreOperated}
use Rattle.run_loop.proofs.Closing.{closed_twice, tail_closed}
use Rattle.run_loop.proofs.FlightLemmas.{Apart, either_way, same_lists, at_insert, at_remove, itself, polled_at, at_all, still_open, apart, apart_below, same_stranger}

-- a last completion that is due brings a buffer back exactly where one was lent
same_lent : (lent : Bool) (n : ℕ) (last : Bool) (loan : Option Loan) → last ≡ true → has_strange_loan lent n last loan ≡ false → lent ≡ is_some (loan_buf loan)
same_lent true n last None l e = let bad : true ≡ false = sym l ∙ e in cc
same_lent false n last None l e = refl
same_lent true n last (Some loan) l e = refl
same_lent false n last (Some loan) l e = let bad : true ≡ false = e in cc

some_flight : (o : Option Flight) (c : Completion) → is_strange_for o c ≡ false → (flight : Flight) × (o ≡ Some flight)
some_flight None c e = cc
some_flight (Some flight) c e = (flight, refl)

no_flight : (b : Bool) (n : ℕ) (slot : Option Slot) → slot_flight n slot ≡ None → cond b (slot_flight n slot) None ≡ None
no_flight true n slot e = e
no_flight false n slot e = refl

-- Quiet jobs in front of one that gets its outcome: each of a run of open quiet slots up to it.

abbrev is_quiet_slot : Slot → Bool
is_quiet_slot (Open reply quiet) = quiet
is_quiet_slot (Done o) = false

abbrev quiet_at : Option Slot → Bool
quiet_at None = false
quiet_at (Some slot) = is_quiet_slot slot

-- the first u slots are open and quiet
abbrev all_quiet : List Slot → ℕ → Bool
all_quiet slots zero = true
all_quiet [] (suc u) = false
all_quiet (slot ∷ slots) (suc u) = is_quiet_slot slot && all_quiet slots u

-- k is below u, and so are all from k to the one before u
abbrev runs_to : List Slot → ℕ → ℕ → Bool
runs_to [] u k = false
runs_to (slot ∷ slots) zero k = false
runs_to (slot ∷ slots) (suc u) zero = all_quiet (slot ∷ slots) (suc u)
runs_to (slot ∷ slots) (suc u) (suc k) = runs_to slots u k

closed_at : (slot : Slot) (before now all : Bool) → closed_slot slot before ≡ slot → now ≡ (all || before) → closed_slot slot now ≡ cond (is_quiet_slot slot && all) (Done unposted) slot
closed_at (Done o) before now all e h = refl
closed_at (Open reply false) before now all e h = refl
closed_at (Open reply true) true now all e h = cc
closed_at (Open reply true) false now true e h = ap (closed_slot (Open reply true)) h
closed_at (Open reply true) false now false e h = ap (closed_slot (Open reply true)) h

-- what closing makes of slots that were closed, where one of them gets its outcome
closed_by : (slots : List Slot) (u k : ℕ) (o : Outcome) → all_closed slots ≡ slots → u < length slots → nat_eq u k ≡ false → slice_get (all_closed (slice_set slots u (Done o))) k ≡ cond (runs_to slots u k) (Some (Done unposted)) (slice_get slots k)
closed_by [] u k o e lt n = absurd (omega arith)
closed_by (slot ∷ slots) zero zero o e lt n = absurd (grind (arith, nat_tests))
closed_by (slot ∷ slots) zero (suc k) o e lt n = ap (λ l. slice_get l k) (tail_closed slot slots e).1
closed_by (slot ∷ slots) (suc u) (suc k) o e lt n = closed_by slots u k o (tail_closed slot slots e).1 (omega arith) (apart_below u k n)
closed_by (slot ∷ slots) (suc u) zero o e lt n =
    let p = tail_closed slot slots e in
    ap Some (closed_at slot (first_is_done slots) (first_is_done (all_closed (slice_set slots u (Done o)))) (all_quiet slots u) p.0 (first_now slots u o p.1 (omega arith)))
    ∙ some_if (is_quiet_slot slot && all_quiet slots u) slot
  where
    some_if : (b : Bool) (slot : Slot) → Some (cond b (Done unposted) slot) ≡ cond b (Some (Done unposted)) (Some slot)
    some_if true slot = refl
    some_if false slot = refl

    first_now : (slots : List Slot) (u : ℕ) (o : Outcome) → all_closed slots ≡ slots → u < length slots → first_is_done (all_closed (slice_set slots u (Done o))) ≡ (all_quiet slots u || first_is_done slots)
    first_now [] u o e lt = absurd (omega arith)
    first_now (slot ∷ slots) zero o e lt = refl
    first_now (slot ∷ slots) (suc u) o e lt =
        let p = tail_closed slot slots e in
        ap (λ s. first_is_done (s ∷ all_closed (slice_set slots u (Done o)))) (closed_at slot (first_is_done slots) (first_is_done (all_closed (slice_set slots u (Done o)))) (all_quiet slots u) p.0 (first_now slots u o p.1 (omega arith)))
        ∙ done_if (is_quiet_slot slot && all_quiet slots u) slot (all_closed (slice_set slots u (Done o))) slots
      where
        done_if : (b : Bool) (slot : Slot) (xs slots : List Slot) → first_is_done (cond b (Done unposted) slot ∷ xs) ≡ (b || first_is_done (slot ∷ slots))
        done_if true slot xs slots = refl
        done_if false (Open reply quiet) xs slots = refl
        done_if false (Done o) xs slots = refl

-- such a run in words

and_parts : (b c : Bool) → (b && c) ≡ true → (b ≡ true) × (c ≡ true)
and_parts true c e = (refl, e)
and_parts false c e = cc

both : (b c : Bool) → b ≡ true → c ≡ true → (b && c) ≡ true
both b c e f = rw (e, f) refl

all_says : (slots : List Slot) (u i : ℕ) → all_quiet slots u ≡ true → i < u → quiet_at (slice_get slots i) ≡ true
all_says slots zero i e lt = absurd (omega arith)
all_says [] (suc u) i e lt = cc
all_says (slot ∷ slots) (suc u) zero e lt = (and_parts (is_quiet_slot slot) (all_quiet slots u) e).0
all_says (slot ∷ slots) (suc u) (suc i) e lt = all_says slots u i (and_parts (is_quiet_slot slot) (all_quiet slots u) e).1 (omega arith)

all_from : (slots : List Slot) (u : ℕ) → ((i : ℕ) → i < u → quiet_at (slice_get slots i) ≡ true) → all_quiet slots u ≡ true
all_from slots zero f = refl
all_from [] (suc u) f = let bad : false ≡ true = f 0 (omega arith) in cc
all_from (slot ∷ slots) (suc u) f = both (is_quiet_slot slot) (all_quiet slots u) (f 0 (omega arith)) (all_from slots u (λ i lt. f (suc i) (omega (arith, lt))))

runs_say : (slots : List Slot) (u k : ℕ) → runs_to slots u k ≡ true → (k < u) × ((i : ℕ) → k ≤ i → i < u → quiet_at (slice_get slots i) ≡ true)
runs_say [] u k e = cc
runs_say (slot ∷ slots) zero k e = cc
runs_say (slot ∷ slots) (suc u) zero e = (omega arith, λ i le lt. all_says (slot ∷ slots) (suc u) i e lt)
runs_say (slot ∷ slots) (suc u) (suc k) e =
    let p = runs_say slots u k e in
    (omega (arith, p.0), further p.1)
  where
    further : ((i : ℕ) → k ≤ i → i < u → quiet_at (slice_get slots i) ≡ true) → (i : ℕ) → suc k ≤ i → i < suc u → quiet_at (slice_get (slot ∷ slots) i) ≡ true
    further f zero le lt = absurd (omega arith)
    further f (suc i) le lt = f i (omega (arith, le)) (omega (arith, lt))

runs_from : (slots : List Slot) (u k : ℕ) → k < u → u < length slots → ((i : ℕ) → k ≤ i → i < u → quiet_at (slice_get slots i) ≡ true) → runs_to slots u k ≡ true
runs_from [] u k lt h f = absurd (omega arith)
runs_from (slot ∷ slots) zero k lt h f = absurd (omega arith)
runs_from (slot ∷ slots) (suc u) zero lt h f = all_from (slot ∷ slots) (suc u) (λ i l. f i (omega arith) l)
runs_from (slot ∷ slots) (suc u) (suc k) lt h f = runs_from slots u k (omega arith) (omega arith) (λ i le l. f (suc i) (omega (arith, le)) (omega (arith, l)))

same_bool : (a b : Bool) → (a ≡ true → b ≡ true) → (b ≡ true → a ≡ true) → a ≡ b
same_bool true b f g = sym (f refl)
same_bool false true f g = g refl
same_bool false false f g = refl

inside_of : {A : Type 0} (xs : List A) (k : ℕ) (x : A) → slice_get xs k ≡ Some x → k < length xs
inside_of [] k x e = cc
inside_of (y ∷ xs) zero x e = omega arith
inside_of (y ∷ xs) (suc k) x e = omega (arith, inside_of xs k x e)

-- what is quiet names the next one

next_here : (b : Bool) (n m : ℕ) (slot : Option Slot) → next_by (cond b (slot_flight n slot) None) ≡ Some m → (m ≡ n + 1) × (quiet_at slot ≡ true)
next_here true n m None e = cc
next_here true n m (Some (Open reply true)) e = let same : n + 1 ≡ m = cc in (sym same, refl)
next_here true n m (Some (Open reply false)) e = cc
next_here true n m (Some (Done o)) e = cc
next_here false n m slot e = cc

next_of_quiet : (b : Bool) (n : ℕ) (slot : Option Slot) → b ≡ true → quiet_at slot ≡ true → next_by (cond b (slot_flight n slot) None) ≡ Some (n + 1)
next_of_quiet b n None e h = cc
next_of_quiet b n (Some (Open reply true)) e h = ap (λ b. next_by (cond b (slot_flight n (Some (Open reply true))) None)) e
next_of_quiet b n (Some (Open reply false)) e h = cc
next_of_quiet b n (Some (Done o)) e h = cc

-- what isn't in flight is resolved as before
idle_done : (ns : List ℕ) (ops : Ops) (q : ℕ) → flight_at ops q ≡ None → done_at (all_quietly_resolved ns ops) q ≡ done_at ops q
idle_done ns ops q none = all_done ns ops q ∙ ap (λ f. cond (has q ns) (done_told f (done_at ops q)) (done_at ops q)) none ∙ either (has q ns) (done_at ops q)
  where
    either : (b : Bool) (d : Option OpDone) → cond b d d ≡ d
    either true d = refl
    either false d = refl

heard_zero : (reply : Reply) → heard reply (pos 0) ≡ pos 0
heard_zero Plain = refl
heard_zero Buffer = refl
heard_zero Success = refl

module _ (ops : Ops) (begun : ℕ) (slots : List Slot) (jobs : List ℕ) (a : AreOperated ops begun slots jobs) (c : Completion) (due : engine.is_stranger ops c ≡ false) where
  -- one that isn't the last changes nothing
  module _ (more : is_more c.flags ≡ true) where
    unchanged : completed ops c ≡ ops
    unchanged = λ i. cond (due i || more i) ops (completed_by (flight_at ops c.user_data) c ops)

    not_landed : land_one (all_polled ops slots) c ≡ all_polled ops slots
    not_landed = λ i. cond (not (more i)) (all_closed (land_in (slice_get (all_polled ops slots) c.user_data) (all_polled ops slots) c.user_data (record { result = c.result; loan = c.loan }))) (all_polled ops slots)

    stays : AreOperated (completed ops c) begun slots jobs × (all_polled (completed ops c) slots ≡ land_one (all_polled ops slots) c)
    stays = (subst (λ o. AreOperated o begun slots jobs) (sym unchanged) a, ap (λ o. all_polled o slots) unchanged ∙ sym not_landed)

  -- the last one resolves its operation, and all that hangs on it
  module _ (last : is_more c.flags ≡ false) where
    abbrev u : ℕ
    u = c.user_data

    abbrev shown : List Slot
    shown = all_polled ops slots

    abbrev base : Ops
    base = record { in_flight = remove ops.in_flight u; done = insert ops.done u (outcome c); joins = remove ops.joins u }

    abbrev after : Ops
    after = with_hanging_resolved u base

    the_flight : (flight : Flight) × (flight_at ops u ≡ Some flight)
    the_flight = some_flight (flight_at ops u) c due

    -- its job's slot, now and once all is polled
    spot : Apart ops begun slots u the_flight.0
    spot = apart ops begun slots jobs a u the_flight.0 the_flight.1

    abbrev told : Outcome
    told = outcome_from spot.reply (record { result = c.result; loan = c.loan })

    becomes : completed ops c ≡ after
    becomes =
        (λ i. cond (due i || last i) ops (completed_by (flight_at ops u) c ops))
        ∙ ap (λ o. completed_by o c ops) the_flight.1
        ∙ ap (λ b. with_hanging_resolved u (record { in_flight = remove ops.in_flight u; done = cond b ops.done (insert ops.done u (outcome c)); joins = remove ops.joins u })) spot.kept

    base_done_here : done_at base u ≡ Some (outcome c)
    base_done_here = at_insert ops.done u (outcome c) u ∙ ap (λ b. cond b (Some (outcome c)) (done_at ops u)) (itself u)

    base_done_else : (n : ℕ) → nat_eq u n ≡ false → done_at base n ≡ done_at ops n
    base_done_else n e = at_insert ops.done u (outcome c) n ∙ ap (λ b. cond b (Some (outcome c)) (done_at ops n)) e

    base_gone : flight_at base u ≡ None
    base_gone = at_remove ops.in_flight u u ∙ ap (λ b. cond b None (flight_at ops u)) (itself u)

    base_flight : (n : ℕ) → nat_eq u n ≡ false → flight_at base n ≡ flight_in begun shown n
    base_flight n e = at_remove ops.in_flight u n ∙ ap (λ b. cond b None (flight_at ops n)) e ∙ a.in_flight n

    -- what hangs on it are the quiet jobs in front of it

    abbrev hung : ℕ → Bool
    hung n = hangs (len base.in_flight) base u n

    orders : AreInOrder base
    orders q m e = either_way u q _
        (λ same. absurd (let bad : None ≡ Some m = sym (ap next_by (subst (λ k. flight_at base k ≡ None) same base_gone)) ∙ e in cc))
        (λ other. (next_here (nat_lt q begun) q m (slice_get shown q) (ap next_by (sym (base_flight q other)) ∙ e)).0)

    below_of : (n : ℕ) → n < begun → nat_lt n begun ≡ true
    below_of n h = grind (arith, nat_tests)

    differs : (n : ℕ) → n < u → nat_eq u n ≡ false
    differs n h = grind (arith, nat_tests)

    length_holds : u < length shown
    length_holds = inside_of shown u (Open spot.reply spot.quiet) spot.polled_slot

    hung_is : (n : ℕ) → hung n ≡ runs_to shown u n
    hung_is n = same_bool (hung n) (runs_to shown u n)
        (λ h. let p = (in_order base u n orders).0 h in runs_from shown u n p.0 length_holds
        (λ i le lt. (next_here (nat_lt i begun) i (i + 1) (slice_get shown i) (ap next_by (sym (base_flight i (differs i lt))) ∙ p.1 i le lt)).1))
        (λ r. let p = runs_say shown u n r in (in_order base u n orders).1
        (p.0, λ i le lt. ap next_by (base_flight i (differs i lt)) ∙ next_of_quiet (nat_lt i begun) i (slice_get shown i) (below_of i (omega (arith, lt, spot.below))) (p.1 i le lt)))

    never_own : hung u ≡ false
    never_own = hung_is u ∙ no_loop (runs_to shown u u) (λ r. let p = runs_say shown u u r in omega (arith, p.0))
      where
        no_loop : (b : Bool) → (b ≡ true → ⊥) → b ≡ false
        no_loop true f = absurd (f refl)
        no_loop false f = refl

    -- the flights and outcomes after it

    flight_else : (n : ℕ) → flight_at after n ≡ cond (hung n) None (flight_at base n)
    flight_else n = resolved_flights u base n

    done_own : done_at after u ≡ Some (outcome c)
    done_own = idle_done (hanging base u) base u base_gone ∙ base_done_here

    hung_flight : (n : ℕ) → hung n ≡ true → (reply : Reply) × (slice_get shown n ≡ Some (Open reply true)) × (slice_get slots n ≡ Some (Open reply true)) × (done_at ops n ≡ None) × (nat_eq u n ≡ false) × (n < begun)
    hung_flight n h =
        let p = runs_say shown u n (sym (hung_is n) ∙ h) in
        let s = quiet_slot (slice_get shown n) (p.1 n (omega arith) p.0) in
        let q = still_open (slice_get slots n) (done_at ops n) s.0 true (sym (at_all ops slots n) ∙ s.1) in
        (s.0, s.1, q.1, q.0, differs n p.0, omega (arith, p.0, spot.below))
      where
        quiet_slot : (slot : Option Slot) → quiet_at slot ≡ true → (reply : Reply) × (slot ≡ Some (Open reply true))
        quiet_slot None e = cc
        quiet_slot (Some (Open reply true)) e = (reply, refl)
        quiet_slot (Some (Open reply false)) e = cc
        quiet_slot (Some (Done o)) e = cc

    done_hung : (n : ℕ) → hung n ≡ true → done_at after n ≡ Some quiet_outcome
    done_hung n h =
        let s = hung_flight n h in
        let flight : Flight = record { lent = lends s.0; forgotten = false; next = next_for n true } in
        let there : flight_at base n ≡ Some (record { lent = lends s.0; forgotten = false; next = next_for n true }) =
        base_flight n s.4 ∙ (λ i. cond (below_of n s.5 i) (slot_flight n (s.1 i)) None) in
        resolved_outcomes u base n (record { lent = lends s.0; forgotten = false; next = next_for n true }) there ∙ ap (λ b. cond b (Some quiet_outcome) (done_at base n)) h

    done_other : (n : ℕ) → nat_eq u n ≡ false → hung n ≡ false → done_at after n ≡ done_at ops n
    done_other n e h = by_flight (flight_at base n) refl
      where
        by_flight : (o : Option Flight) → flight_at base n ≡ o → done_at after n ≡ done_at ops n
        by_flight None q = idle_done (hanging base u) base n q ∙ base_done_else n e
        by_flight (Some flight) q = resolved_outcomes u base n flight q ∙ ap (λ b. cond b (cond flight.forgotten (done_at base n) (Some quiet_outcome)) (done_at base n)) h ∙ base_done_else n e

    -- the slots after it

    abbrev landed : List Slot
    landed = all_closed (slice_set shown u (Done told))

    landed_own : slice_get landed u ≡ Some (Done told)
    landed_own = own_set shown u (Done told) length_holds told refl
      where
        own_set : (xs : List Slot) (k : ℕ) (v : Slot) → k < length xs → (o : Outcome) → v ≡ Done o → slice_get (all_closed (slice_set xs k v)) k ≡ Some v
        own_set [] k v lt o e = absurd (omega arith)
        own_set (x ∷ xs) zero v lt o e = rw e refl
        own_set (x ∷ xs) (suc k) v lt o e = own_set xs k v (omega arith) o e

    landed_else : (n : ℕ) → nat_eq u n ≡ false → slice_get landed n ≡ cond (hung n) (Some (Done unposted)) (slice_get shown n)
    landed_else n e = closed_by shown u n told a.closed length_holds e ∙ ap (λ b. cond b (Some (Done unposted)) (slice_get shown n)) (sym (hung_is n))

    by_hung : (n : ℕ) (P : Type 0) → (u ≡ n → P) → (nat_eq u n ≡ false → hung n ≡ true → P) → (nat_eq u n ≡ false → hung n ≡ false → P) → P
    by_hung n P f g h = either_way u n P f (λ e. elim (hung n) as (λ b. hung n ≡ b → P) [ true ↦ λ q. g e q | false ↦ λ q. h e q ] refl)

    landed_at : (k : ℕ) → polled_at (slice_get slots k) (done_at after k) ≡ slice_get landed k
    landed_at k = by_hung k _
        (λ e. subst (λ m. polled_at (slice_get slots m) (done_at after m) ≡ slice_get landed m) e ((λ i. polled_at (spot.slot i) (done_own i)) ∙ sym landed_own))
        (λ e h. let s = hung_flight k h in
        (λ i. polled_at (s.2 i) (done_hung k h i)) ∙ ap (λ r. Some (Done (record { result = r; buf = None; quiet = true }))) (heard_zero s.0)
        ∙ sym (landed_else k e ∙ ap (λ b. cond b (Some (Done unposted)) (slice_get shown k)) h))
        (λ e h. ap (polled_at (slice_get slots k)) (done_other k e h) ∙ sym (at_all ops slots k) ∙ sym (landed_else k e ∙ ap (λ b. cond b (Some (Done unposted)) (slice_get shown k)) h))

    lands : all_polled after slots ≡ landed
    lands = same_lists _ _ (λ k. at_all after slots k ∙ landed_at k)

    flight_after : (n : ℕ) → flight_at after n ≡ flight_in begun landed n
    flight_after n = by_hung n _
        (λ e. subst (λ m. flight_at after m ≡ flight_in begun landed m) e
        (flight_else u ∙ (λ i. cond (never_own i) None (base_gone i)) ∙ sym (no_flight (nat_lt u begun) u (slice_get landed u) (ap (slot_flight u) landed_own))))
        (λ e h. flight_else n ∙ ap (λ b. cond b None (flight_at base n)) h
        ∙ sym (no_flight (nat_lt n begun) n (slice_get landed n) (ap (slot_flight n) (landed_else n e ∙ ap (λ b. cond b (Some (Done unposted)) (slice_get shown n)) h))))
        (λ e h. flight_else n ∙ ap (λ b. cond b None (flight_at base n)) h ∙ base_flight n e
        ∙ ap (λ s. cond (nat_lt n begun) (slot_flight n s) None) (sym (landed_else n e ∙ ap (λ b. cond b (Some (Done unposted)) (slice_get shown n)) h)))

    -- the buffer came back that was lent
    lent_back : WasLent slots u (outcome c)
    lent_back = record {
      reply = spot.reply;
      quiet = spot.quiet;
      slot = spot.slot;
      lent = spot.lent ∙ same_lent the_flight.0.lent u (is_final c.flags) c.loan (ap not last) (ap (λ o. is_strange_for o c) (sym the_flight.1) ∙ due);
      posted = λ q. cc;
    }

    resolved_after : (n : ℕ) → IfSome (done_at after n) (WasLent slots n)
    resolved_after n = by_hung n _
        (λ e. subst (λ m. IfSome (done_at after m) (WasLent slots m)) e (subst (λ o. IfSome o (WasLent slots u)) (sym done_own) lent_back))
        (λ e h. let s = hung_flight n h in
        subst (λ o. IfSome o (WasLent slots n)) (sym (done_hung n h)) (record { reply = s.0; quiet = true; slot = s.2; lent = a.bare n s.0 s.2; posted = λ q. refl }))
        (λ e h. subst (λ o. IfSome o (WasLent slots n)) (sym (done_other n e h)) (a.resolved n))

    known_after : (n : ℕ) → knows ops n ≡ knows after n
    known_after n = by_hung n _
        (λ e. subst (λ m. knows ops m ≡ knows after m) e ((λ i. is_some (the_flight.1 i) || is_some (done_at ops u)) ∙ sym (ap (λ o. is_some (flight_at after u) || is_some o) done_own ∙ or_true (is_some (flight_at after u)))))
        (λ e h. let s = hung_flight n h in
        ap (λ o. is_some o || is_some (done_at ops n)) (a.in_flight n ∙ (λ i. cond (below_of n s.5 i) (slot_flight n (s.1 i)) None))
        ∙ sym (ap (λ o. is_some (flight_at after n) || is_some o) (done_hung n h) ∙ or_true (is_some (flight_at after n))))
        (λ e h. (λ i. is_some (a.in_flight n i) || is_some (sym (done_other n e h) i)) ∙ ap (λ o. is_some o || is_some (done_at after n)) (sym (flight_else n ∙ ap (λ b. cond b None (flight_at base n)) h ∙ base_flight n e)))
      where
        or_true : (b : Bool) → (b || true) ≡ true
        or_true true = refl
        or_true false = refl

    landed_last : land_one shown c ≡ landed
    landed_last =
        (λ i. cond (not (last i)) (all_closed (land_in (slice_get shown u) shown u (record { result = c.result; loan = c.loan }))) shown)
        ∙ ap (λ slot. all_closed (land_in slot shown u (record { result = c.result; loan = c.loan }))) spot.polled_slot

    operated_after : AreOperated after begun slots jobs
    operated_after = record {
      in_flight = λ n. flight_after n ∙ ap (λ s. flight_in begun s n) (sym lands);
      resolved = resolved_after;
      listed = λ n. a.listed n ∙ ap (λ b. cond b 1 0) (known_after n);
      closed = subst (λ l. all_closed l ≡ l) (sym lands) (closed_twice (slice_set shown u (Done told)));
      bare = a.bare;
    }

    settles : AreOperated (completed ops c) begun slots jobs × (all_polled (completed ops c) slots ≡ land_one shown c)
    settles = (subst (λ o. AreOperated o begun slots jobs) (sym becomes) operated_after, ap (λ o. all_polled o slots) becomes ∙ lands ∙ sym landed_last)

  -- one completion that is due lands in its job's slot, once all is polled
  pub one_completed : AreOperated (completed ops c) begun slots jobs × (all_polled (completed ops c) slots ≡ land_one (all_polled ops slots) c)
  one_completed = elim (is_more c.flags) as (λ b. is_more c.flags ≡ b → AreOperated (completed ops c) begun slots jobs × (all_polled (completed ops c) slots ≡ land_one (all_polled ops slots) c)) [
    | true ↦ λ e. stays e
    | false ↦ λ e. settles e
  ] refl

-- what completions tell, by how they ended
abbrev pub Lands : ℕ → List Slot → List ℕ → List Slot → List Completion → Ops → Result (Unit {0}) EngineFault → Type 0
Lands begun slots jobs seen cs ops' (Ok _) = (stranger_among begun seen cs ≡ None) × AreOperated ops' begun slots jobs × (all_polled ops' slots ≡ land_all seen cs)
Lands begun slots jobs seen cs ops' (Err (Stranger u)) = stranger_among begun seen cs ≡ Some u
Lands begun slots jobs seen cs ops' (Err (Fault errno)) = Unit {0}
Lands begun slots jobs seen cs ops' (Err NoMemory) = Unit {0}

lands_more : (begun : ℕ) (slots : List Slot) (jobs : List ℕ) (seen : List Slot) (c : Completion) (cs : List Completion) (ops' : Ops) (end : Result (Unit {0}) EngineFault) → is_unexpected begun seen c ≡ false → Lands begun slots jobs (land_one seen c) cs ops' end → Lands begun slots jobs seen (c ∷ cs) ops' end
lands_more begun slots jobs seen c cs ops' (Ok _) e l = (ap (λ b. cond b (Some c.user_data) (stranger_among begun (land_one seen c) cs)) e ∙ l.0, l.1, l.2)
lands_more begun slots jobs seen c cs ops' (Err (Stranger u)) e l = ap (λ b. cond b (Some c.user_data) (stranger_among begun (land_one seen c) cs)) e ∙ l
lands_more begun slots jobs seen c cs ops' (Err (Fault errno)) e l = tt
lands_more begun slots jobs seen c cs ops' (Err NoMemory) e l = tt

pub all_completed : (ops : Ops) (begun : ℕ) (slots : List Slot) (jobs : List ℕ) → AreOperated ops begun slots jobs → (cs : List Completion) (ops' : Ops) (end : Result (Unit {0}) EngineFault) → Pumps ops cs ops' end → Lands begun slots jobs (all_polled ops slots) cs ops' end
all_completed ops begun slots jobs a [] ops' (Ok _) p = (refl, subst (λ o. AreOperated o begun slots jobs) (sym p) a, ap (λ o. all_polled o slots) p)
all_completed ops begun slots jobs a [] ops' (Err (Stranger u)) p = absurd p
all_completed ops begun slots jobs a [] ops' (Err (Fault errno)) p = tt
all_completed ops begun slots jobs a [] ops' (Err NoMemory) p = tt
all_completed ops begun slots jobs a (c ∷ cs) ops' end (inl p) =
    subst (Lands begun slots jobs (all_polled ops slots) (c ∷ cs) ops') (sym p.3)
    (ap (λ b. cond b (Some c.user_data) (stranger_among begun (land_one (all_polled ops slots) c) cs)) (sym (same_stranger ops begun (all_polled ops slots) c (a.in_flight c.user_data)) ∙ p.0))
all_completed ops begun slots jobs a (c ∷ cs) ops' end (inr p) =
    let l = one_completed ops begun slots jobs a c p.0 in
    lands_more begun slots jobs (all_polled ops slots) c cs ops' end (sym (same_stranger ops begun (all_polled ops slots) c (a.in_flight c.user_data)) ∙ p.0)
    (subst (λ s. Lands begun slots jobs s cs ops' end) l.1 (all_completed (completed ops c) begun slots jobs l.0 cs ops' end p.1))
