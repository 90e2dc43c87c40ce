-- Jobs in flight, and their slots.
use Rattle.std.proofs.Common.{◌≡◌, ℕ, ◌+◌, ◌<◌, zero, suc, Bool, true, false, ◌||◌, ◌&&◌, not, cond, nat_eq, nat_lt, List, [], ◌∷◌, ◌++◌, length, Option, Some, None, is_some, IfSome, slice_get, slice_set, refl, ap, sym, subst, ◌∙◌, T, arith, append-nil, append_assoc}
use Rattle.std.proofs.lemmas.Bool.Decides.{nat_tests}
use Rattle.std.specs.Ordering.{nat_cmp, eq_by_cmp}
use Rattle.std.specs.Cmp.{nat_cmp_total, unsigned_tied, eq_by_cmp_equiv}
use Rattle.std.specs.FinMap.{FinMap, get, insert, remove, get-insert, get-remove}
use Rattle.uring_base.specs.declared.buffer.Loan.{Loan}
use Rattle.uring_base.specs.declared.events.Completion.{Completion}
use Rattle.uring_base.specs.Completions.{is_final}
use Rattle.uring_model.specs.Strange.{has_other_number, has_wrong_loan}
use Rattle.rent_table.specs.declared.ops.Flight.{Flight}
use Rattle.rent_table.specs.declared.ops.OpDone.{OpDone}
use Rattle.rent_engine.specs.declared.ops.OpPoll.{OpPoll}
use Rattle.rent_engine.specs.declared.ops.OpPoll.TheVariants.{Ready, Pending}
use Rattle.rent_engine.specs.Ops as engine
use Rattle.rent_table.specs.Ops.{Ops, flight_at, done_at, knows, taken_out}
use Rattle.rent_engine.specs.Ops.{has_strange_loan, is_strange_for, completed, outcome, polled, polled_done}
use Rattle.run_loop.specs.declared.slot.Reply.{Reply}
use Rattle.run_loop.specs.declared.slot.Slot.{Slot}
use Rattle.run_loop.specs.declared.slot.Slot.TheVariants.{Open, Done}
use Rattle.run_loop.specs.Told.{lends}
use Rattle.run_loop.specs.Slots.{is_strange_at, is_unexpected, all_closed}
use Rattle.uring_model.specs.declared.jobs.Outcome.{Outcome}
use Rattle.run_loop.specs.Flights.{WasLent, next_for, slot_flight, flight_in, outcome_polled, polled_slot, polled_from, all_polled, with_polled, left_by, times_in, AreOperated, NoneResolved}

-- lists by their places

pub same_lists : {A : Type 0} (xs ys : List A) → ((k : ℕ) → slice_get xs k ≡ slice_get ys k) → xs ≡ ys
same_lists [] [] f = refl
same_lists [] (y ∷ ys) f = let e : None ≡ Some y = f 0 in cc
same_lists (x ∷ xs) [] f = let e : Some x ≡ None = f 0 in cc
same_lists (x ∷ xs) (y ∷ ys) f =
    let e : Some x ≡ Some y = f 0 in
    let here : x ≡ y = cc in
    let rest = same_lists xs ys (λ k. f (suc k)) in
    λ i. here i ∷ rest i

pub set_here : {A : Type 0} (xs : List A) (k : ℕ) (x v : A) → slice_get xs k ≡ Some x → slice_get (slice_set xs k v) k ≡ Some v
set_here [] k x v e = cc
set_here (y ∷ ys) zero x v e = refl
set_here (y ∷ ys) (suc k) x v e = set_here ys k x v e

pub apart_below : (k j : ℕ) → nat_eq (suc k) (suc j) ≡ false → nat_eq k j ≡ false
apart_below k j e = grind (arith, nat_tests)

pub set_else : {A : Type 0} (xs : List A) (k j : ℕ) (v : A) → nat_eq k j ≡ false → slice_get (slice_set xs k v) j ≡ slice_get xs j
set_else [] k j v e = refl
set_else (y ∷ ys) zero zero v e = absurd (grind (arith, nat_tests))
set_else (y ∷ ys) zero (suc j) v e = refl
set_else (y ∷ ys) (suc k) zero v e = refl
set_else (y ∷ ys) (suc k) (suc j) v e = set_else ys k j v (apart_below k j e)

-- maps by their numbers

turned : (n q : ℕ) → eq_by_cmp nat_cmp q n ≡ nat_eq n q
turned n q = (eq_by_cmp_equiv nat_cmp_total).symm q n ∙ unsigned_tied n q

pub at_insert : {V : Type 0} (m : FinMap nat_cmp V) (n : ℕ) (v : V) (q : ℕ) → get (insert m n v) q ≡ cond (nat_eq n q) (Some v) (get m q)
at_insert m n v q = get-insert nat_cmp_total m n v q ∙ ap (λ b. cond b (Some v) (get m q)) (turned n q)

pub at_remove : {V : Type 0} (m : FinMap nat_cmp V) (n q : ℕ) → get (remove m n) q ≡ cond (nat_eq n q) None (get m q)
at_remove m n q = get-remove nat_cmp_total m n q ∙ ap (λ b. cond b None (get m q)) (turned n q)

-- slots that are polled

abbrev pub polled_at : Option Slot → Option OpDone → Option Slot
polled_at None answer = None
polled_at (Some slot) answer = Some (polled_slot slot answer)

at_polled : (n k : ℕ) (ops : Ops) (slots : List Slot) → slice_get (polled_from n ops slots) k ≡ polled_at (slice_get slots k) (done_at ops (n + k))
at_polled n k ops [] = refl
at_polled n zero ops (slot ∷ slots) = let e : n ≡ n + 0 = omega arith in ap (λ m. Some (polled_slot slot (done_at ops m))) e
at_polled n (suc k) ops (slot ∷ slots) = let e : n + 1 + k ≡ n + suc k = omega arith in at_polled (n + 1) k ops slots ∙ ap (λ m. polled_at (slice_get slots k) (done_at ops m)) e

pub at_all : (ops : Ops) (slots : List Slot) (k : ℕ) → slice_get (all_polled ops slots) k ≡ polled_at (slice_get slots k) (done_at ops k)
at_all ops slots k = let e : 0 + k ≡ k = omega arith in at_polled 0 k ops slots ∙ ap (λ m. polled_at (slice_get slots k) (done_at ops m)) e

none_from : (n : ℕ) (ops : Ops) (slots : List Slot) → NoneResolved ops → polled_from n ops slots ≡ slots
none_from n ops [] h = refl
none_from n ops (slot ∷ slots) h = λ i. polled_slot slot (h n i) ∷ none_from (n + 1) ops slots h i

pub none_polled : (ops : Ops) (slots : List Slot) → NoneResolved ops → all_polled ops slots ≡ slots
none_polled ops slots h = none_from 0 ops slots h

-- a slot that is open once all is polled was open, and its job isn't resolved
pub still_open : (slot : Option Slot) (done : Option OpDone) (reply : Reply) (quiet : Bool) → polled_at slot done ≡ Some (Open reply quiet) → (done ≡ None) × (slot ≡ Some (Open reply quiet))
still_open None answer reply quiet e = cc
still_open (Some slot) None reply quiet e = (refl, e)
still_open (Some (Open r q)) (Some done) reply quiet e = let bad : Some (Done (outcome_polled r done)) ≡ Some (Open reply quiet) = e in cc
still_open (Some (Done o)) (Some done) reply quiet e = let bad : Some (Done o) ≡ Some (Open reply quiet) = e in cc

-- strangers

loan_strange : (lends : Bool) (n : ℕ) (last : Bool) (loan : Option Loan) → has_strange_loan lends n last loan ≡ (has_other_number n loan || has_wrong_loan lends last loan)
loan_strange true n true None = refl
loan_strange true n false None = refl
loan_strange false n last None = refl
loan_strange lends n last (Some loan) = by_number lends last (nat_eq loan.number n)
  where
    by_number : (lends last b : Bool) → (not lends || not b || not last) ≡ (not b || cond (lends && last) false true)
    by_number true true true = refl
    by_number true true false = refl
    by_number true false true = refl
    by_number true false false = refl
    by_number false last true = refl
    by_number false last false = refl

strange_in : (b : Bool) (n : ℕ) (slot : Option Slot) (c : Completion) → is_strange_for (cond b (slot_flight n slot) None) c ≡ (not b || is_strange_at slot c)
strange_in true n None c = refl
strange_in true n (Some (Open reply quiet)) c = loan_strange (lends reply) c.user_data (is_final c.flags) c.loan
strange_in true n (Some (Done o)) c = refl
strange_in false n slot c = refl

-- the engine's strangers are those of the slots
pub same_stranger : (ops : Ops) (begun : ℕ) (slots : List Slot) (c : Completion) → flight_at ops c.user_data ≡ flight_in begun slots c.user_data → engine.is_stranger ops c ≡ is_unexpected begun slots c
same_stranger ops begun slots c e = ap (λ o. is_strange_for o c) e ∙ strange_in (nat_lt c.user_data begun) c.user_data (slice_get slots c.user_data) c

-- an operation in flight is of a started job with an open slot
pub record FlightOpen (b : Bool) (n : ℕ) (slot : Option Slot) (flight : Flight) : Type 0 where
  pub reply : Reply
  pub quiet : Bool
  pub started : b ≡ true
  pub slot_is : slot ≡ Some (Open reply quiet)
  pub lent : lends reply ≡ flight.lent
  pub kept : flight.forgotten ≡ false
  pub next : flight.next ≡ next_for n quiet

pub flight_open : (b : Bool) (n : ℕ) (slot : Option Slot) (flight : Flight) → cond b (slot_flight n slot) None ≡ Some flight → FlightOpen b n slot flight
flight_open true n None flight e = let bad : None ≡ Some flight = e in cc
flight_open true n (Some (Open reply quiet)) flight e =
    let same : Some (record { lent = lends reply; forgotten = false; next = next_for n quiet }) ≡ Some flight = e in
    let f : record { lent = lends reply; forgotten = false; next = next_for n quiet } ≡ flight = cc in
    record { reply = reply; quiet = quiet; started = refl; slot_is = refl; lent = ap (λ (x : Flight). x.lent) f; kept = sym (ap (λ (x : Flight). x.forgotten) f); next = sym (ap (λ (x : Flight). x.next) f) }
flight_open true n (Some (Done o)) flight e = let bad : None ≡ Some flight = e in cc
flight_open false n slot flight e = let bad : None ≡ Some flight = e in cc

-- how often a job stands in lists

pub times-append : (n : ℕ) (xs ys : List ℕ) → times_in n (xs ++ ys) ≡ times_in n xs + times_in n ys
times-append n [] ys = omega arith
times-append n (x ∷ xs) ys = let e = times-append n xs ys in omega (arith, e)

-- the jobs that wait to be polled, and those that were polled and are left

abbrev pub NoneLeftResolved : Ops → List ℕ → Type 0
NoneLeftResolved ops jobs = (n : ℕ) → is_some (done_at ops n) ≡ true → times_in n jobs ≡ 0

pub known_once : (b : Bool) (k : ℕ) → k ≡ cond b 1 0 → 0 < k → b ≡ true
known_once true k e h = refl
known_once false k e h = absurd (omega (arith, e, h))

pub same_number : (m n : ℕ) → nat_eq m n ≡ true → m ≡ n
same_number m n e = grind (arith, nat_tests)

-- by whether two numbers are one
pub either_way : (m n : ℕ) (P : Type 0) → (m ≡ n → P) → (nat_eq m n ≡ false → P) → P
either_way m n P f g = elim (nat_eq m n) as (λ b. nat_eq m n ≡ b → P) [ true ↦ λ e. f (same_number m n e) | false ↦ λ e. g e ] refl

pub if_then : {A : Type 0} (o : Option A) (P Q : A → Type 0) → ((x : A) → P x → Q x) → IfSome o P → IfSome o Q
if_then None P Q f p = tt
if_then (Some x) P Q f p = f x p

pub itself : (n : ℕ) → nat_eq n n ≡ true
itself n = grind (arith, nat_tests)

-- a job that is in flight isn't resolved
pub record Apart (ops : Ops) (begun : ℕ) (slots : List Slot) (n : ℕ) (flight : Flight) : Type 0 where
  pub reply : Reply
  pub quiet : Bool
  pub below : n < begun
  pub slot : slice_get slots n ≡ Some (Open reply quiet)
  pub unresolved : done_at ops n ≡ None
  pub polled_slot : slice_get (all_polled ops slots) n ≡ Some (Open reply quiet)
  pub lent : lends reply ≡ flight.lent
  pub kept : flight.forgotten ≡ false
  pub next : flight.next ≡ next_for n quiet

pub apart : (ops : Ops) (begun : ℕ) (slots : List Slot) (jobs : List ℕ) → AreOperated ops begun slots jobs → (n : ℕ) (flight : Flight) → flight_at ops n ≡ Some flight → Apart ops begun slots n flight
apart ops begun slots jobs a n flight e =
    let p = flight_open (nat_lt n begun) n (slice_get (all_polled ops slots) n) flight (sym (a.in_flight n) ∙ e) in
    let q = still_open (slice_get slots n) (done_at ops n) p.reply p.quiet (sym (at_all ops slots n) ∙ p.slot_is) in
    record { reply = p.reply; quiet = p.quiet; below = below_of p.started; slot = q.1; unresolved = q.0; polled_slot = p.slot_is; lent = p.lent; kept = p.kept; next = p.next }
  where
    below_of : nat_lt n begun ≡ true → n < begun
    below_of h = grind (arith, nat_tests)

-- what is open once one has its outcome was open
pub set_open : (slots : List Slot) (k n : ℕ) (o : Outcome) (reply : Reply) (quiet : Bool) → slice_get (slice_set slots k (Done o)) n ≡ Some (Open reply quiet) → slice_get slots n ≡ Some (Open reply quiet)
set_open [] k n o reply quiet e = e
set_open (s ∷ slots) zero zero o reply quiet e = cc
set_open (s ∷ slots) zero (suc n) o reply quiet e = e
set_open (s ∷ slots) (suc k) zero o reply quiet e = e
set_open (s ∷ slots) (suc k) (suc n) o reply quiet e = set_open slots k n o reply quiet e

-- one poll

abbrev pub Polls : Reply → Ops → ℕ → List Slot → ℕ → List ℕ → List ℕ → OpPoll → Ops → Type 0
Polls reply ops begun slots job rest left poll ops' =
    AreOperated ops' begun (with_polled reply job poll slots) (rest ++ (left ++ left_by poll job))
    × NoneLeftResolved ops' (left ++ left_by poll job)
    × (all_polled ops' (with_polled reply job poll slots) ≡ all_polled ops slots)

module _ (reply : Reply) (ops : Ops) (begun : ℕ) (slots : List Slot) (job : ℕ) (rest left : List ℕ) (a : AreOperated ops begun slots (job ∷ (rest ++ left))) (h : NoneLeftResolved ops left) (o : IfSome (done_at ops job) (λ _. (quiet : Bool) × (slice_get slots job ≡ Some (Open reply quiet)))) where
  listed_known : knows ops job ≡ true
  listed_known =
      let e = a.listed job in
      let here : (nat_eq job job) ≡ true = itself job in
      let one : times_in job (job ∷ (rest ++ left)) ≡ 1 + times_in job (rest ++ left) = rw here refl in
      known_once (knows ops job) (times_in job (job ∷ (rest ++ left))) e (omega (arith, one))

  pub pending : (flight : Flight) → flight_at ops job ≡ Some flight → Polls reply ops begun slots job rest left (Pending job) ops
  pending flight e =
      let p = apart ops begun slots (job ∷ (rest ++ left)) a job flight e in (
        record {
          in_flight = a.in_flight;
          resolved = a.resolved;
          closed = a.closed;
          bare = a.bare;
          listed = λ n.
              let l = a.listed n in
              let x = times-append n rest left in
              let y = times-append n rest (left ++ job ∷ []) in
              let z = times-append n left (job ∷ []) in
              omega (arith, l, x, y, z);
        },
        (λ n some.
            let z = times-append n left (job ∷ []) in
            let l = h n some in
            let other : nat_eq job n ≡ false = to_false (nat_eq job n) (λ same. let bad : true ≡ false = sym some ∙ ap (λ m. is_some (done_at ops m)) (sym (same_number job n same)) ∙ ap is_some p.unresolved in cc) in
            let c : times_in n (job ∷ []) ≡ 0 = rw other refl in
            omega (arith, z, l, c)),
        refl,
      )
    where
      to_false : (b : Bool) → (b ≡ true → ⊥) → b ≡ false
      to_false true f = absurd (f refl)
      to_false false f = refl

  pub lost : flight_at ops job ≡ None → done_at ops job ≡ None → ⊥
  lost e f = let bad : false ≡ true = (λ i. is_some (sym e i) || is_some (sym f i)) ∙ listed_known in cc

  module _ (done : OpDone) (none : flight_at ops job ≡ None) (some : done_at ops job ≡ Some done) where
    abbrev taken : Ops
    taken = record ops { done = remove ops.done job }

    abbrev filled : List Slot
    filled = slice_set slots job (Done (outcome_polled reply done))

    was_open : (quiet : Bool) × (slice_get slots job ≡ Some (Open reply quiet))
    was_open = subst (λ d. IfSome d (λ _. (quiet : Bool) × (slice_get slots job ≡ Some (Open reply quiet)))) some o

    taken_here : done_at taken job ≡ None
    taken_here = at_remove ops.done job job ∙ ap (λ b. cond b None (done_at ops job)) (itself job)

    taken_else : (n : ℕ) → nat_eq job n ≡ false → done_at taken n ≡ done_at ops n
    taken_else n e = at_remove ops.done job n ∙ ap (λ b. cond b None (done_at ops n)) e

    same_at : (k : ℕ) → polled_at (slice_get filled k) (done_at taken k) ≡ polled_at (slice_get slots k) (done_at ops k)
    same_at k = either_way job k _
        (λ e. subst (λ m. polled_at (slice_get filled m) (done_at taken m) ≡ polled_at (slice_get slots m) (done_at ops m)) e
        ((λ i. polled_at (set_here slots job (Open reply was_open.0) (Done (outcome_polled reply done)) was_open.1 i) (taken_here i)) ∙ (λ i. polled_at (sym was_open.1 i) (sym some i))))
        (λ e. λ i. polled_at (set_else slots job k (Done (outcome_polled reply done)) e i) (taken_else k e i))

    same_slots : all_polled taken filled ≡ all_polled ops slots
    same_slots = same_lists _ _ (λ k. at_all taken filled k ∙ same_at k ∙ sym (at_all ops slots k))

    still_resolved : (n : ℕ) → IfSome (done_at taken n) (WasLent filled n)
    still_resolved n = either_way job n _
        (λ e. subst (λ m. IfSome (done_at taken m) (WasLent filled m)) e (subst (λ o. IfSome o (WasLent filled job)) (sym taken_here) tt))
        (λ e. subst (λ o. IfSome o (WasLent filled n)) (sym (taken_else n e)) (if_then (done_at ops n) (WasLent slots n) (WasLent filled n) (λ d w. record { reply = w.reply; quiet = w.quiet; slot = set_else slots job n (Done (outcome_polled reply done)) e ∙ w.slot; lent = w.lent; posted = w.posted }) (a.resolved n)))

    still_listed : (n : ℕ) → times_in n (rest ++ left) ≡ cond (knows taken n) 1 0
    still_listed n = either_way job n _
        (λ e. subst (λ m. times_in m (rest ++ left) ≡ cond (knows taken m) 1 0) e
        (let l = a.listed job in
        let k : knows taken job ≡ false = λ i. is_some (none i) || is_some (taken_here i) in
        let here : times_in job (job ∷ (rest ++ left)) ≡ 1 + times_in job (rest ++ left) = ap (λ b. cond b 1 0 + times_in job (rest ++ left)) (itself job) in
        let once : times_in job (job ∷ (rest ++ left)) ≡ 1 = l ∙ ap (λ b. cond b 1 0) listed_known in
        let zero_times : times_in job (rest ++ left) ≡ 0 = omega (arith, here, once) in
        zero_times ∙ ap (λ b. cond b 1 0) (sym k)))
        (λ e.
        let here : times_in n (job ∷ (rest ++ left)) ≡ 0 + times_in n (rest ++ left) = ap (λ b. cond b 1 0 + times_in n (rest ++ left)) e in
        let plain : times_in n (rest ++ left) ≡ times_in n (job ∷ (rest ++ left)) = omega (arith, here) in
        plain ∙ a.listed n ∙ ap (λ o. cond (is_some (flight_at ops n) || is_some o) 1 0) (sym (taken_else n e)))

    still_left : NoneLeftResolved taken left
    still_left = λ n s. either_way job n _
        (λ e. let bad : true ≡ false = sym s ∙ ap (λ m. is_some (done_at taken m)) (sym e) ∙ ap is_some taken_here in absurd (subst T bad tt))
        (λ e. h n (ap is_some (sym (taken_else n e)) ∙ s))

    pub ready : Polls reply ops begun slots job rest left (Ready done) taken
    ready = (
      subst (λ l. AreOperated taken begun filled (rest ++ l)) (sym (append-nil left)) (record {
        in_flight = λ n. a.in_flight n ∙ ap (λ s. flight_in begun s n) (sym same_slots);
        resolved = still_resolved;
        listed = still_listed;
        closed = subst (λ l. all_closed l ≡ l) (sym same_slots) a.closed;
        bare = λ n r e. a.bare n r (set_open slots job n (outcome_polled reply done) r true e);
      }),
      subst (NoneLeftResolved taken) (sym (append-nil left)) still_left,
      same_slots,
    )

  by_poll : (o : Option Flight) (p : Option OpDone) → flight_at ops job ≡ o → done_at ops job ≡ p → Polls reply ops begun slots job rest left (cond (is_some o) (Pending job) (polled_done job p)) (cond (is_some o) ops (record ops { done = remove ops.done job }))
  by_poll (Some flight) p e f = pending flight e
  by_poll None (Some done) e f = ready done e f
  by_poll None None e f = absurd (lost e f)

  -- what one poll makes of the operations and the slots
  pub one_poll : Polls reply ops begun slots job rest left (polled ops job) (taken_out job ops)
  one_poll = by_poll (flight_at ops job) (done_at ops job) refl refl

-- once each is polled nothing is resolved
pub all_left : (ops : Ops) (begun : ℕ) (slots : List Slot) (left : List ℕ) → AreOperated ops begun slots left → NoneLeftResolved ops left → NoneResolved ops
all_left ops begun slots left a h n = none_if (done_at ops n) (λ some.
    let l = a.listed n in
    let z = h n some in
    let k : knows ops n ≡ true = ap (λ b. is_some (flight_at ops n) || b) some ∙ or_true (is_some (flight_at ops n)) in
    let one : times_in n left ≡ 1 = l ∙ ap (λ b. cond b 1 0) k in
    let bad : ⊥ = omega (arith, z, one) in bad)
  where
    or_true : (b : Bool) → (b || true) ≡ true
    or_true true = refl
    or_true false = refl

    none_if : (o : Option OpDone) → (is_some o ≡ true → ⊥) → o ≡ None
    none_if None f = refl
    none_if (Some x) f = absurd (f refl)

pub none_of : {A : Type 0} (xs : List A) → length xs ≡ 0 → xs ≡ []
none_of [] h = refl
none_of (x ∷ xs) h = absurd (omega arith)

cons_head : {A : Type 0} (x y : A) (xs ys : List A) → x ∷ xs ≡ y ∷ ys → (x ≡ y) × (xs ≡ ys)
cons_head x y xs ys e = (cc, cc)

-- one more job is polled
pub polled_next : (reply : Reply) (ops : Ops) (begun : ℕ) (slots : List Slot) (job : ℕ) (rest left behind : List ℕ) → rest ++ left ≡ job ∷ behind → (length rest ≡ 0 → ⊥) → AreOperated ops begun slots (rest ++ left) → NoneLeftResolved ops left → IfSome (done_at ops job) (λ _. (quiet : Bool) × (slice_get slots job ≡ Some (Open reply quiet)))
    → (ops' : Ops) (begun' : ℕ) (slots' : List Slot) (jobs' : List ℕ) → ops' ≡ taken_out job ops → slots' ≡ with_polled reply job (polled ops job) slots → begun' ≡ begun → jobs' ≡ behind ++ left_by (polled ops job) job
    → (rest' : List ℕ) × (left' : List ℕ) × (jobs' ≡ rest' ++ left') × (suc (length rest') ≡ length rest) × AreOperated ops' begun' slots' (rest' ++ left') × NoneLeftResolved ops' left' × (all_polled ops' slots' ≡ all_polled ops slots)
polled_next reply ops begun slots job [] left behind e some a h o ops' begun' slots' jobs' f g k l = absurd (some refl)
polled_next reply ops begun slots job (x ∷ rest) left behind e some a h o ops' begun' slots' jobs' f g k l =
    let p = cons_head x job (rest ++ left) behind e in
    let b : AreOperated ops begun slots (job ∷ (rest ++ left)) = subst (λ y. AreOperated ops begun slots (y ∷ (rest ++ left))) p.0 a in
    let q = one_poll reply ops begun slots job rest left b h o in
    let kept = left ++ left_by (polled ops job) job in (
      rest,
      kept,
      l ∙ ap (λ y. y ++ left_by (polled ops job) job) (sym p.1) ∙ append_assoc rest left (left_by (polled ops job) job),
      refl,
      subst (λ y. AreOperated y begun' slots' (rest ++ kept)) (sym f) (subst (λ y. AreOperated (taken_out job ops) y slots' (rest ++ kept)) (sym k) (subst (λ y. AreOperated (taken_out job ops) begun y (rest ++ kept)) (sym g) q.0)),
      subst (λ y. NoneLeftResolved y kept) (sym f) q.1,
      (λ i. all_polled (f i) (g i)) ∙ q.2,
    )
