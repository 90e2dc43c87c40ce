-- The slots of a run by the completions so far, and the same over a log.
use Rattle.std.proofs.Common.{◌≡◌, ℕ, ◌+◌, ◌<◌, ◌≤◌, zero, suc, Bool, true, false, ◌||◌, ◌&&◌, not, cond, nat_eq, nat_lt, ◌⊎◌, inl, inr, List, [], ◌∷◌, ◌++◌, length, map, drop, Option, Some, None, is_some, slice_get, slice_set, refl, ap, sym, subst, ◌∙◌, arith, append_assoc, append-nil}
use Rattle.std.specs.List.{list_any}
use Rattle.std.proofs.lemmas.Bool.Decides.{nat_tests}
use Rattle.uring_base.specs.declared.events.Completion.{Completion}
use Rattle.uring_base.specs.Completions.{is_final}
use Rattle.uring_model.specs.declared.jobs.Job.{Job}
use Rattle.uring_model.specs.Moves.{Move, Turned, Took, Posted, Quieted, took, posted, log_of}
use Rattle.uring_model.specs.Progress.{turns}
use Rattle.uring_model.specs.Strange.{Seen, has_other_number, has_wrong_loan, all_seen, answered_from, is_answered, is_strange, first_strange}
use Rattle.ring_traits.specs.Lists.{IsKept}
use Rattle.run_loop.specs.declared.slot.Reply.{Reply}
use Rattle.run_loop.specs.declared.slot.Slot.{Slot}
use Rattle.run_loop.specs.declared.slot.Slot.TheVariants.{Open, Done}
use Rattle.run_loop.specs.declared.entries.Offer.{Offer}
use Rattle.run_loop.specs.Entries.{reply_in, lends_in, quiets_in, offers_from}
use Rattle.run_loop.specs.Told.{Ending, first_final, idle_turns, reply_for, lends, outcome_from, unposted}
use Rattle.run_loop.specs.Slots.{final_of, own_slot, own_slots, slots_from, count_open, is_strange_at, is_unexpected, open_slots, first_is_done, closed_slot, all_closed, land_in, land_one, land_all, stranger_among, any_final}
use Rattle.run_loop.specs.Rounds.{goes_on}
use Rattle.run_loop.proofs.Closing.{closed_set, open_closed, closed-length, count_closed}
use Rattle.run_loop.proofs.SlotLemmas.{count_of_done, due_open}

-- the slots before the run are those of the jobs

unclosed : (reply : Reply) (quiet : Bool) → closed_slot (Open reply quiet) false ≡ Open reply quiet
unclosed reply true = refl
unclosed reply false = refl

first_of_open : (jobs : List Job) → first_is_done (open_slots jobs) ≡ false
first_of_open [] = refl
first_of_open (job ∷ jobs) = refl

pub none_closed : (jobs : List Job) → all_closed (open_slots jobs) ≡ open_slots jobs
none_closed [] = refl
none_closed (job ∷ jobs) =
    let rest = none_closed jobs in
    let next : first_is_done (all_closed (open_slots jobs)) ≡ false = ap first_is_done rest ∙ first_of_open jobs in
    (λ i. closed_slot (Open (reply_for job.kind) job.quiet) (next i) ∷ rest i) ∙ ap (λ s. s ∷ open_slots jobs) (unclosed (reply_for job.kind) job.quiet)

own_first : (n : ℕ) (jobs : List Job) → own_slots n (offers_from n jobs) [] ≡ open_slots jobs
own_first n [] = refl
own_first n (job ∷ []) = refl
own_first n (job ∷ next ∷ jobs) = ap (λ slots. Open (reply_for job.kind) job.quiet ∷ slots) (own_first (n + 1) (next ∷ jobs))

pub slots_first : (n : ℕ) (jobs : List Job) → slots_from n (offers_from n jobs) [] ≡ open_slots jobs
slots_first n jobs = ap all_closed (own_first n jobs) ∙ none_closed jobs

own-length : (n : ℕ) (offers : List Offer) (cs : List Completion) → length (own_slots n offers cs) ≡ length offers
own-length n [] cs = refl
own-length n (offer ∷ offers) cs = ap suc (own-length (n + 1) offers cs)

pub slots-length : (n : ℕ) (offers : List Offer) (cs : List Completion) → length (slots_from n offers cs) ≡ length offers
slots-length n offers cs = closed-length (own_slots n offers cs) ∙ own-length n offers cs

-- one more completion

pub passes : {A : Type 0} (b : Bool) (x : A) (o : Option A) → cond b (Some x) o ≡ None → (b ≡ false) × (o ≡ None)
passes true x o e = let bad : Some x ≡ None = e in cc
passes false x o e = (refl, e)

no_final : (b c : Bool) → b ≡ false → (b && c) ≡ false
no_final b c e = rw e refl

no_match : (b c : Bool) → c ≡ false → (b && c) ≡ false
no_match true c e = e
no_match false c e = refl

pub final_not : (j : ℕ) (cs : List Completion) (c : Completion) → (is_final c.flags && nat_eq c.user_data j) ≡ false → final_of j (cs ++ c ∷ []) ≡ final_of j cs
final_not j [] c e = rw e refl
final_not j (d ∷ cs) c e = ap (cond (is_final d.flags && nat_eq d.user_data j) (Some (record { result = d.result; loan = d.loan }))) (final_not j cs c e)

pub final_last : (j : ℕ) (cs : List Completion) (c : Completion) → final_of j cs ≡ None → (is_final c.flags && nat_eq c.user_data j) ≡ true → final_of j (cs ++ c ∷ []) ≡ Some (record { result = c.result; loan = c.loan })
final_last j [] c h e = rw e refl
final_last j (d ∷ cs) c h e =
    let p = passes (is_final d.flags && nat_eq d.user_data j) (record { result = d.result; loan = d.loan }) (final_of j cs) h in
    rw p.0 (final_last j cs c p.1 e)

own_same : (n : ℕ) (offers : List Offer) (cs : List Completion) (c : Completion) → ((j : ℕ) → n ≤ j → (is_final c.flags && nat_eq c.user_data j) ≡ false) → own_slots n offers (cs ++ c ∷ []) ≡ own_slots n offers cs
own_same n [] cs c f = refl
own_same n (offer ∷ offers) cs c f =
    let here = final_not n cs c (f n (omega arith)) in
    let rest = own_same (n + 1) offers cs c (λ j h. f j (omega arith)) in
    λ i. own_slot offer (here i) ∷ rest i

open_none : (offer : Offer) (r : Reply) (q : Bool) (o : Option Ending) → Some (own_slot offer o) ≡ Some (Open r q) → (o ≡ None) × (r ≡ offer.reply)
open_none offer r q None e = let same : Some (Open offer.reply offer.quiet) ≡ Some (Open r q) = e in (refl, cc)
open_none offer r q (Some x) e = cc

lands_at : (n k : ℕ) (offers : List Offer) (cs : List Completion) (c : Completion) (r : Reply) (q : Bool) → is_final c.flags ≡ true → c.user_data ≡ n + k → slice_get (own_slots n offers cs) k ≡ Some (Open r q)
    → slice_set (own_slots n offers cs) k (Done (outcome_from r (record { result = c.result; loan = c.loan }))) ≡ own_slots n offers (cs ++ c ∷ [])
lands_at n k [] cs c r q f e h = cc
lands_at n zero (offer ∷ offers) cs c r q f e h =
    let none = open_none offer r q (final_of n cs) h in
    let same : nat_eq c.user_data n ≡ true = grind (arith, nat_tests) in
    let both : (is_final c.flags && nat_eq c.user_data n) ≡ true = rw (f, same) refl in
    let here = final_last n cs c none.0 both in
    let rest = own_same (n + 1) offers cs c (λ j q. let other : nat_eq c.user_data j ≡ false = grind (arith, nat_tests) in no_match (is_final c.flags) (nat_eq c.user_data j) other) in
    ap (λ x. Done (outcome_from x (record { result = c.result; loan = c.loan })) ∷ own_slots (n + 1) offers cs) none.1 ∙ (λ i. own_slot offer (sym here i) ∷ sym rest i)
lands_at n (suc k) (offer ∷ offers) cs c r q f e h =
    let other : nat_eq c.user_data n ≡ false = grind (arith, nat_tests) in
    let here = final_not n cs c (no_match (is_final c.flags) (nat_eq c.user_data n) other) in
    let rest = lands_at (n + 1) k offers cs c r q f (omega arith) h in
    λ i. own_slot offer (sym here i) ∷ rest i

-- a completion that is no stranger lands where its job stands
lands_if : (b : Bool) (started : ℕ) (offers : List Offer) (cs : List Completion) (c : Completion) → is_final c.flags ≡ b → is_unexpected started (slots_from 0 offers cs) c ≡ false
    → cond b (all_closed (land_in (slice_get (slots_from 0 offers cs) c.user_data) (slots_from 0 offers cs) c.user_data (record { result = c.result; loan = c.loan }))) (slots_from 0 offers cs) ≡ slots_from 0 offers (cs ++ c ∷ [])
lands_if true started offers cs c f h =
    let o = due_open started (slots_from 0 offers cs) c h in
    let e : Ending = record { result = c.result; loan = c.loan } in
    ap (λ slot. all_closed (land_in slot (slots_from 0 offers cs) c.user_data (record { result = c.result; loan = c.loan }))) o.2
    ∙ closed_set (own_slots 0 offers cs) c.user_data (outcome_from o.0 (record { result = c.result; loan = c.loan }))
    ∙ ap all_closed (lands_at 0 c.user_data offers cs c o.0 o.1 f (omega arith) (open_closed (own_slots 0 offers cs) c.user_data o.0 o.1 o.2))
lands_if false started offers cs c f h = ap all_closed (sym (own_same 0 offers cs c (λ j q. no_final (is_final c.flags) (nat_eq c.user_data j) f)))

pub lands : (started : ℕ) (offers : List Offer) (cs : List Completion) (c : Completion) → is_unexpected started (slots_from 0 offers cs) c ≡ false → land_one (slots_from 0 offers cs) c ≡ slots_from 0 offers (cs ++ c ∷ [])
lands started offers cs c h = lands_if (is_final c.flags) started offers cs c refl h

-- the same over several
pub lands_all : (started : ℕ) (offers : List Offer) (cs ds : List Completion) → stranger_among started (slots_from 0 offers cs) ds ≡ None → land_all (slots_from 0 offers cs) ds ≡ slots_from 0 offers (cs ++ ds)
lands_all started offers cs [] h = ap (slots_from 0 offers) (sym (append-nil cs))
lands_all started offers cs (d ∷ ds) h =
    let p = passes (is_unexpected started (slots_from 0 offers cs) d) d.user_data (stranger_among started (land_one (slots_from 0 offers cs) d) ds) h in
    let one = lands started offers cs d p.0 in
    ap (λ x. land_all x ds) one
    ∙ lands_all started offers (cs ++ d ∷ []) ds (ap (λ x. stranger_among started x ds) (sym one) ∙ p.1)
    ∙ ap (slots_from 0 offers) (append_assoc cs (d ∷ []) ds)

-- the log's offers that ended are those with a final completion

abbrev Ended : List ℕ → List Completion → Type 0
Ended ended cs = (j : ℕ) → list_any (nat_eq j) ended ≡ is_some (final_of j cs)

abbrev pub Tells : Seen → List Completion → Type 0
Tells seen cs = Ended seen.ended cs

-- a job has its outcome exactly where it is answered, if the last one isn't quiet

abbrev pub last_is_quiet : List Bool → Bool
last_is_quiet [] = false
last_is_quiet (q ∷ []) = q
last_is_quiet (q ∷ next ∷ quiets) = last_is_quiet (next ∷ quiets)

done_if : (offer : Offer) (o : Option Ending) (next : Bool) (xs : List Slot) → first_is_done (closed_slot (own_slot offer o) next ∷ xs) ≡ (is_some o || (offer.quiet && next))
done_if offer (Some e) next xs = refl
done_if offer None next xs = by_both (offer.quiet && next) offer.reply offer.quiet xs
  where
    by_both : (b : Bool) (reply : Reply) (quiet : Bool) (xs : List Slot) → first_is_done (cond b (Done unposted) (Open reply quiet) ∷ xs) ≡ b
    by_both true reply quiet xs = refl
    by_both false reply quiet xs = refl

never : (o : Bool) (q : Bool) (x y : Bool) → q ≡ false → (o || (q && x)) ≡ (o || (q && y))
never o q x y e = rw e refl

first_done : (n : ℕ) (offer : Offer) (offers : List Offer) (cs : List Completion) (ended : List ℕ) → Ended ended cs → last_is_quiet (quiets_in (offer ∷ offers)) ≡ false → first_is_done (slots_from n (offer ∷ offers) cs) ≡ answered_from (quiets_in (offer ∷ offers)) n ended
first_done n offer [] cs ended t loud =
    done_if offer (final_of n cs) false []
    ∙ never (is_some (final_of n cs)) offer.quiet false (list_any (nat_eq (n + 1)) ended) loud
    ∙ ap (λ b. b || (offer.quiet && list_any (nat_eq (n + 1)) ended)) (sym (t n))
first_done n offer (next ∷ offers) cs ended t loud =
    done_if offer (final_of n cs) (first_is_done (slots_from (n + 1) (next ∷ offers) cs)) (slots_from (n + 1) (next ∷ offers) cs)
    ∙ (λ i. sym (t n) i || (offer.quiet && first_done (n + 1) next offers cs ended t loud i))

-- whether there is an outcome in a slot
abbrev pub is_done_at : Option Slot → Bool
is_done_at None = false
is_done_at (Some (Open reply quiet)) = false
is_done_at (Some (Done outcome)) = true

first_at : (slots : List Slot) → is_done_at (slice_get slots 0) ≡ first_is_done slots
first_at [] = refl
first_at (Open reply quiet ∷ slots) = refl
first_at (Done o ∷ slots) = refl

pub done_found : (n k : ℕ) (offers : List Offer) (cs : List Completion) (ended : List ℕ) → Ended ended cs → last_is_quiet (quiets_in offers) ≡ false → k < length offers → is_done_at (slice_get (slots_from n offers cs) k) ≡ answered_from (drop k (quiets_in offers)) (n + k) ended
done_found n k [] cs ended t loud h = absurd (omega arith)
done_found n zero (offer ∷ offers) cs ended t loud h =
    let e : n ≡ n + 0 = omega arith in
    first_at (slots_from n (offer ∷ offers) cs) ∙ first_done n offer offers cs ended t loud ∙ ap (λ m. answered_from (quiets_in (offer ∷ offers)) m ended) e
done_found n (suc k) (offer ∷ []) cs ended t loud h = absurd (omega arith)
done_found n (suc k) (offer ∷ next ∷ offers) cs ended t loud h =
    let e : n + 1 + k ≡ n + suc k = omega arith in
    done_found (n + 1) k (next ∷ offers) cs ended t loud (omega arith) ∙ ap (λ m. answered_from (drop k (quiets_in (next ∷ offers))) m ended) e

-- a slot without an outcome waits for its job's
open_strange : (slot : Slot) (next : Bool) (reply : Reply) (c : Completion) → (slot ≡ Open reply true) ⊎ ((slot ≡ Open reply false) ⊎ (is_done_at (Some slot) ≡ true))
    → is_strange_at (Some (closed_slot slot next)) c ≡ ((is_done_at (Some (closed_slot slot next)) || has_other_number c.user_data c.loan) || has_wrong_loan (lends reply) (is_final c.flags) c.loan)
open_strange (Done o) next reply c h = refl
open_strange (Open r false) next reply c h = elim h [
  | inl e ↦ absurd (cc)
  | inr e ↦ elim e [
    | inl e ↦ let same : r ≡ reply = cc in ap (λ x. has_other_number c.user_data c.loan || has_wrong_loan (lends x) (is_final c.flags) c.loan) same
    | inr e ↦ absurd (cc)
  ]
]
open_strange (Open r true) true reply c h = refl
open_strange (Open r true) false reply c h = elim h [
  | inl e ↦ let same : r ≡ reply = cc in ap (λ x. has_other_number c.user_data c.loan || has_wrong_loan (lends x) (is_final c.flags) c.loan) same
  | inr e ↦ elim e [
    | inl e ↦ absurd (cc)
    | inr e ↦ absurd (cc)
  ]
]

own_is : (offer : Offer) (o : Option Ending) → (own_slot offer o ≡ Open offer.reply true) ⊎ ((own_slot offer o ≡ Open offer.reply false) ⊎ (is_done_at (Some (own_slot offer o)) ≡ true))
own_is offer (Some e) = inr (inr refl)
own_is offer None = by_quiet offer.reply offer.quiet
  where
    by_quiet : (reply : Reply) (quiet : Bool) → (Open reply quiet ≡ Open reply true) ⊎ ((Open reply quiet ≡ Open reply false) ⊎ (is_done_at (Some (Open reply quiet)) ≡ true))
    by_quiet reply true = inl refl
    by_quiet reply false = inr (inl refl)

strange_found : (n k : ℕ) (offers : List Offer) (cs : List Completion) (c : Completion) → k < length offers → is_strange_at (slice_get (slots_from n offers cs) k) c ≡ ((is_done_at (slice_get (slots_from n offers cs) k) || has_other_number c.user_data c.loan) || has_wrong_loan (lends (reply_in offers k)) (is_final c.flags) c.loan)
strange_found n k [] cs c h = absurd (omega arith)
strange_found n zero (offer ∷ offers) cs c h = open_strange (own_slot offer (final_of n cs)) (first_is_done (slots_from (n + 1) offers cs)) offer.reply c (own_is offer (final_of n cs))
strange_found n (suc k) (offer ∷ offers) cs c h = strange_found (n + 1) k offers cs c (omega arith)

strange_if : (b : Bool) (offers : List Offer) (cs : List Completion) (c : Completion) (ended : List ℕ) → Ended ended cs → last_is_quiet (quiets_in offers) ≡ false → (b ≡ true → c.user_data < length offers)
    → (not b || is_strange_at (slice_get (slots_from 0 offers cs) c.user_data) c) ≡ (((not b || is_answered (quiets_in offers) ended c.user_data) || has_other_number c.user_data c.loan) || has_wrong_loan (lends_in offers c.user_data) (is_final c.flags) c.loan)
strange_if false offers cs c ended t loud inside = refl
strange_if true offers cs c ended t loud inside =
    let same : 0 + c.user_data ≡ c.user_data = omega arith in
    strange_found 0 c.user_data offers cs c (inside refl)
    ∙ ap (λ b. (b || has_other_number c.user_data c.loan) || has_wrong_loan (lends_in offers c.user_data) (is_final c.flags) c.loan)
    (done_found 0 c.user_data offers cs ended t loud (inside refl) ∙ ap (λ m. answered_from (drop c.user_data (quiets_in offers)) m ended) same)

below_yes : (m n : ℕ) → nat_lt m n ≡ true → m < n
below_yes m n e = grind (arith, nat_tests)

pub same_stranger : (offers : List Offer) (cs : List Completion) (c : Completion) (seen : Seen) → Tells seen cs → last_is_quiet (quiets_in offers) ≡ false → seen.started ≤ length offers
    → is_unexpected seen.started (slots_from 0 offers cs) c ≡ is_strange (lends_in offers) (quiets_in offers) seen c.user_data (is_final c.flags) c.loan
same_stranger offers cs c seen t loud h =
    strange_if (nat_lt c.user_data seen.started) offers cs c seen.ended t loud (λ b. let k = below_yes c.user_data seen.started b in omega arith)

ended_more : (b : Bool) (j u : ℕ) (ended : List ℕ) (o : Option Ending) (e : Ending) → list_any (nat_eq j) ended ≡ is_some o → list_any (nat_eq j) (cond b (u ∷ ended) ended) ≡ (is_some o || (b && nat_eq u j))
ended_more true j u ended o e h = ap (λ x. nat_eq j u || x) h ∙ flip (nat_eq j u) (nat_eq u j) (is_some o) (same j u)
  where
    same : (j u : ℕ) → nat_eq j u ≡ nat_eq u j
    same j u = elim (nat_eq u j) as (λ b. nat_eq u j ≡ b → nat_eq j u ≡ b) [ true ↦ λ p. grind (arith, nat_tests) | false ↦ λ p. grind (arith, nat_tests) ] refl

    flip : (a b c : Bool) → a ≡ b → (a || c) ≡ (c || b)
    flip true b true e = refl
    flip true b false e = e
    flip false b true e = refl
    flip false b false e = e
ended_more false j u ended o e h = h ∙ plain (is_some o)
  where
    plain : (a : Bool) → a ≡ (a || false)
    plain true = refl
    plain false = refl

some_more_final : (j : ℕ) (cs : List Completion) (c : Completion) → is_some (final_of j (cs ++ c ∷ [])) ≡ (is_some (final_of j cs) || (is_final c.flags && nat_eq c.user_data j))
some_more_final j [] c = elim (is_final c.flags && nat_eq c.user_data j) as (λ b. is_some (cond b (Some (record { result = c.result; loan = c.loan })) (final_of j [])) ≡ (false || b)) [ true ↦ refl | false ↦ refl ]
some_more_final j (d ∷ cs) c = split (is_final d.flags && nat_eq d.user_data j) (record { result = d.result; loan = d.loan }) (final_of j (cs ++ c ∷ [])) (final_of j cs) (is_final c.flags && nat_eq c.user_data j) (some_more_final j cs c)
  where
    split : (b : Bool) (x : Ending) (o p : Option Ending) (q : Bool) → is_some o ≡ (is_some p || q) → is_some (cond b (Some x) o) ≡ (is_some (cond b (Some x) p) || q)
    split true x o p q h = refl
    split false x o p q h = h

pub tells_more : (seen : Seen) (cs : List Completion) (c : Completion) → Tells seen cs → Tells (record seen { ended = cond (is_final c.flags) (c.user_data ∷ seen.ended) seen.ended }) (cs ++ c ∷ [])
tells_more seen cs c t = λ j. ended_more (is_final c.flags) j c.user_data seen.ended (final_of j cs) (record { result = c.result; loan = c.loan }) (t j) ∙ sym (some_more_final j cs c)

pub tells_after : (seen : Seen) (cs : List Completion) (ms : List Move) → Tells seen cs → Tells (all_seen seen (log_of ms)) (cs ++ posted ms)
tells_after seen cs [] t = subst (Tells seen) (sym (append-nil cs)) t
tells_after seen cs (Turned p ∷ ms) t = tells_after (record seen { started = seen.taken + p }) cs ms t
tells_after seen cs (Took u ∷ ms) t = tells_after (record seen { taken = seen.taken + 1 }) cs ms t
tells_after seen cs (Quieted n ∷ ms) t = tells_after seen cs ms t
tells_after seen cs (Posted c ∷ ms) t =
    subst (Tells (all_seen seen (log_of (Posted c ∷ ms)))) (append_assoc cs (c ∷ []) (posted ms))
    (tells_after (record seen { ended = cond (is_final c.flags) (c.user_data ∷ seen.ended) seen.ended }) (cs ++ c ∷ []) ms (tells_more seen cs c t))

pub taken_after : (seen : Seen) (ms : List Move) → (all_seen seen (log_of ms)).taken ≡ seen.taken + length (took ms)
taken_after seen [] = omega arith
taken_after seen (Turned p ∷ ms) = taken_after (record seen { started = seen.taken + p }) ms
taken_after seen (Took t ∷ ms) = taken_after (record seen { taken = seen.taken + 1 }) ms ∙ omega arith
taken_after seen (Posted c ∷ ms) = taken_after (record seen { ended = cond (is_final c.flags) (c.user_data ∷ seen.ended) seen.ended }) ms
taken_after seen (Quieted n ∷ ms) = taken_after seen ms

-- strangers of joined moves

fine_then : (b : Bool) (u : ℕ) (o p q : Option ℕ) → cond b (Some u) o ≡ None → (o ≡ None → p ≡ q) → cond b (Some u) p ≡ q
fine_then true u o p q e f = let bad : Some u ≡ None = e in cc
fine_then false u o p q e f = f e

pub strange-append : (lends : ℕ → Bool) (quiets : List Bool) (seen : Seen) (ms ns : List Move) → first_strange lends quiets seen (log_of ms) ≡ None → first_strange lends quiets seen (log_of (ms ++ ns)) ≡ first_strange lends quiets (all_seen seen (log_of ms)) (log_of ns)
strange-append lends quiets seen [] ns h = refl
strange-append lends quiets seen (Turned p ∷ ms) ns h = strange-append lends quiets (record seen { started = seen.taken + p }) ms ns h
strange-append lends quiets seen (Took t ∷ ms) ns h = strange-append lends quiets (record seen { taken = seen.taken + 1 }) ms ns h
strange-append lends quiets seen (Posted c ∷ ms) ns h =
    fine_then (is_strange lends quiets seen c.user_data (is_final c.flags) c.loan) c.user_data _ _ _ h
    (λ e. strange-append lends quiets (record seen { ended = cond (is_final c.flags) (c.user_data ∷ seen.ended) seen.ended }) ms ns e)
strange-append lends quiets seen (Quieted n ∷ ms) ns h = strange-append lends quiets seen ms ns h

either_way : (b : Bool) (u : ℕ) (o p : Option ℕ) → (b ≡ false → o ≡ p) → cond b (Some u) o ≡ cond b (Some u) p
either_way true u o p f = refl
either_way false u o p f = f refl

-- within one turn the log's strangers are the table's
pub same_strangers : (offers : List Offer) (cs : List Completion) (seen : Seen) (rest : List Move) → turns rest ≡ 0 → Tells seen cs → last_is_quiet (quiets_in offers) ≡ false → seen.started ≤ length offers
    → first_strange (lends_in offers) (quiets_in offers) seen (log_of rest) ≡ stranger_among seen.started (slots_from 0 offers cs) (posted rest)
same_strangers offers cs seen [] z t loud h = refl
same_strangers offers cs seen (Turned p ∷ ms) z t loud h = absurd (omega arith)
same_strangers offers cs seen (Took u ∷ ms) z t loud h = same_strangers offers cs (record seen { taken = seen.taken + 1 }) ms z t loud h
same_strangers offers cs seen (Quieted n ∷ ms) z t loud h = same_strangers offers cs seen ms z t loud h
same_strangers offers cs seen (Posted c ∷ ms) z t loud h =
    let later = record seen { ended = cond (is_final c.flags) (c.user_data ∷ seen.ended) seen.ended } in
    let b = is_unexpected seen.started (slots_from 0 offers cs) c in
    ap (λ x. cond x (Some c.user_data) (first_strange (lends_in offers) (quiets_in offers) later (log_of ms))) (sym (same_stranger offers cs c seen t loud h))
    ∙ either_way b c.user_data _ _ (λ e.
    same_strangers offers (cs ++ c ∷ []) later ms z (tells_more seen cs c t) loud h
    ∙ ap (λ x. stranger_among seen.started x (posted ms)) (sym (lands seen.started offers cs c e)))

-- idled turns

pub idle_turns-append : (q : ℕ) (ms ns : List Move) → idle_turns q (log_of (ms ++ ns)) ≡ idle_turns (idle_turns q (log_of ms)) (log_of ns)
idle_turns-append q [] ns = refl
idle_turns-append q (Turned p ∷ ms) ns = idle_turns-append (suc q) ms ns
idle_turns-append q (Took t ∷ ms) ns = idle_turns-append 0 ms ns
idle_turns-append q (Posted c ∷ ms) ns = idle_turns-append (cond (is_final c.flags) 0 q) ms ns
idle_turns-append q (Quieted n ∷ ms) ns = idle_turns-append q ms ns

none_idle : (b : Bool) → ◌≡◌ {A = ℕ} (cond b 0 0) 0
none_idle true = refl
none_idle false = refl

took_some : (n : ℕ) (b : Bool) → (nat_lt 0 (suc n) || b) ≡ true
took_some n b = let some : nat_lt 0 (suc n) ≡ true = grind (arith, nat_tests) in rw some refl

pub idle_rest : (q : ℕ) (rest : List Move) → turns rest ≡ 0 → idle_turns q (log_of rest) ≡ cond (goes_on (took rest) (posted rest)) 0 q
idle_rest q [] z = refl
idle_rest q (Turned p ∷ ms) z = absurd (omega arith)
idle_rest q (Took t ∷ ms) z = idle_rest 0 ms z ∙ none_idle (goes_on (took ms) (posted ms)) ∙ ap (λ b. cond b 0 q) (sym (took_some (length (took ms)) (any_final (posted ms))))
idle_rest q (Quieted n ∷ ms) z = idle_rest q ms z
idle_rest q (Posted c ∷ ms) z = idle_rest (cond (is_final c.flags) 0 q) ms z ∙ joined (nat_lt 0 (length (took ms))) (is_final c.flags) (any_final (posted ms)) q
  where
    joined : (t a b : Bool) (q : ℕ) → cond (t || b) 0 (cond a 0 q) ≡ cond (t || (a || b)) 0 q
    joined true a b q = refl
    joined false true true q = refl
    joined false true false q = refl
    joined false false b q = refl

-- first final posts, by the completions

pub same_final : (j : ℕ) (ms : List Move) → first_final j (log_of ms) ≡ final_of j (posted ms)
same_final j [] = refl
same_final j (Turned p ∷ ms) = same_final j ms
same_final j (Took t ∷ ms) = same_final j ms
same_final j (Quieted n ∷ ms) = same_final j ms
same_final j (Posted c ∷ ms) = ap (cond (is_final c.flags && nat_eq c.user_data j) (Some (record { result = c.result; loan = c.loan }))) (same_final j ms)

-- counts of open slots

landed_count : (b : Bool) (started : ℕ) (slots : List Slot) (c : Completion) → is_unexpected started slots c ≡ false → (e : Ending) → count_open (cond b (all_closed (land_in (slice_get slots c.user_data) slots c.user_data e)) slots) + cond b 1 0 ≤ count_open slots
landed_count true started slots c h e =
    let p = due_open started slots c h in
    let landed : count_open (land_in (slice_get slots c.user_data) slots c.user_data e) ≡ count_open (slice_set slots c.user_data (Done (outcome_from p.0 e))) = ap (λ slot. count_open (land_in slot slots c.user_data e)) p.2 in
    let fewer = count_closed (land_in (slice_get slots c.user_data) slots c.user_data e) in
    omega (arith, landed, fewer, count_of_done slots c.user_data p.0 p.1 (outcome_from p.0 e) p.2)
landed_count false started slots c h e = omega arith

pub one_landed : (started : ℕ) (slots : List Slot) (c : Completion) → is_unexpected started slots c ≡ false → count_open (land_one slots c) + cond (is_final c.flags) 1 0 ≤ count_open slots
one_landed started slots c h = landed_count (is_final c.flags) started slots c h (record { result = c.result; loan = c.loan })

pub none_landed : (slots : List Slot) (cs : List Completion) → any_final cs ≡ false → land_all slots cs ≡ slots
none_landed slots [] h = refl
none_landed slots (c ∷ cs) h =
    let p = or_parts (is_final c.flags) (any_final cs) h in
    ap (λ b. land_all (cond b (all_closed (land_in (slice_get slots c.user_data) slots c.user_data (record { result = c.result; loan = c.loan }))) slots) cs) p.0
    ∙ none_landed slots cs p.1
  where
    or_parts : (a b : Bool) → (a || b) ≡ false → (a ≡ false) × (b ≡ false)
    or_parts true b e = cc
    or_parts false b e = (refl, e)

counted : (a b : Bool) (x y z : ℕ) → y + cond a 1 0 ≤ z → x + cond b 1 0 ≤ y → x + cond (a || b) 1 0 ≤ z
counted true b x y z e h = omega (arith, e, at_most b x y h)
  where
    at_most : (b : Bool) (x y : ℕ) → x + cond b 1 0 ≤ y → x ≤ y
    at_most true x y h = omega (arith, h)
    at_most false x y h = omega (arith, h)
counted false true x y z e h = omega (arith, e, h)
counted false false x y z e h = omega (arith, e, h)

pub all_landed : (started : ℕ) (slots : List Slot) (cs : List Completion) → stranger_among started slots cs ≡ None → count_open (land_all slots cs) + cond (any_final cs) 1 0 ≤ count_open slots
all_landed started slots [] h = omega arith
all_landed started slots (c ∷ cs) h =
    let p = passes (is_unexpected started slots c) c.user_data (stranger_among started (land_one slots c) cs) h in
    counted (is_final c.flags) (any_final cs) (count_open (land_all (land_one slots c) cs)) (count_open (land_one slots c)) (count_open slots) (one_landed started slots c p.0) (all_landed started (land_one slots c) cs p.1)

own_few : (n : ℕ) (offers : List Offer) (cs : List Completion) → count_open (own_slots n offers cs) ≤ length offers
own_few n [] cs = omega arith
own_few n (offer ∷ offers) cs = elim (final_of n cs) as (λ o. count_open (own_slot offer o ∷ own_slots (n + 1) offers cs) ≤ suc (length offers)) [
  | None ↦ let h = own_few (n + 1) offers cs in omega arith
  | Some x ↦ let h = own_few (n + 1) offers cs in omega arith
]

pub open_few : (n : ℕ) (offers : List Offer) (cs : List Completion) → count_open (slots_from n offers cs) ≤ length offers
open_few n offers cs = let h = count_closed (own_slots n offers cs) in let k = own_few n offers cs in omega (arith, h, k)

-- a slot without an outcome, where there is one
open_place : (slots : List Slot) → 0 < count_open slots → (k : ℕ) × (k < length slots) × (is_done_at (slice_get slots k) ≡ false)
open_place [] h = absurd (omega arith)
open_place (Open reply quiet ∷ slots) h = (0, omega arith, refl)
open_place (Done o ∷ slots) h = let p = open_place slots h in (suc p.0, omega (arith, p.1), p.2)

-- is of a job that isn't answered
pub open_job : (offers : List Offer) (cs : List Completion) (ended : List ℕ) → Ended ended cs → last_is_quiet (quiets_in offers) ≡ false → 0 < count_open (slots_from 0 offers cs) → (k : ℕ) × (k < length offers) × (is_answered (quiets_in offers) ended k ≡ false)
open_job offers cs ended t loud h =
    let p = open_place (slots_from 0 offers cs) h in
    let inside : p.0 < length offers = omega (arith, p.1, slots-length 0 offers cs) in
    let e : p.0 ≡ 0 + p.0 = omega arith in
    (p.0, inside, ap (λ m. answered_from (drop p.0 (quiets_in offers)) m ended) e ∙ sym (done_found 0 p.0 offers cs ended t loud inside) ∙ p.2)

done_place : (slots : List Slot) (k : ℕ) → count_open slots ≡ 0 → k < length slots → is_done_at (slice_get slots k) ≡ true
done_place [] k z h = absurd (omega arith)
done_place (Open reply quiet ∷ slots) k z h = absurd (omega arith)
done_place (Done o ∷ slots) zero z h = refl
done_place (Done o ∷ slots) (suc k) z h = done_place slots k z (omega arith)

-- where no slot is without an outcome each job is answered
pub done_jobs : (offers : List Offer) (cs : List Completion) (ended : List ℕ) → Ended ended cs → last_is_quiet (quiets_in offers) ≡ false → count_open (slots_from 0 offers cs) ≡ 0 → (k : ℕ) → k < length offers → is_answered (quiets_in offers) ended k ≡ true
done_jobs offers cs ended t loud z k h =
    let e : k ≡ 0 + k = omega arith in
    ap (λ m. answered_from (drop k (quiets_in offers)) m ended) e ∙ sym (done_found 0 k offers cs ended t loud h)
    ∙ done_place (slots_from 0 offers cs) k z (omega (arith, h, slots-length 0 offers cs))

-- a ring that drops the further numbers changes none of this

big_apart : (slot : Option Slot) (c : Completion) (big : List ℕ) (large : Bool) → is_strange_at slot (record c { big = big; large = large }) ≡ is_strange_at slot c
big_apart None c big large = refl
big_apart (Some (Done o)) c big large = refl
big_apart (Some (Open reply quiet)) c big large = refl

kept_stranger : (kept : Completion → Completion) → ((c : Completion) → IsKept c (kept c)) → (started : ℕ) (slots : List Slot) (c : Completion) → is_unexpected started slots (kept c) ≡ is_unexpected started slots c
kept_stranger kept k started slots c =
    ap (is_unexpected started slots) (k c)
    ∙ ap (λ b. not (nat_lt c.user_data started) || b) (big_apart (slice_get slots c.user_data) c (kept c).big (kept c).large)

pub stranger_kept : (kept : Completion → Completion) → ((c : Completion) → IsKept c (kept c)) → (started : ℕ) (slots : List Slot) (cs : List Completion) → stranger_among started slots (map kept cs) ≡ stranger_among started slots cs
stranger_kept kept k started slots [] = refl
stranger_kept kept k started slots (c ∷ cs) =
    (λ i. cond (kept_stranger kept k started slots c i) (Some (k c i).user_data) (stranger_among started (land_one slots (k c i)) (map kept cs)))
    ∙ ap (cond (is_unexpected started slots c) (Some c.user_data)) (stranger_kept kept k started (land_one slots c) cs)

pub land_kept : (kept : Completion → Completion) → ((c : Completion) → IsKept c (kept c)) → (slots : List Slot) (cs : List Completion) → land_all slots (map kept cs) ≡ land_all slots cs
land_kept kept k slots [] = refl
land_kept kept k slots (c ∷ cs) = ap (λ x. land_all (land_one slots x) (map kept cs)) (k c) ∙ land_kept kept k (land_one slots c) cs

pub any_kept : (kept : Completion → Completion) → ((c : Completion) → IsKept c (kept c)) → (cs : List Completion) → any_final (map kept cs) ≡ any_final cs
any_kept kept k [] = refl
any_kept kept k (c ∷ cs) = λ i. is_final (k c i).flags || any_kept kept k cs i

final_kept : (kept : Completion → Completion) → ((c : Completion) → IsKept c (kept c)) → (j : ℕ) (cs : List Completion) → final_of j (map kept cs) ≡ final_of j cs
final_kept kept k j [] = refl
final_kept kept k j (c ∷ cs) = λ i. cond (is_final (k c i).flags && nat_eq (k c i).user_data j) (Some (record { result = (k c i).result; loan = (k c i).loan })) (final_kept kept k j cs i)

own_kept : (kept : Completion → Completion) → ((c : Completion) → IsKept c (kept c)) → (n : ℕ) (offers : List Offer) (cs : List Completion) → own_slots n offers (map kept cs) ≡ own_slots n offers cs
own_kept kept k n [] cs = refl
own_kept kept k n (offer ∷ offers) cs = λ i. own_slot offer (final_kept kept k n cs i) ∷ own_kept kept k (n + 1) offers cs i

pub slots_kept : (kept : Completion → Completion) → ((c : Completion) → IsKept c (kept c)) → (n : ℕ) (offers : List Offer) (cs : List Completion) → slots_from n offers (map kept cs) ≡ slots_from n offers cs
slots_kept kept k n offers cs = ap all_closed (own_kept kept k n offers cs)
