-- A partner whose files are told posts only what was started, once, with its own loan.
use Rattle.std.specs.Prelude.{◌≡◌, ℕ, ◌+◌, ◌-◌, ◌<◌, ◌≤◌, zero, suc, Bool, true, false, ◌&&◌, ◌||◌, not, cond, nat_eq, nat_lt, is_some, List, [], ◌∷◌, ◌++◌, length, map, drop, ℤ, ◌/◌, ◌%◌, Option, Some, None, slice_get, refl, All}
use Rattle.std.specs.List.{AllByRecursion, list_any}
use Rattle.std.proofs.lemmas.List.Elements.{All-from_recursion, recursion_from_All}
use Rattle.std.proofs.lemmas.List.{map-append}
use Rattle.std.proofs.lemmas.Bool.Decides.{nat_tests}
use Rattle.std.proofs.Common.{ap, sym, subst, ◌∙◌, arith}
use Rattle.uring_base.specs.declared.events.LogEvent.{LogEvent}
use Rattle.uring_base.specs.declared.events.Taken.{Taken}
use Rattle.uring_base.specs.declared.events.Completion.{Completion}
use Rattle.uring_base.specs.declared.buffer.Loan.{Loan}
use Rattle.uring_model.specs.declared.pending.Pending.{Pending}
use Rattle.uring_base.specs.Loans.{with_part}
use Rattle.uring_base.specs.Completions.{is_final}
use Rattle.uring_model.specs.Machine.{Files, FileAnswer}
use Rattle.uring_model.specs.Jobs.{Job, linked, quiets_are_linked, quiets_of}
use Rattle.uring_model.specs.Replay.{last_unlinked}
use Rattle.uring_model.specs.Chosen.{choice, stops}
use Rattle.uring_model.specs.Moves.{Move, Turned, Took, Posted, Quieted, took, posted, quieted, log_of}
use Rattle.uring_model.specs.Partner.{job_of, PartnerState, cut_of, Cursor, completion_of, held, mark_first, mark_first_if, pass, answer_to, is_quiet_end, cursors, after_take, cut_after, after_settle, Steps, idle}
use Rattle.uring_model.specs.Explained.{Numbered}
use Rattle.uring_model.specs.Strange.{Seen, nothing_seen, all_seen, has_other_number, has_wrong_loan, answered_from, is_answered, is_strange, first_strange}
use Rattle.uring_model.specs.Honest.{TakesWithinTurns, HasOwnLoan}
use Rattle.uring_model.proofs.Lines.{numbered_split}
use Rattle.std.proofs.lemmas.Option.{same_Some}
use Rattle.uring_model.proofs.Progress.{split_of, cursor_ready}
use Rattle.uring_base.specs.declared.events.LogEvent.TheVariants as logs

-- lists of entries of which something holds

abbrev Each : (Taken → Type 0) → List Taken → Type 0
Each P ts = AllByRecursion P ts

each-append : (P : Taken → Type 0) (xs ys : List Taken) → Each P xs → Each P ys → Each P (xs ++ ys)
each-append P [] ys h k = k
each-append P (x ∷ xs) ys h k = (h.0, each-append P xs ys h.1 k)

each_split : (P : Taken → Type 0) (xs ys : List Taken) → Each P (xs ++ ys) → Each P xs × Each P ys
each_split P [] ys h = (tt, h)
each_split P (x ∷ xs) ys h = let p = each_split P xs ys h.1 in ((h.0, p.0), p.1)

each_map : (P Q : Taken → Type 0) → ((t : Taken) → P t → Q t) → (ts : List Taken) → Each P ts → Each Q ts
each_map P Q f [] h = tt
each_map P Q f (t ∷ ts) h = (f t h.0, each_map P Q f ts h.1)

-- the entries of what is pending

abbrev entries_of : List Pending → List Taken
entries_of is = map (λ i. i.taken) is

pass_entries : (b s : Bool) (is : List Pending) → entries_of (pass b s is) ≡ entries_of is
pass_entries false s is = refl
pass_entries true s [] = refl
pass_entries true s (i ∷ is) = refl

chosen_entries : (b : Bool) (xs ys : List Pending) (ts : List Taken) → entries_of xs ≡ ts → entries_of ys ≡ ts → entries_of (cond b xs ys) ≡ ts
chosen_entries true xs ys ts p q = p
chosen_entries false xs ys ts p q = q

first_entries : (t : ℕ) (is : List Pending) → entries_of (mark_first t is) ≡ entries_of is
first_entries t [] = refl
first_entries t (i ∷ is) = chosen_entries (nat_eq i.taken.entry.user_data t && not i.marked) _ _ (i.taken ∷ entries_of is) refl (ap (λ l. i.taken ∷ l) (first_entries t is))

mark_entries : (o : Option ℕ) (is : List Pending) → entries_of (mark_first_if o is) ≡ entries_of is
mark_entries None is = refl
mark_entries (Some t) is = first_entries t is

pub left_entries : (a : PartnerState) (c : Cursor) (y : FileAnswer) → entries_of (after_settle a c y).pending ≡ entries_of c.front ++ entries_of c.back
left_entries a c y =
    let cut = cut_after c y in
    mark_entries y.marks (c.front ++ pass (linked (job_of c.item.taken).link) cut c.back)
    ∙ map-append (λ i. i.taken) c.front (pass (linked (job_of c.item.taken).link) cut c.back)
    ∙ ap (λ l. entries_of c.front ++ l) (pass_entries (linked (job_of c.item.taken).link) cut c.back)

pub cursor_entries : (a : PartnerState) (c : Cursor) (k : ℕ) → slice_get (cursors a) k ≡ Some c → entries_of a.pending ≡ entries_of c.front ++ c.item.taken ∷ entries_of c.back
cursor_entries a c k e = ap entries_of (sym (split_of [] a.pending k c e)) ∙ map-append (λ i. i.taken) c.front (c.item ∷ c.back)

-- what holds of the entries of one settling: it holds of the one that settles, and of those that are left
settled_each : (P : Taken → Type 0) (a : PartnerState) (k : Cursor) (y : FileAnswer) (n : ℕ) → slice_get (cursors a) n ≡ Some k → Each P (entries_of a.pending) → P k.item.taken × Each P (entries_of (after_settle a k y).pending)
settled_each P a k y n chosen pend =
    let parts = each_split P (entries_of k.front) (k.item.taken ∷ entries_of k.back) (subst (Each P) (cursor_entries a k n chosen) pend) in
    (parts.1.0, subst (Each P) (sym (left_entries a k y)) (each-append P (entries_of k.front) (entries_of k.back) parts.0 parts.1.1))

taken_each : (P : Taken → Type 0) (a : PartnerState) (t : Taken) → P t → Each P (entries_of a.pending) → Each P (entries_of (after_take a t).pending)
taken_each P a t p pend = subst (Each P) (sym (map-append (λ i. i.taken) a.pending (record { taken = t; cut = cut_of a.tail; marked = false } ∷ []))) (each-append P (entries_of a.pending) (t ∷ []) pend (p, tt))

-- Where each linked entry of what is pending stands in front of the next number: the first of those behind it, or the one
-- that is taken next.

abbrev Chained : List Taken → ℕ → Type 0
Chained [] n = Unit {0}
Chained (t ∷ []) n = linked (job_of t).link ≡ true → t.entry.user_data + 1 ≡ n
Chained (t ∷ u ∷ ts) n = (linked (job_of t).link ≡ true → u.entry.user_data ≡ t.entry.user_data + 1) × Chained (u ∷ ts) n

chain_tail : (t : Taken) (ts : List Taken) (n : ℕ) → Chained (t ∷ ts) n → Chained ts n
chain_tail t [] n h = tt
chain_tail t (u ∷ ts) n h = h.1

chain_back : (xs : List Taken) (t : Taken) (ys : List Taken) (n : ℕ) → Chained (xs ++ t ∷ ys) n → Chained (t ∷ ys) n
chain_back [] t ys n h = h
chain_back (x ∷ xs) t ys n h = chain_back xs t ys n (chain_tail x (xs ++ t ∷ ys) n h)

chain_take : (ts : List Taken) (n : ℕ) (t : Taken) → t.entry.user_data ≡ n → Chained ts n → Chained (ts ++ t ∷ []) (n + 1)
chain_take [] n t e h = λ l. omega (arith, e)
chain_take (x ∷ []) n t e h = ((λ l. omega (arith, e, h l)), (λ l. omega (arith, e)))
chain_take (x ∷ y ∷ ts) n t e h = (h.0, chain_take (y ∷ ts) n t e h.1)

-- whether the last of these is linked
abbrev pub last_linked : Bool → List Taken → Bool
last_linked w [] = w
last_linked w (t ∷ ts) = last_linked (linked (job_of t).link) ts

pub held_last : (w : Bool) (is : List Pending) → held w is ≡ last_linked w (entries_of is)
held_last w [] = refl
held_last w (i ∷ is) = held_last (linked (job_of i.taken).link) is

unlinked_chain : (f : Taken) (ts : List Taken) (n : ℕ) → linked (job_of f).link ≡ false → Chained ts n → Chained (f ∷ ts) n
unlinked_chain f [] n e h = λ l. absurd (let bad : true ≡ false = sym l ∙ e in cc)
unlinked_chain f (u ∷ ts) n e h = ((λ l. absurd (let bad : true ≡ false = sym l ∙ e in cc)), h)

-- an entry that waits for none is gone
chain_drop : (w : Bool) (xs : List Taken) (t : Taken) (ys : List Taken) (n : ℕ) → last_linked w xs ≡ false → Chained (xs ++ t ∷ ys) n → Chained (xs ++ ys) n
chain_drop w [] t ys n e h = chain_tail t ys n h
chain_drop w (f ∷ []) t ys n e h = unlinked_chain f ys n e (chain_tail t ys n h.1)
chain_drop w (f ∷ g ∷ xs) t ys n e h = (h.0, chain_drop (linked (job_of f).link) (g ∷ xs) t ys n e h.1)

-- numbers that rise from k on, below n

abbrev Rising : ℕ → List Taken → ℕ → Type 0
Rising k [] n = k ≤ n
Rising k (t ∷ ts) n = (k ≤ t.entry.user_data) × Rising (t.entry.user_data + 1) ts n

rising_take : (k : ℕ) (ts : List Taken) (n : ℕ) (t : Taken) → t.entry.user_data ≡ n → Rising k ts n → Rising k (ts ++ t ∷ []) (n + 1)
rising_take k [] n t e h = (omega (arith, e, h), omega (arith, e))
rising_take k (x ∷ ts) n t e h = (h.0, rising_take (x.entry.user_data + 1) ts n t e h.1)

rising_from : (j k : ℕ) (ts : List Taken) (n : ℕ) → j ≤ k → Rising k ts n → Rising j ts n
rising_from j k [] n le h = omega (arith, le, h)
rising_from j k (t ∷ ts) n le h = (omega (arith, le, h.0), h.1)

rising_drop : (k : ℕ) (xs : List Taken) (t : Taken) (ys : List Taken) (n : ℕ) → Rising k (xs ++ t ∷ ys) n → Rising k (xs ++ ys) n
rising_drop k [] t ys n h = rising_from k (t.entry.user_data + 1) ys n (omega (arith, h.0)) h.1
rising_drop k (x ∷ xs) t ys n h = (h.0, rising_drop (x.entry.user_data + 1) xs t ys n h.1)

rising_at : (k : ℕ) (xs : List Taken) (t : Taken) (ys : List Taken) (n : ℕ) → Rising k (xs ++ t ∷ ys) n → k ≤ t.entry.user_data
rising_at k [] t ys n h = h.0
rising_at k (x ∷ xs) t ys n h = omega (arith, h.0, rising_at (x.entry.user_data + 1) xs t ys n h.1)

abbrev IsApart : ℕ → Taken → Type 0
IsApart j t = nat_eq t.entry.user_data j ≡ false

apart_above : (j k : ℕ) (ts : List Taken) (n : ℕ) → j < k → Rising k ts n → Each (IsApart j) ts
apart_above j k [] n lt h = tt
apart_above j k (t ∷ ts) n lt h = (let more : j < t.entry.user_data = omega (arith, lt, h.0) in grind (arith, nat_tests), apart_above j (t.entry.user_data + 1) ts n (omega (arith, lt, h.0)) h.1)

apart_others : (k : ℕ) (xs : List Taken) (t : Taken) (ys : List Taken) (n : ℕ) → Rising k (xs ++ t ∷ ys) n → Each (IsApart t.entry.user_data) xs × Each (IsApart t.entry.user_data) ys
apart_others k [] t ys n h = (tt, apart_above t.entry.user_data (t.entry.user_data + 1) ys n (omega arith) h.1)
apart_others k (x ∷ xs) t ys n h =
    let rest = apart_others (x.entry.user_data + 1) xs t ys n h.1 in
    let lt = rising_at (x.entry.user_data + 1) xs t ys n h.1 in
    ((grind (arith, nat_tests), rest.0), rest.1)

-- A job that is pending isn't answered: it hasn't ended, and where it is quiet, what hangs on it hasn't either.

-- what the jobs say of an entry
pub record Known (quiets : List Bool) (t : Taken) : Type 0 where
  pub marked : slice_get quiets t.entry.user_data ≡ Some (job_of t).quiet
  pub link : (job_of t).quiet ≡ true → linked (job_of t).link ≡ true

abbrev HasNotEnded : List ℕ → Taken → Type 0
HasNotEnded ended t = list_any (nat_eq t.entry.user_data) ended ≡ false

abbrev NoneFrom : ℕ → List ℕ → Type 0
NoneFrom n ended = (k : ℕ) → n ≤ k → list_any (nat_eq k) ended ≡ false

unanswered_if : (q : Bool) (n : ℕ) (quiets : List Bool) (ended : List ℕ) → list_any (nat_eq n) ended ≡ false → (q ≡ true → answered_from quiets (n + 1) ended ≡ false) → answered_from (q ∷ quiets) n ended ≡ false
unanswered_if true n quiets ended e f = rw (e, f refl) refl
unanswered_if false n quiets ended e f = rw e refl

pub unanswered_from : (quiets : List Bool) (n : ℕ) (ended : List ℕ) → NoneFrom n ended → answered_from quiets n ended ≡ false
unanswered_from [] n ended none = none n (omega arith)
unanswered_from (q ∷ quiets) n ended none = unanswered_if q n quiets ended (none n (omega arith)) (λ _. unanswered_from quiets (n + 1) ended (λ k le. none k (omega (arith, le))))

drop_at : {A : Type 0} (xs : List A) (k : ℕ) (x : A) → slice_get xs k ≡ Some x → drop k xs ≡ x ∷ drop (k + 1) xs
drop_at [] k x e = absurd (cc)
drop_at (y ∷ xs) zero x e = ap (λ z. z ∷ xs) (same_Some y x e)
drop_at (y ∷ xs) (suc k) x e = let one : suc (k + 1) ≡ suc k + 1 = omega arith in drop_at xs k x e ∙ ap (λ n. x ∷ drop n (y ∷ xs)) one

pub unanswered : (quiets : List Bool) (ended : List ℕ) (t : Taken) (ts : List Taken) (n : ℕ) → Chained (t ∷ ts) n → Each (Known quiets) (t ∷ ts) → Each (HasNotEnded ended) (t ∷ ts) → NoneFrom n ended → is_answered quiets ended t.entry.user_data ≡ false
unanswered quiets ended t [] n chain known left none =
    ap (λ qs. answered_from qs t.entry.user_data ended) (drop_at quiets t.entry.user_data (job_of t).quiet known.0.marked)
    ∙ unanswered_if (job_of t).quiet t.entry.user_data (drop (t.entry.user_data + 1) quiets) ended left.0 (λ q. unanswered_from (drop (t.entry.user_data + 1) quiets) (t.entry.user_data + 1) ended (λ k le. none k (omega (arith, le, chain (known.0.link q)))))
unanswered quiets ended t (u ∷ ts) n chain known left none =
    ap (λ qs. answered_from qs t.entry.user_data ended) (drop_at quiets t.entry.user_data (job_of t).quiet known.0.marked)
    ∙ unanswered_if (job_of t).quiet t.entry.user_data (drop (t.entry.user_data + 1) quiets) ended left.0
    (λ q. ap (λ k. answered_from (drop k quiets) k ended) (sym (chain.0 (known.0.link q))) ∙ unanswered quiets ended u ts n chain.1 known.1 left.1 none)

-- a post is not strange

with_number : (j : ℕ) (l : Option Loan) (bytes : List ℕ) → has_other_number j l ≡ false → has_other_number j (with_part l bytes) ≡ false
with_number j None bytes h = refl
with_number j (Some l) bytes h = h

right_loan : (b : Bool) (l : Option Loan) (bytes : List ℕ) → b ≡ is_some l → has_wrong_loan b true (with_part l bytes) ≡ false
right_loan b None bytes e = ap (λ x. has_wrong_loan x true None) e
right_loan b (Some l) bytes e = ap (λ x. has_wrong_loan x true (with_part (Some l) bytes)) e

post_fine : (lends : ℕ → Bool) (quiets : List Bool) (seen : Seen) (t : Taken) (y : FileAnswer) → HasOwnLoan lends t → t.entry.user_data < seen.started → is_answered quiets seen.ended t.entry.user_data ≡ false
    → is_strange lends quiets seen t.entry.user_data true (with_part t.loan y.buf) ≡ false
post_fine lends quiets seen t y own started left =
    let late : not (nat_lt t.entry.user_data seen.started) ≡ false = grind (arith, nat_tests) in
    rw (late, left, with_number t.entry.user_data t.loan y.buf own.number, right_loan (lends t.entry.user_data) t.loan y.buf own.lent) refl

passes : (lends : ℕ → Bool) (quiets : List Bool) (seen : Seen) (job : ℕ) (r : ℤ) (fin : Bool) (loan : Option Loan) (log : List LogEvent) → is_strange lends quiets seen job fin loan ≡ false → fin ≡ true
    → first_strange lends quiets seen (logs.Post job r fin loan ∷ log) ≡ first_strange lends quiets (record seen { ended = job ∷ seen.ended }) log
passes lends quiets seen job r fin loan log e f = rw (e, f) refl

-- what is pending, where so many were taken and these have ended
pub record Stands (quiets : List Bool) (n : ℕ) (ended : List ℕ) (ts : List Taken) : Type 0 where
  pub known : Each (Known quiets) ts
  pub left : Each (HasNotEnded ended) ts
  pub chain : Chained ts n
  pub rises : Rising 0 ts n
  pub none : NoneFrom n ended

-- one more is taken
stands_more : (quiets : List Bool) (n : ℕ) (ended : List ℕ) (ts : List Taken) (t : Taken) → t.entry.user_data ≡ n → Known quiets t → Stands quiets n ended ts → Stands quiets (n + 1) ended (ts ++ t ∷ [])
stands_more quiets n ended ts t e k h = record {
  known = each-append (Known quiets) ts (t ∷ []) h.known (k, tt);
  left = each-append (HasNotEnded ended) ts (t ∷ []) h.left (h.none t.entry.user_data (omega (arith, e)), tt);
  chain = chain_take ts n t e h.chain;
  rises = rising_take 0 ts n t e h.rises;
  none = λ k le. h.none k (omega (arith, le));
}

-- one settles quietly
stands_less : (quiets : List Bool) (n : ℕ) (ended : List ℕ) (xs : List Taken) (t : Taken) (ys : List Taken) → last_linked false xs ≡ false → Stands quiets n ended (xs ++ t ∷ ys) → Stands quiets n ended (xs ++ ys)
stands_less quiets n ended xs t ys free h =
    let k = each_split (Known quiets) xs (t ∷ ys) h.known in
    let l = each_split (HasNotEnded ended) xs (t ∷ ys) h.left in
    record {
      known = each-append (Known quiets) xs ys k.0 k.1.1;
      left = each-append (HasNotEnded ended) xs ys l.0 l.1.1;
      chain = chain_drop false xs t ys n free h.chain;
      rises = rising_drop 0 xs t ys n h.rises;
      none = h.none;
    }

still_left : (j : ℕ) (ended : List ℕ) (ts : List Taken) → Each (IsApart j) ts → Each (HasNotEnded ended) ts → Each (HasNotEnded (j ∷ ended)) ts
still_left j ended [] a h = tt
still_left j ended (t ∷ ts) a h = (or_none (nat_eq t.entry.user_data j) (list_any (nat_eq t.entry.user_data) ended) a.0 h.0, still_left j ended ts a.1 h.1)
  where
    or_none : (b c : Bool) → b ≡ false → c ≡ false → (b || c) ≡ false
    or_none b c p q = rw (p, q) refl

-- one ends with its post
stands_ended : (quiets : List Bool) (n : ℕ) (ended : List ℕ) (xs : List Taken) (t : Taken) (ys : List Taken) → last_linked false xs ≡ false → t.entry.user_data < n → Stands quiets n ended (xs ++ t ∷ ys) → Stands quiets n (t.entry.user_data ∷ ended) (xs ++ ys)
stands_ended quiets n ended xs t ys free lt h =
    let less = stands_less quiets n ended xs t ys free h in
    let others = apart_others 0 xs t ys n h.rises in
    record {
      known = less.known;
      left = still_left t.entry.user_data ended (xs ++ ys) (each-append (IsApart t.entry.user_data) xs ys others.0 others.1) less.left;
      chain = less.chain;
      rises = less.rises;
      none = λ k le. let other : nat_eq k t.entry.user_data ≡ false = grind (arith, nat_tests) in rw (other, h.none k le) refl;
    }

pub rising_below : (k : ℕ) (xs : List Taken) (t : Taken) (ys : List Taken) (n : ℕ) → Rising k (xs ++ t ∷ ys) n → t.entry.user_data < n
rising_below k [] t ys n h = omega (arith, reaches (t.entry.user_data + 1) ys n h.1)
  where
    reaches : (k : ℕ) (ts : List Taken) (n : ℕ) → Rising k ts n → k ≤ n
    reaches k [] n h = h
    reaches k (t ∷ ts) n h = omega (arith, h.0, reaches (t.entry.user_data + 1) ts n h.1)
rising_below k (x ∷ xs) t ys n h = rising_below (x.entry.user_data + 1) xs t ys n h.1

-- an entry that settles waits for none
pub free_front : (a : PartnerState) (c : Cursor) (k : ℕ) → slice_get (cursors a) k ≡ Some c → last_linked false (entries_of c.front) ≡ false
free_front a c k e = sym (held_last false c.front) ∙ unheld (held false c.front) _ _ (cursor_ready (λ t. true) [] a.pending k c e)
  where
    unheld : (h d e : Bool) → (not h && d && e) ≡ true → h ≡ false
    unheld true d e q = cc
    unheld false d e q = refl

none_strange : (lends : ℕ → Bool) (quiets : List Bool) (over : Bool) (a b : PartnerState) (ms : List Move) (seen : Seen) (left : ℕ)
    → Steps over a ms b → Numbered seen.taken (took ms) → Each (Known quiets) (took ms) → Each (HasOwnLoan lends) (took ms) → Each (HasOwnLoan lends) (entries_of a.pending) → Stands quiets seen.taken seen.ended (entries_of a.pending)
    → TakesWithinTurns left ms → seen.taken + left ≤ seen.started
    → first_strange lends quiets seen (log_of ms) ≡ None
none_strange lends quiets over a b [] seen left h n known own pend stands within room = refl
none_strange lends quiets over a b (Turned p ∷ ms) seen left h n known own pend stands within room =
    none_strange lends quiets false a b ms (record seen { started = seen.taken + p }) p h n known own pend stands within (omega arith)
none_strange lends quiets over a b (Took t ∷ ms) seen left h n known own pend stands within room =
    let more = stands_more quiets seen.taken seen.ended (entries_of a.pending) t n.0 known.0 stands in
    let pends : Stands quiets (seen.taken + 1) seen.ended (entries_of (after_take a t).pending) = subst (Stands quiets (seen.taken + 1) seen.ended) (sym (map-append (λ i. i.taken) a.pending (record { taken = t; cut = cut_of a.tail; marked = false } ∷ []))) more in
    none_strange lends quiets false (after_take a t) b ms (record seen { taken = seen.taken + 1 }) (left - 1) h.1 n.1 known.1 own.1 (taken_each (HasOwnLoan lends) a t own.0 pend) pends within.1 (omega (arith, within.0, room))
none_strange lends quiets over a b (Posted c ∷ ms) seen left h n known own pend stands within room =
    let k = h.1.cursor in
    let at = (choice a.choices / 2) % length (cursors a) in
    let y = answer_to a.world h.1.cursor in
    let whole : Stands quiets seen.taken seen.ended (entries_of k.front ++ k.item.taken ∷ entries_of k.back) = subst (Stands quiets seen.taken seen.ended) (cursor_entries a k at h.1.chosen) stands in
    let loans = settled_each (HasOwnLoan lends) a k y at h.1.chosen pend in
    let free = free_front a k at h.1.chosen in
    let below = rising_below 0 (entries_of k.front) k.item.taken (entries_of k.back) seen.taken whole.rises in
    let here = (each_split (Known quiets) (entries_of k.front) (k.item.taken ∷ entries_of k.back) whole.known).1 in
    let unended = (each_split (HasNotEnded seen.ended) (entries_of k.front) (k.item.taken ∷ entries_of k.back) whole.left).1 in
    let waits = unanswered quiets seen.ended k.item.taken (entries_of k.back) seen.taken (chain_back (entries_of k.front) k.item.taken (entries_of k.back) seen.taken whole.chain) here unended whole.none in
    let number : c.user_data ≡ k.item.taken.entry.user_data = ap (λ x. x.user_data) h.1.completion in
    let final : is_final c.flags ≡ true = ap (λ x. is_final x.flags) h.1.completion in
    let fine : is_strange lends quiets seen c.user_data (is_final c.flags) c.loan ≡ false =
    ap (λ x. is_strange lends quiets seen x.user_data (is_final x.flags) x.loan) h.1.completion
    ∙ post_fine lends quiets seen k.item.taken y loans.0 (omega (arith, below, room)) waits in
    let rest : Stands quiets seen.taken (c.user_data ∷ seen.ended) (entries_of (after_settle a k y).pending) =
    subst (Stands quiets seen.taken (c.user_data ∷ seen.ended)) (sym (left_entries a k y))
    (subst (λ j. Stands quiets seen.taken (j ∷ seen.ended) (entries_of k.front ++ entries_of k.back)) (sym number) (stands_ended quiets seen.taken seen.ended (entries_of k.front) k.item.taken (entries_of k.back) free below whole)) in
    passes lends quiets seen c.user_data c.result (is_final c.flags) c.loan (log_of ms) fine final
    ∙ none_strange lends quiets (stops (choice a.choices)) (after_settle a k y) b ms (record seen { ended = c.user_data ∷ seen.ended }) left h.2 n known own loans.1 rest within room
none_strange lends quiets over a b (Quieted j ∷ ms) seen left h n known own pend stands within room =
    let k = h.1.cursor in
    let at = (choice a.choices / 2) % length (cursors a) in
    let y = answer_to a.world h.1.cursor in
    let whole : Stands quiets seen.taken seen.ended (entries_of k.front ++ k.item.taken ∷ entries_of k.back) = subst (Stands quiets seen.taken seen.ended) (cursor_entries a k at h.1.chosen) stands in
    let rest : Stands quiets seen.taken seen.ended (entries_of (after_settle a k y).pending) =
    subst (Stands quiets seen.taken seen.ended) (sym (left_entries a k y)) (stands_less quiets seen.taken seen.ended (entries_of k.front) k.item.taken (entries_of k.back) (free_front a k at h.1.chosen) whole) in
    none_strange lends quiets false (after_settle a k y) b ms seen left h.2 n known own (settled_each (HasOwnLoan lends) a k y at h.1.chosen pend).1 rest within room

-- what the jobs say of their entries

pub quiets_unlinked : (jobs : List Job) → quiets_of (last_unlinked jobs) ≡ quiets_of jobs
quiets_unlinked [] = refl
quiets_unlinked (job ∷ []) = refl
quiets_unlinked (job ∷ next ∷ jobs) = ap (λ l. job.quiet ∷ l) (quiets_unlinked (next ∷ jobs))

abbrev IsLinkedIfQuiet : Job → Type 0
IsLinkedIfQuiet job = job.quiet ≡ true → linked job.link ≡ true

linked_if : (q l rest : Bool) → ((not q || l) && rest) ≡ true → (q ≡ true → l ≡ true) × (rest ≡ true)
linked_if true true rest e = ((λ _. refl), e)
linked_if true false rest e = cc
linked_if false l rest e = ((λ q. cc), e)

never_quiet : (q : Bool) → not q ≡ true → q ≡ false
never_quiet true e = cc
never_quiet false e = refl

each_linked : (jobs : List Job) → quiets_are_linked jobs ≡ true → AllByRecursion IsLinkedIfQuiet (last_unlinked jobs)
each_linked [] h = tt
each_linked (job ∷ []) h = ((λ q. absurd (let bad : true ≡ false = sym q ∙ never_quiet job.quiet h in cc)), tt)
each_linked (job ∷ next ∷ jobs) h = let p = linked_if job.quiet (linked job.link) (quiets_are_linked (next ∷ jobs)) h in (p.0, each_linked (next ∷ jobs) p.1)

each_known : (quiets : List Bool) (n : ℕ) (ts ahead : List Taken) → ((i : ℕ) → slice_get quiets (n + i) ≡ slice_get (quiets_of (map job_of (ts ++ ahead))) i) → AllByRecursion IsLinkedIfQuiet (map job_of (ts ++ ahead)) → Numbered n (ts ++ ahead) → Each (Known quiets) ts
each_known quiets n [] ahead f l h = tt
each_known quiets n (t ∷ ts) ahead f l h =
    let here : n + 0 ≡ t.entry.user_data = omega (arith, h.0) in (
      record { marked = ap (slice_get quiets) (sym here) ∙ f 0; link = l.0 },
      each_known quiets (n + 1) ts ahead (λ i. let e : n + 1 + i ≡ n + suc i = omega arith in ap (slice_get quiets) e ∙ f (suc i)) l.1 h.1,
    )

-- the entries of jobs of which each quiet one is linked
pub jobs_known : (jobs : List Job) (ts ahead : List Taken) → quiets_are_linked jobs ≡ true → map job_of (ts ++ ahead) ≡ last_unlinked jobs → Numbered 0 (ts ++ ahead) → Each (Known (quiets_of jobs)) ts
jobs_known jobs ts ahead linked_ones asks numbered =
    let names : quiets_of jobs ≡ quiets_of (map job_of (ts ++ ahead)) = sym (quiets_unlinked jobs) ∙ ap quiets_of (sym asks) in
    each_known (quiets_of jobs) 0 ts ahead (λ i. let e : 0 + i ≡ i = omega arith in (λ k. slice_get (names k) (e k))) (subst (AllByRecursion IsLinkedIfQuiet) (sym asks) (each_linked jobs linked_ones)) numbered

pub stands_first : (quiets : List Bool) → Stands quiets 0 [] []
stands_first quiets = record { known = tt; left = tt; chain = tt; rises = omega arith; none = λ k le. refl }

pub no_post_is_strange : (lends : ℕ → Bool) (jobs : List Job) (files : Files) (choices : List ℕ) (ms : List Move) (ahead : List Taken) (b : PartnerState)
    → quiets_are_linked jobs ≡ true → map job_of (took ms ++ ahead) ≡ last_unlinked jobs → Numbered 0 (took ms ++ ahead) → Steps false (idle files choices) ms b
    → All (HasOwnLoan lends) (took ms) → TakesWithinTurns 0 ms
    → first_strange lends (quiets_of jobs) nothing_seen (log_of ms) ≡ None
no_post_is_strange lends jobs files choices ms ahead b linked_ones asks numbered h own within =
    none_strange lends (quiets_of jobs) false (idle files choices) b ms nothing_seen 0 h (numbered_split 0 (took ms) ahead numbered).0
    (jobs_known jobs (took ms) ahead linked_ones asks numbered) (recursion_from_All (HasOwnLoan lends) (took ms) own) tt (stands_first (quiets_of jobs)) within (omega arith)

-- what stands at the end of some moves
pub stands_after : (quiets : List Bool) (over : Bool) (a b : PartnerState) (ms : List Move) (seen : Seen) → Steps over a ms b → Numbered seen.taken (took ms) → Each (Known quiets) (took ms) → Stands quiets seen.taken seen.ended (entries_of a.pending)
    → Stands quiets (seen.taken + length (took ms)) (all_seen seen (log_of ms)).ended (entries_of b.pending)
stands_after quiets over a b [] seen h n known stands =
    let e : seen.taken ≡ seen.taken + 0 = omega arith in
    subst (λ k. Stands quiets k seen.ended (entries_of b.pending)) e (subst (λ x. Stands quiets seen.taken seen.ended (entries_of x.pending)) (sym h) stands)
stands_after quiets over a b (Turned p ∷ ms) seen h n known stands = stands_after quiets false a b ms (record seen { started = seen.taken + p }) h n known stands
stands_after quiets over a b (Took t ∷ ms) seen h n known stands =
    let more = stands_more quiets seen.taken seen.ended (entries_of a.pending) t n.0 known.0 stands in
    let pends : Stands quiets (seen.taken + 1) seen.ended (entries_of (after_take a t).pending) = subst (Stands quiets (seen.taken + 1) seen.ended) (sym (map-append (λ i. i.taken) a.pending (record { taken = t; cut = cut_of a.tail; marked = false } ∷ []))) more in
    let e : seen.taken + 1 + length (took ms) ≡ seen.taken + suc (length (took ms)) = omega arith in
    subst (λ k. Stands quiets k (all_seen (record seen { taken = seen.taken + 1 }) (log_of ms)).ended (entries_of b.pending)) e
    (stands_after quiets false (after_take a t) b ms (record seen { taken = seen.taken + 1 }) h.1 n.1 known.1 pends)
stands_after quiets over a b (Posted c ∷ ms) seen h n known stands =
    let k = h.1.cursor in
    let at = (choice a.choices / 2) % length (cursors a) in
    let y = answer_to a.world h.1.cursor in
    let whole : Stands quiets seen.taken seen.ended (entries_of k.front ++ k.item.taken ∷ entries_of k.back) = subst (Stands quiets seen.taken seen.ended) (cursor_entries a k at h.1.chosen) stands in
    let below = rising_below 0 (entries_of k.front) k.item.taken (entries_of k.back) seen.taken whole.rises in
    let number : c.user_data ≡ k.item.taken.entry.user_data = ap (λ x. x.user_data) h.1.completion in
    let final : is_final c.flags ≡ true = ap (λ x. is_final x.flags) h.1.completion in
    let rest : Stands quiets seen.taken (c.user_data ∷ seen.ended) (entries_of (after_settle a k y).pending) =
    subst (Stands quiets seen.taken (c.user_data ∷ seen.ended)) (sym (left_entries a k y))
    (subst (λ j. Stands quiets seen.taken (j ∷ seen.ended) (entries_of k.front ++ entries_of k.back)) (sym number) (stands_ended quiets seen.taken seen.ended (entries_of k.front) k.item.taken (entries_of k.back) (free_front a k at h.1.chosen) below whole)) in
    subst (λ b'. Stands quiets (seen.taken + length (took ms)) (all_seen (record seen { ended = cond b' (c.user_data ∷ seen.ended) seen.ended }) (log_of ms)).ended (entries_of b.pending)) (sym final)
    (stands_after quiets (stops (choice a.choices)) (after_settle a k y) b ms (record seen { ended = c.user_data ∷ seen.ended }) h.2 n known rest)
stands_after quiets over a b (Quieted j ∷ ms) seen h n known stands =
    let k = h.1.cursor in
    let at = (choice a.choices / 2) % length (cursors a) in
    let y = answer_to a.world h.1.cursor in
    let whole : Stands quiets seen.taken seen.ended (entries_of k.front ++ k.item.taken ∷ entries_of k.back) = subst (Stands quiets seen.taken seen.ended) (cursor_entries a k at h.1.chosen) stands in
    let rest : Stands quiets seen.taken seen.ended (entries_of (after_settle a k y).pending) =
    subst (Stands quiets seen.taken seen.ended) (sym (left_entries a k y)) (stands_less quiets seen.taken seen.ended (entries_of k.front) k.item.taken (entries_of k.back) (free_front a k at h.1.chosen) whole) in
    stands_after quiets false (after_settle a k y) b ms seen h.2 n known rest

-- turns in a row

within_more : (left more : ℕ) (ms : List Move) → left ≤ more → TakesWithinTurns left ms → TakesWithinTurns more ms
within_more left more [] h k = tt
within_more left more (Turned p ∷ ms) h k = k
within_more left more (Took t ∷ ms) h k = (omega (arith, k.0), within_more (left - 1) (more - 1) ms (omega arith) k.1)
within_more left more (Posted c ∷ ms) h k = within_more left more ms h k
within_more left more (Quieted n ∷ ms) h k = within_more left more ms h k

pub within-append : (left : ℕ) (ms ns : List Move) → TakesWithinTurns left ms → TakesWithinTurns 0 ns → TakesWithinTurns left (ms ++ ns)
within-append left [] ns h k = within_more 0 left ns (omega arith) k
within-append left (Turned p ∷ ms) ns h k = within-append p ms ns h k
within-append left (Took t ∷ ms) ns h k = (h.0, within-append (left - 1) ms ns h.1 k)
within-append left (Posted c ∷ ms) ns h k = within-append left ms ns h k
within-append left (Quieted n ∷ ms) ns h k = within-append left ms ns h k

-- what holds of each answer to an entry of which something holds, holds of each post
answers_all : (asks : Taken → Bool) (answers : Completion → Bool) → ((now : Files) (c : Cursor) → asks c.item.taken ≡ true → is_quiet_end now c ≡ false → answers (completion_of c.item.taken (answer_to now c)) ≡ true) → (over : Bool) (a b : PartnerState) (ms : List Move)
    → Steps over a ms b → Each (λ t. asks t ≡ true) (entries_of a.pending) → Each (λ t. asks t ≡ true) (took ms) → AllByRecursion (λ c. answers c ≡ true) (posted ms)
answers_all asks answers f over a b [] h pend own = tt
answers_all asks answers f over a b (Turned p ∷ ms) h pend own = answers_all asks answers f false a b ms h pend own
answers_all asks answers f over a b (Took t ∷ ms) h pend own = answers_all asks answers f false (after_take a t) b ms h.1 (taken_each (λ t. asks t ≡ true) a t own.0 pend) own.1
answers_all asks answers f over a b (Posted c ∷ ms) h pend own =
    let k = h.1.cursor in
    let p = settled_each (λ t. asks t ≡ true) a k (answer_to a.world k) ((choice a.choices / 2) % length (cursors a)) h.1.chosen pend in
    (ap answers h.1.completion ∙ f a.world k p.0 h.1.posts, answers_all asks answers f (stops (choice a.choices)) (after_settle a k (answer_to a.world k)) b ms h.2 p.1 own)
answers_all asks answers f over a b (Quieted n ∷ ms) h pend own =
    let k = h.1.cursor in
    let p = settled_each (λ t. asks t ≡ true) a k (answer_to a.world k) ((choice a.choices / 2) % length (cursors a)) h.1.chosen pend in
    answers_all asks answers f false (after_settle a k (answer_to a.world k)) b ms h.2 p.1 own

pub posts_answer : (asks : Taken → Bool) (answers : Completion → Bool) (files : Files) (choices : List ℕ) (ms : List Move) (b : PartnerState)
    → ((now : Files) (c : Cursor) → asks c.item.taken ≡ true → is_quiet_end now c ≡ false → answers (completion_of c.item.taken (answer_to now c)) ≡ true)
    → Steps false (idle files choices) ms b
    → All (λ t. asks t ≡ true) (took ms) → All (λ c. answers c ≡ true) (posted ms)
posts_answer asks answers files choices ms b f h own =
    All-from_recursion (λ c. answers c ≡ true) (posted ms)
    (answers_all asks answers f false (idle files choices) b ms h tt (recursion_from_All (λ t. asks t ≡ true) (took ms) own))

-- and what holds of the numbers of the quiet entries holds of each quiet end

abbrev EndsIfQuiet : (ℕ → Bool) → Taken → Type 0
EndsIfQuiet ends t = (job_of t).quiet ≡ true → ends t.entry.user_data ≡ true

quiet_entry : (b c : Bool) → (b && c) ≡ true → b ≡ true
quiet_entry true c e = refl
quiet_entry false c e = e

pub quiets_all : (ends : ℕ → Bool) (over : Bool) (a b : PartnerState) (ms : List Move) → Steps over a ms b → Each (EndsIfQuiet ends) (entries_of a.pending) → Each (EndsIfQuiet ends) (took ms) → AllByRecursion (λ n. ends n ≡ true) (quieted ms)
quiets_all ends over a b [] h pend own = tt
quiets_all ends over a b (Turned p ∷ ms) h pend own = quiets_all ends false a b ms h pend own
quiets_all ends over a b (Took t ∷ ms) h pend own = quiets_all ends false (after_take a t) b ms h.1 (taken_each (EndsIfQuiet ends) a t own.0 pend) own.1
quiets_all ends over a b (Posted c ∷ ms) h pend own =
    let k = h.1.cursor in
    let p = settled_each (EndsIfQuiet ends) a k (answer_to a.world k) ((choice a.choices / 2) % length (cursors a)) h.1.chosen pend in
    quiets_all ends (stops (choice a.choices)) (after_settle a k (answer_to a.world k)) b ms h.2 p.1 own
quiets_all ends over a b (Quieted n ∷ ms) h pend own =
    let k = h.1.cursor in
    let p = settled_each (EndsIfQuiet ends) a k (answer_to a.world k) ((choice a.choices / 2) % length (cursors a)) h.1.chosen pend in
    (ap ends h.1.number ∙ p.0 (quiet_entry (job_of k.item.taken).quiet _ h.1.quiet), quiets_all ends false (after_settle a k (answer_to a.world k)) b ms h.2 p.1 own)

pub quiets_answer : (ends : ℕ → Bool) (files : Files) (choices : List ℕ) (ms : List Move) (b : PartnerState)
    → Steps false (idle files choices) ms b
    → All (λ t. (job_of t).quiet ≡ true → ends t.entry.user_data ≡ true) (took ms) → All (λ n. ends n ≡ true) (quieted ms)
quiets_answer ends files choices ms b h own =
    All-from_recursion (λ n. ends n ≡ true) (quieted ms)
    (quiets_all ends false (idle files choices) b ms h tt (recursion_from_All (EndsIfQuiet ends) (took ms) own))
