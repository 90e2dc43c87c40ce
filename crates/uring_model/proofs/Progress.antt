-- The lowest open job may always settle. Of every machine: what is ready, and what a settling takes from what is pending.
use Rattle.std.specs.Prelude.{◌≡◌, ℕ, ◌+◌, ◌<◌, ◌/◌, ◌%◌, zero, suc, Bool, true, false, ◌&&◌, ◌||◌, not, cond, nat_eq, List, [], ◌∷◌, ◌++◌, length, Option, Some, None, slice_get, refl}
use Rattle.std.proofs.lemmas.Option.{same_Some}
use Rattle.std.proofs.Math.Nat.{mod-le}
use Rattle.std.proofs.Common.{ap, sym, subst, ◌∙◌, append_assoc, arith, length-append}
use Rattle.uring_base.specs.declared.events.Taken.{Taken}
use Rattle.uring_model.specs.declared.pending.Pending.{Pending}
use Rattle.uring_model.specs.Jobs.{Job, linked}
use Rattle.uring_model.specs.Replay.{Row, Open, Done, waits, drains_done, all_done, may, keep_if}
use Rattle.uring_model.specs.Chosen.{choice, stops}
use Rattle.uring_model.specs.Moves.{Turned, Took, Posted, Quieted}
use Rattle.uring_model.specs.Asks.{job_of}
use Rattle.uring_model.specs.Schedule.{Machine, State, cut_of, Cursor, held, no_drain, is_nil, is_ready, ready_cursors, cursors, mark_first, mark_first_if, pass, answer_to, named, after_take, cut_after, settled_by}
use Rattle.uring_model.specs.Partner.{file_machine, PartnerState}
use Rattle.uring_model.specs.Partner as files
use Rattle.uring_model.specs.Progress.{AlwaysAnswers, FrontIsReady, NoneIsLost}

-- the replay's side

all_done_waits : (w : Bool) (rows : List Row) → w ≡ false → all_done rows ≡ true → waits w rows ≡ false
all_done_waits w [] e h = e
all_done_waits w (Open job m ∷ rows) e h = cc
all_done_waits w (Done job r ∷ rows) e h = all_done_waits false rows refl h

all_done_drains : (rows : List Row) → all_done rows ≡ true → drains_done rows ≡ true
all_done_drains [] h = refl
all_done_drains (Open job m ∷ rows) h = cc
all_done_drains (Done job r ∷ rows) h = all_done_drains rows h

may_passes : (a b c d : Bool) → a ≡ false → b ≡ true → d ≡ true → (not a && b && (c || d)) ≡ true
may_passes a b true d p q r = rw (p, q) refl
may_passes a b false d p q r = rw (p, q, r) refl

pub lowest_may : (before : List Row) (job : Job) → all_done before ≡ true → may before job ≡ true
lowest_may before job h = may_passes (waits false before) (drains_done before) (not job.drain) (all_done before) (all_done_waits false before refl h) (all_done_drains before h) h

-- what is ready

front_passes : (a b c d : Bool) → a ≡ true → ((a || b || c) && (not d || true)) ≡ true
front_passes true b c true e = refl
front_passes true b c false e = refl
front_passes false b c d e = cc

keeps : {A : Type 0} (b : Bool) (x : A) (xs : List A) → b ≡ true → keep_if b x xs ≡ x ∷ xs
keeps b x xs e = rw e refl

front_kept : (can : Taken → Bool) (i : Pending) (is : List Pending) → is_ready can [] i ≡ true → ready_cursors can [] (i ∷ is) ≡ record { front = []; item = i; back = is } ∷ ready_cursors can (i ∷ []) is
front_kept can i is e = keeps (is_ready can [] i) (record { front = []; item = i; back = is }) (ready_cursors can (i ∷ []) is) e

pub some_ready : (can : Taken → Bool) (is : List Pending) → ((i : Pending) → is_ready can [] i ≡ true) → 0 < length is → 0 < length (ready_cursors can [] is)
some_ready can [] f h = h
some_ready can (i ∷ is) f h = subst (λ l. 0 < length l) (sym (front_kept can i is (f i))) (omega arith)

get_inside : {A : Type 0} (xs : List A) (k : ℕ) → k < length xs → (x : A) × (slice_get xs k ≡ Some x)
get_inside [] k h = absurd (omega arith)
get_inside (x ∷ xs) zero h = (x, refl)
get_inside (x ∷ xs) (suc k) h = get_inside xs k (omega arith)

-- where anything is ready, each choice names it or another
pub names_one : (c : ℕ) (ready : List Cursor) → 0 < length ready → (k : Cursor) × (named c ready ≡ Some k)
names_one c ready h = get_inside ready ((c / 2) % length ready) (omega (arith, h))

-- a ready entry is one of those that are pending

pub kept : {A : Type 0} (b : Bool) (x : A) (xs : List A) (k : ℕ) (c : A) (P : A → Type 0) → slice_get (keep_if b x xs) k ≡ Some c → P x → ((n : ℕ) → slice_get xs n ≡ Some c → P c) → P c
kept true x xs zero c P e p f = subst P (same_Some x c e) p
kept true x xs (suc k) c P e p f = f k e
kept false x xs k c P e p f = f k e

pub cursor_split : (can : Taken → Bool) (front is : List Pending) (k : ℕ) (c : Cursor) → slice_get (ready_cursors can front is) k ≡ Some c → c.front ++ c.item ∷ c.back ≡ front ++ is
cursor_split can front [] k c e = absurd (cc)
cursor_split can front (i ∷ is) k c e =
    kept (is_ready can front i) (record { front = front; item = i; back = is }) (ready_cursors can (front ++ i ∷ []) is) k c (λ x. x.front ++ x.item ∷ x.back ≡ front ++ i ∷ is) e refl
    (λ n q. cursor_split can (front ++ i ∷ []) is n c q ∙ append_assoc front (i ∷ []) is)

pub kept_if : {A : Type 0} (b : Bool) (x : A) (xs : List A) (k : ℕ) (c : A) (P : A → Type 0) → slice_get (keep_if b x xs) k ≡ Some c → (b ≡ true → P x) → ((n : ℕ) → slice_get xs n ≡ Some c → P c) → P c
kept_if true x xs zero c P e p f = subst P (same_Some x c e) (p refl)
kept_if true x xs (suc k) c P e p f = f k e
kept_if false x xs k c P e p f = f k e

-- it waits for nothing
pub cursor_ready : (can : Taken → Bool) (front is : List Pending) (k : ℕ) (c : Cursor) → slice_get (ready_cursors can front is) k ≡ Some c → (not (held false c.front) && no_drain c.front && (not (job_of c.item.taken).drain || is_nil c.front)) ≡ true
cursor_ready can front [] k c e = absurd (cc)
cursor_ready can front (i ∷ is) k c e =
    kept_if (is_ready can front i) (record { front = front; item = i; back = is }) (ready_cursors can (front ++ i ∷ []) is) k c (λ x. (not (held false x.front) && no_drain x.front && (not (job_of x.item.taken).drain || is_nil x.front)) ≡ true) e
    (λ q. second (can i.taken || i.marked || i.cut) _ q) (λ n q. cursor_ready can (front ++ i ∷ []) is n c q)
  where
    second : (b c : Bool) → (b && c) ≡ true → c ≡ true
    second true c e = e
    second false c e = cc

-- marks and cuts leave as many pending as there are

choose_length : {A : Type 0} (b : Bool) (xs ys : List A) (n : ℕ) → length xs ≡ n → length ys ≡ n → length (cond b xs ys) ≡ n
choose_length true xs ys n p q = p
choose_length false xs ys n p q = q

first-length : (t : ℕ) (is : List Pending) → length (mark_first t is) ≡ length is
first-length t [] = refl
first-length t (i ∷ is) = choose_length (nat_eq i.taken.entry.user_data t && not i.marked) _ _ (suc (length is)) refl (ap suc (first-length t is))

mark-length : (o : Option ℕ) (is : List Pending) → length (mark_first_if o is) ≡ length is
mark-length None is = refl
mark-length (Some t) is = first-length t is

pass-length : (b s : Bool) (is : List Pending) → length (pass b s is) ≡ length is
pass-length false s is = refl
pass-length true s [] = refl
pass-length true s (i ∷ is) = refl

module _ {W : Type 0} (m : Machine W) where
  pub front_ready : AlwaysAnswers m → FrontIsReady m
  front_ready always w i = front_passes (m.can_answer w i.taken) i.marked i.cut (job_of i.taken).drain (always w i.taken)

  -- a settling takes one away from what is pending
  pub one_left : (a : State W) (k : Cursor) → named (choice a.choices) (cursors m a) ≡ Some k → length (settled_by m a k).pending + 1 ≡ length a.pending
  one_left a k chosen =
      let y = answer_to m a.world k in
      let b = linked (job_of k.item.taken).link in
      let cut = cut_after k y in
      let whole : length (k.front ++ k.item ∷ k.back) ≡ length a.pending = ap length (cursor_split (m.can_answer a.world) [] a.pending ((choice a.choices / 2) % length (cursors m a)) k chosen) in
      let parts : length (k.front ++ k.item ∷ k.back) ≡ length k.front + (length k.back + 1) = simp length-append (omega arith) in
      let rest : length (k.front ++ pass b cut k.back) ≡ length k.front + length k.back = simp (length-append, pass-length) refl in
      let marked : length (mark_first_if y.marks (k.front ++ pass b cut k.back)) ≡ length (k.front ++ pass b cut k.back) = mark-length y.marks (k.front ++ pass b cut k.back) in
      omega (arith, marked, rest, whole, parts)

  -- Each entry that was taken is settled or pending.
  pub none_is_lost : NoneIsLost m
  none_is_lost over a b [] h = omega (arith, ap (λ x. length x.pending) h)
  none_is_lost over a b (Turned p ∷ ms) h = none_is_lost false a b ms h
  none_is_lost over a b (Took t ∷ ms) h =
      let more = none_is_lost false (after_take a t) b ms h.1 in
      let one : length (a.pending ++ record { taken = t; cut = cut_of a.tail; marked = false } ∷ []) ≡ length a.pending + 1 = simp length-append (omega arith) in
      omega (arith, more, one)
  none_is_lost over a b (Posted c ∷ ms) h =
      let more = none_is_lost (stops (choice a.choices)) (settled_by m a h.1.cursor) b ms h.2 in
      omega (arith, more, one_left a h.1.cursor h.1.chosen)
  none_is_lost over a b (Quieted n ∷ ms) h =
      let more = none_is_lost false (settled_by m a h.1.cursor) b ms h.2 in
      omega (arith, more, one_left a h.1.cursor h.1.chosen)

-- at the file machine, for the code that settles: the front is the one that a small choice names

first_ready : (i : Pending) → files.is_ready [] i ≡ true
first_ready i = front_passes true i.marked i.cut (job_of i.taken).drain refl

pub split_of : (front is : List Pending) (k : ℕ) (c : Cursor) → slice_get (files.ready_cursors front is) k ≡ Some c → c.front ++ c.item ∷ c.back ≡ front ++ is
split_of front is k c e = cursor_split (λ t. true) front is k c e

pub one_less : (a : PartnerState) (k : Cursor) → named (choice a.choices) (files.cursors a) ≡ Some k → length (files.after_settle a k (files.answer_to a.world k)).pending + 1 ≡ length a.pending
one_less a k chosen = one_left file_machine a k chosen

pub ready_some : (xs : List Pending) → 0 < length xs → 0 < length (files.ready_cursors [] xs)
ready_some xs h = some_ready (λ t. true) xs first_ready h

zero_mod : (n m : ℕ) → n ≡ 0 → n % m ≡ 0
zero_mod n m e = omega (arith, mod-le n m)

pub names_front : (c : ℕ) (xs : List Pending) → 0 < length xs → c / 2 ≡ 0 → (k : Cursor) × (named c (files.ready_cursors [] xs) ≡ Some k) × (length k.front ≡ 0)
names_front c [] h e = absurd (omega arith)
names_front c (i ∷ is) h e = (
  record { front = []; item = i; back = is },
  ap (slice_get (files.ready_cursors [] (i ∷ is))) (zero_mod (c / 2) (length (files.ready_cursors [] (i ∷ is))) e) ∙ ap (λ l. slice_get l 0) (front_kept (λ t. true) i is (first_ready i)),
  refl,
)
