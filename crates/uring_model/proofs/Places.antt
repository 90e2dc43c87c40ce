-- Places, cancels and marks, in words.
use Rattle.std.specs.Prelude.{◌≡◌, ℕ, ◌+◌, ◌<◌, zero, suc, Bool, true, false, ◌&&◌, ◌||◌, not, nat_eq, List, [], ◌∷◌, ◌++◌, length, Some, slice_get, refl, ◌⊎◌, ◌↔◌, ◌≢◌}
use Rattle.std.proofs.lemmas.Option.{same_Some, slice_get_within}
use Rattle.std.proofs.lemmas.Bool.Decides.{nat_tests}
use Rattle.std.proofs.Common.{ap, sym, subst, ◌∙◌, append_assoc, arith, length-append, inl, inr}
use Rattle.uring_model.specs.Jobs.{Job}
use Rattle.uring_model.specs.Replay.{Result, Row, Open, Done, Place, place_of, can_mark, can_mark_other, mark}
use Rattle.uring_model.specs.Words.{CanCancel, MarksJob}
use Rattle.uring_model.proofs.Lines.{place_at}

-- lists

get_left : {A : Type 0} (xs ys : List A) (k : ℕ) (x : A) → slice_get xs k ≡ Some x → slice_get (xs ++ ys) k ≡ Some x
get_left [] ys k x e = absurd (cc)
get_left (z ∷ xs) ys zero x e = e
get_left (z ∷ xs) ys (suc k) x e = get_left xs ys k x e

get_right : {A : Type 0} (xs : List A) (y : A) (ys : List A) (k j : ℕ) → j ≡ length xs + 1 + k → slice_get (xs ++ y ∷ ys) j ≡ slice_get ys k
get_right [] y ys k zero e = absurd (omega arith)
get_right [] y ys k (suc j) e = let s : j ≡ k = omega arith in ap (slice_get ys) s
get_right (z ∷ xs) y ys k zero e = absurd (omega arith)
get_right (z ∷ xs) y ys k (suc j) e = get_right xs y ys k j (omega arith)

-- an element of a list is before or behind another one
record Behind {A : Type 0} (xs ys : List A) (j : ℕ) (x : A) : Type 0 where
  k : ℕ
  number : length xs + 1 + k ≡ j
  here : slice_get ys k ≡ Some x

get_split : {A : Type 0} (xs : List A) (y : A) (ys : List A) (j : ℕ) (x : A) → slice_get (xs ++ y ∷ ys) j ≡ Some x → j ≢ length xs → (slice_get xs j ≡ Some x) ⊎ Behind xs ys j x
get_split [] y ys zero x e n = absurd (n refl)
get_split [] y ys (suc j) x e n = inr (record { k = j; number = omega arith; here = e })
get_split (z ∷ xs) y ys zero x e n = inl e
get_split (z ∷ xs) y ys (suc j) x e n = elim (get_split xs y ys j x e (λ q. n (ap suc q))) [
  | inl u ↦ inl u
  | inr u ↦ inr (record { k = u.k; number = omega (arith, u.number); here = u.here })
]

-- tests

and_parts : (b c : Bool) → (b && c) ≡ true → (b ≡ true) × (c ≡ true)
and_parts true c e = (refl, e)
and_parts false c e = cc

or_parts : (b c : Bool) → (b || c) ≡ true → (b ≡ true) ⊎ (c ≡ true)
or_parts true c e = inl refl
or_parts false c e = inr e

or_true : (b : Bool) → (b || true) ≡ true
or_true true = refl
or_true false = refl

or_false : (b : Bool) → (b || false) ≡ b
or_false true = refl
or_false false = refl

not_true : (b : Bool) → not b ≡ true → b ≡ false
not_true true e = cc
not_true false e = refl

same_number : (n t : ℕ) → nat_eq n t ≡ true → n + 0 ≡ t
same_number n t e = grind (arith, nat_tests)

is_number : (n t : ℕ) → n + 0 ≡ t → nat_eq n t ≡ true
is_number n t e = grind (arith, nat_tests)

no_number : (n t : ℕ) → n + 0 ≢ t → nat_eq n t ≡ false
no_number n t h = let q : n ≡ t → ⊥ = λ e. h (omega arith) in grind (arith, nat_tests)

-- the place of a number

place_sound : (b rows : List Row) (j : ℕ) (p : Place) → place_of b rows j ≡ Some p → (length p.before ≡ length b + j) × (b ++ rows ≡ p.before ++ Open p.job p.marked ∷ p.after)
place_sound b [] j p e = absurd (cc)
place_sound b (Open job m ∷ rows) zero p e =
    subst (λ q. (length q.before ≡ length b + 0) × (b ++ Open job m ∷ rows ≡ q.before ++ Open q.job q.marked ∷ q.after))
    (same_Some (record { before = b; job = job; marked = m; after = rows }) p e) (omega arith, refl)
place_sound b (Done job r ∷ rows) zero p e = absurd (cc)
place_sound b (Open job m ∷ rows) (suc j) p e =
    let q = place_sound (b ++ Open job m ∷ []) rows j p e in
    (omega (arith, q.0, length-append b (Open job m ∷ [])), sym (append_assoc b (Open job m ∷ []) rows) ∙ q.1)
place_sound b (Done job r ∷ rows) (suc j) p e =
    let q = place_sound (b ++ Done job r ∷ []) rows j p e in
    (omega (arith, q.0, length-append b (Done job r ∷ [])), sym (append_assoc b (Done job r ∷ []) rows) ∙ q.1)

pub place_words : (rows : List Row) (j : ℕ) (p : Place) → (place_of [] rows j ≡ Some p) ↔ ((length p.before ≡ j) × (rows ≡ p.before ++ Open p.job p.marked ∷ p.after))
place_words rows j p = (
  λ e. let q = place_sound [] rows j p e in (omega (arith, q.0), q.1),
  λ h. ap (λ l. place_of [] l j) h.1 ∙ place_at [] p.before p.after p.job p.marked j (sym h.0),
)

-- what can be canceled

record CanAt (t n : ℕ) (rows : List Row) : Type 0 where
  k : ℕ
  number : n + k ≡ t
  job : Job
  here : slice_get rows k ≡ Some (Open job false)

shifted : (t n : ℕ) (row : Row) (rows : List Row) → CanAt t (n + 1) rows → CanAt t n (row ∷ rows)
shifted t n row rows c = record { k = suc c.k; number = omega (arith, c.number); job = c.job; here = c.here }

can_says : (t n : ℕ) (rows : List Row) → can_mark t n rows ≡ true → CanAt t n rows
can_says t n [] e = cc
can_says t n (Open job m ∷ rows) e = elim (or_parts (nat_eq n t && not m) (can_mark t (n + 1) rows) e) [
  | inl u ↦ let q = and_parts (nat_eq n t) (not m) u in record { k = 0; number = same_number n t q.0; job = job; here = ap (λ b. Some (Open job b)) (not_true m q.1) }
  | inr u ↦ shifted t n (Open job m) rows (can_says t (n + 1) rows u)
]
can_says t n (Done job r ∷ rows) e = shifted t n (Done job r) rows (can_says t (n + 1) rows e)

says_can : (t n k : ℕ) (rows : List Row) (job : Job) → n + k ≡ t → slice_get rows k ≡ Some (Open job false) → can_mark t n rows ≡ true
says_can t n k [] job h e = absurd (cc)
says_can t n zero (Open j m ∷ rows) job h e =
    let s : Open j m ≡ Open job false = same_Some (Open j m) (Open job false) e in
    let free : m ≡ false = cc in
    rw (is_number n t h, free) refl
says_can t n (suc k) (Open j m ∷ rows) job h e = ap (λ b. (nat_eq n t && not m) || b) (says_can t (n + 1) k rows job (omega arith) e) ∙ or_true (nat_eq n t && not m)
says_can t n zero (Done j r ∷ rows) job h e = let s : Done j r ≡ Open job false = same_Some (Done j r) (Open job false) e in cc
says_can t n (suc k) (Done j r ∷ rows) job h e = says_can t (n + 1) k rows job (omega arith) e

cancel_below : (p : Place) (t : ℕ) → CanAt t 0 p.before → CanCancel p t
cancel_below p t c =
    let inside : c.k < length p.before = slice_get_within p.before c.k (Open c.job false) c.here in
    let same : c.k ≡ t = omega (arith, c.number) in
    record {
      other = λ q. omega (arith, inside, same, q);
      job = c.job;
      unmarked = ap (slice_get (p.before ++ Open p.job p.marked ∷ p.after)) (sym same) ∙ get_left p.before (Open p.job p.marked ∷ p.after) c.k (Open c.job false) c.here;
    }

cancel_above : (p : Place) (t : ℕ) → CanAt t (length p.before + 1) p.after → CanCancel p t
cancel_above p t c = record {
  other = λ q. omega (arith, c.number, q);
  job = c.job;
  unmarked = get_right p.before (Open p.job p.marked) p.after c.k t (sym c.number) ∙ c.here;
}

cancel_says : (p : Place) (t : ℕ) → can_mark_other p t ≡ true → CanCancel p t
cancel_says p t e = elim (or_parts (can_mark t 0 p.before) (can_mark t (length p.before + 1) p.after) e) [
  | inl u ↦ cancel_below p t (can_says t 0 p.before u)
  | inr u ↦ cancel_above p t (can_says t (length p.before + 1) p.after u)
]

or_left : (b c : Bool) → b ≡ true → (b || c) ≡ true
or_left b c e = rw e refl

says_cancel : (p : Place) (t : ℕ) → CanCancel p t → can_mark_other p t ≡ true
says_cancel p t c = elim (get_split p.before (Open p.job p.marked) p.after t (Open c.job false) c.unmarked c.other) [
  | inl u ↦ or_left (can_mark t 0 p.before) (can_mark t (length p.before + 1) p.after) (says_can t 0 t p.before c.job (omega arith) u)
  | inr u ↦ ap (λ b. can_mark t 0 p.before || b) (says_can t (length p.before + 1) u.k p.after c.job u.number u.here) ∙ or_true (can_mark t 0 p.before)
]

pub cancel_words : (p : Place) (t : ℕ) → (can_mark_other p t ≡ true) ↔ CanCancel p t
cancel_words p t = (cancel_says p t, says_cancel p t)

-- marks

mark_open : (t n k : ℕ) (rows : List Row) (job : Job) (m : Bool) → n + k ≡ t → slice_get rows k ≡ Some (Open job m) → slice_get (mark t n rows) k ≡ Some (Open job true)
mark_open t n k [] job m h e = absurd (cc)
mark_open t n zero (Open j b ∷ rows) job m h e =
    let s : Open j b ≡ Open job m = same_Some (Open j b) (Open job m) e in
    let same : j ≡ job = cc in
    let set : (b || nat_eq n t) ≡ true = ap (λ x. b || x) (is_number n t h) ∙ or_true b in
    λ i. Some (Open (same i) (set i))
mark_open t n (suc k) (Open j b ∷ rows) job m h e = mark_open t (n + 1) k rows job m (omega arith) e
mark_open t n zero (Done j r ∷ rows) job m h e = let s : Done j r ≡ Open job m = same_Some (Done j r) (Open job m) e in cc
mark_open t n (suc k) (Done j r ∷ rows) job m h e = mark_open t (n + 1) k rows job m (omega arith) e

mark_done : (t n k : ℕ) (rows : List Row) (job : Job) (r : Result) → slice_get rows k ≡ Some (Done job r) → slice_get (mark t n rows) k ≡ Some (Done job r)
mark_done t n k [] job r e = absurd (cc)
mark_done t n zero (Open j b ∷ rows) job r e = let s : Open j b ≡ Done job r = same_Some (Open j b) (Done job r) e in cc
mark_done t n (suc k) (Open j b ∷ rows) job r e = mark_done t (n + 1) k rows job r e
mark_done t n zero (Done j q ∷ rows) job r e = e
mark_done t n (suc k) (Done j q ∷ rows) job r e = mark_done t (n + 1) k rows job r e

mark_other : (t n k : ℕ) (rows : List Row) → n + k ≢ t → slice_get (mark t n rows) k ≡ slice_get rows k
mark_other t n k [] h = refl
mark_other t n zero (Open j b ∷ rows) h = ap (λ x. Some (Open j (b || x))) (no_number n t h) ∙ ap (λ x. Some (Open j x)) (or_false b)
mark_other t n (suc k) (Open j b ∷ rows) h = mark_other t (n + 1) k rows (λ q. h (omega arith))
mark_other t n zero (Done j r ∷ rows) h = refl
mark_other t n (suc k) (Done j r ∷ rows) h = mark_other t (n + 1) k rows (λ q. h (omega arith))

mark_count : (t n : ℕ) (rows : List Row) → length (mark t n rows) ≡ length rows
mark_count t n [] = refl
mark_count t n (Open j b ∷ rows) = ap suc (mark_count t (n + 1) rows)
mark_count t n (Done j r ∷ rows) = ap suc (mark_count t (n + 1) rows)

pub mark_words : (t : ℕ) (rows : List Row) → MarksJob t rows (mark t 0 rows)
mark_words t rows = record {
  marked = λ job m e. mark_open t 0 t rows job m (omega arith) e;
  done = λ job r e. mark_done t 0 t rows job r e;
  others = λ k h. mark_other t 0 k rows (λ q. h (omega arith));
  count = mark_count t 0 rows;
}
