-- The scan of what is pending, one entry after another.
use Rattle.std.specs.Prelude.{◌≡◌, ℕ, ◌+◌, ◌<◌, ◌≤◌, ◌-◌, zero, suc, Bool, true, false, ◌&&◌, ◌||◌, not, nat_eq, List, [], ◌∷◌, ◌++◌, length, take, drop, Some, None, slice_get, refl, IsSome}
use Rattle.std.proofs.lemmas.Option.{same_Some, slice_get_within, slice_get_read}
use Rattle.std.proofs.lemmas.Bool.Decides.{nat_tests}
use Rattle.std.proofs.lemmas.List.{length-take-le}
use Rattle.std.proofs.Common.{ap, sym, subst, ◌∙◌, arith, add-one, get_or}
use Rattle.uring_model.specs.declared.pending.Pending.{Pending}
use Rattle.uring_model.specs.Jobs.{linked}
use Rattle.uring_model.specs.Replay.{keep_if}
use Rattle.uring_partner.specs.Served.{Cursor, job_of, held, no_drain, is_nil, is_ready, ready_cursors}

-- how far the scan is: at place i, with what it knows of the entries before
pub record Scans (xs : List Pending) (i : ℕ) (w u : Bool) : Type 0 where
  pub inside : i ≤ length xs
  pub waits : w ≡ held false (take i xs)
  pub undrained : u ≡ no_drain (take i xs)

-- the cursor that is wanted is the one at `left` among those that are ready from place i on
abbrev pub Seeks : List Pending → ℕ → ℕ → ℕ → Type 0
Seeks xs wanted i left = slice_get (ready_cursors (take i xs) (drop i xs)) left ≡ slice_get (ready_cursors [] xs) wanted

abbrev pub Counts : List Pending → ℕ → ℕ → Type 0
Counts xs i n = n + length (ready_cursors (take i xs) (drop i xs)) ≡ length (ready_cursors [] xs)

pub scan_first : (xs : List Pending) → Scans xs 0 false true
scan_first xs = record { inside = omega arith; waits = refl; undrained = refl }

pub held-append : (w : Bool) (xs ys : List Pending) → held w (xs ++ ys) ≡ held (held w xs) ys
held-append w [] ys = refl
held-append w (x ∷ xs) ys = held-append (linked (job_of x.taken).link) xs ys

and_true : (b : Bool) → b ≡ (b && true)
and_true true = refl
and_true false = refl

true_and : (b : Bool) → (b && true) ≡ b
true_and true = refl
true_and false = refl

and_assoc : (a b c : Bool) → (a && (b && c)) ≡ ((a && b) && c)
and_assoc true b c = refl
and_assoc false b c = refl

pub drain-append : (xs : List Pending) (y : Pending) → no_drain (xs ++ y ∷ []) ≡ (no_drain xs && not (job_of y.taken).drain)
drain-append [] y = true_and (not (job_of y.taken).drain)
drain-append (x ∷ xs) y = ap (λ b. not (job_of x.taken).drain && b) (drain-append xs y) ∙ and_assoc (not (job_of x.taken).drain) (no_drain xs) (not (job_of y.taken).drain)

-- the entry at place i
pub split_at : (xs : List Pending) (i : ℕ) (x : Pending) → slice_get xs i ≡ Some x → (take (suc i) xs ≡ take i xs ++ x ∷ []) × (drop i xs ≡ x ∷ drop (suc i) xs)
split_at [] i x e = absurd (cc)
split_at (y ∷ xs) zero x e = let s = same_Some y x e in ((λ j. s j ∷ []), (λ j. s j ∷ xs))
split_at (y ∷ xs) (suc i) x e = let p = split_at xs i x e in (ap (λ l. y ∷ l) p.0, p.1)

nil_take : (xs : List Pending) (i : ℕ) → i < length xs → is_nil (take i xs) ≡ nat_eq i 0
nil_take [] i h = absurd (omega arith)
nil_take (x ∷ xs) zero h = refl
nil_take (x ∷ xs) (suc i) h = let no : nat_eq (suc i) 0 ≡ false = grind (arith, nat_tests) in sym no

-- whether the entry at place i is ready, by what the scan knows
pub scan_ready : (xs : List Pending) (i : ℕ) (w u : Bool) (x : Pending) → Scans xs i w u → i < length xs → is_ready (take i xs) x ≡ (not w && u && (not (job_of x.taken).drain || nat_eq i 0))
scan_ready xs i w u x s h = λ j. not (sym s.waits j) && sym s.undrained j && (not (job_of x.taken).drain || nil_take xs i h j)

pub scan_next : (xs : List Pending) (i : ℕ) (w u : Bool) (x : Pending) → Scans xs i w u → slice_get xs i ≡ Some x → Scans xs (i + 1) (linked (job_of x.taken).link) (u && not (job_of x.taken).drain)
scan_next xs i w u x s e =
    let p = split_at xs i x e in
    let q : take (i + 1) xs ≡ take i xs ++ x ∷ [] = rw add-one p.0 in
    let inside : i < length xs = slice_get_within xs i x e in
    record {
      inside = omega arith;
      waits = sym (ap (held false) q ∙ held-append false (take i xs) (x ∷ []));
      undrained = ap (λ b. b && not (job_of x.taken).drain) s.undrained ∙ sym (ap no_drain q ∙ drain-append (take i xs) x);
    }

-- one step of the list of the ready
pub ready_next : (xs : List Pending) (i : ℕ) (x : Pending) → slice_get xs i ≡ Some x
    → ready_cursors (take i xs) (drop i xs) ≡ keep_if (is_ready (take i xs) x) (record { front = take i xs; item = x; back = drop (suc i) xs }) (ready_cursors (take (i + 1) xs) (drop (i + 1) xs))
ready_next xs i x e =
    let p = split_at xs i x e in
    let q : take i xs ++ x ∷ [] ≡ take (i + 1) xs = rw add-one (sym p.0) in
    let r : drop (suc i) xs ≡ drop (i + 1) xs = rw add-one refl in
    ap (ready_cursors (take i xs)) p.1 ∙ (λ j. keep_if (is_ready (take i xs) x) (record { front = take i xs; item = x; back = drop (suc i) xs }) (ready_cursors (q j) (r j)))

skipped : {A : Type 0} (b : Bool) (x : A) (xs : List A) → b ≡ false → keep_if b x xs ≡ xs
skipped b x xs e = rw e refl

pub kept : {A : Type 0} (b : Bool) (x : A) (xs : List A) → b ≡ true → keep_if b x xs ≡ x ∷ xs
kept b x xs e = rw e refl

pub seek_skips : (xs : List Pending) (wanted i left : ℕ) (x : Pending) → slice_get xs i ≡ Some x → is_ready (take i xs) x ≡ false → Seeks xs wanted i left → Seeks xs wanted (i + 1) left
seek_skips xs wanted i left x e b h = ap (λ l. slice_get l left) (sym (ready_next xs i x e ∙ skipped _ _ _ b)) ∙ h

pub seek_counts : (xs : List Pending) (wanted i left : ℕ) (x : Pending) → slice_get xs i ≡ Some x → is_ready (take i xs) x ≡ true → Seeks xs wanted i (suc left) → Seeks xs wanted (i + 1) left
seek_counts xs wanted i left x e b h = ap (λ l. slice_get l (suc left)) (sym (ready_next xs i x e ∙ kept _ _ _ b)) ∙ h

pub seek_finds : (xs : List Pending) (wanted i : ℕ) (x : Pending) → slice_get xs i ≡ Some x → is_ready (take i xs) x ≡ true → Seeks xs wanted i 0 → slice_get (ready_cursors [] xs) wanted ≡ Some (record { front = take i xs; item = x; back = drop (suc i) xs })
seek_finds xs wanted i x e b h = sym h ∙ ap (λ l. slice_get l 0) (ready_next xs i x e ∙ kept _ _ _ b)

pub count_skips : (xs : List Pending) (i n : ℕ) (x : Pending) → slice_get xs i ≡ Some x → is_ready (take i xs) x ≡ false → Counts xs i n → Counts xs (i + 1) n
count_skips xs i n x e b h = ap (λ l. n + length l) (sym (ready_next xs i x e ∙ skipped _ _ _ b)) ∙ h

pub count_counts : (xs : List Pending) (i n : ℕ) (x : Pending) → slice_get xs i ≡ Some x → is_ready (take i xs) x ≡ true → Counts xs i n → Counts xs (i + 1) (n + 1)
count_counts xs i n x e b h = omega (arith, h, ap length (ready_next xs i x e ∙ kept _ _ _ b))

pub drop_whole : {A : Type 0} (xs : List A) (i : ℕ) → length xs ≤ i → drop i xs ≡ []
drop_whole [] zero h = refl
drop_whole [] (suc i) h = refl
drop_whole (x ∷ xs) zero h = absurd (omega arith)
drop_whole (x ∷ xs) (suc i) h = drop_whole xs i (omega arith)

pub count_ends : (xs : List Pending) (i n : ℕ) → length xs ≤ i → Counts xs i n → n ≡ length (ready_cursors [] xs)
count_ends xs i n e h = omega (arith, h, ap (λ l. length (ready_cursors (take i xs) l)) (drop_whole xs i e))

pub seek_ends : (xs : List Pending) (wanted i left : ℕ) → length xs ≤ i → Seeks xs wanted i left → slice_get (ready_cursors [] xs) wanted ≡ None
seek_ends xs wanted i left e h = sym h ∙ ap (λ l. slice_get (ready_cursors (take i xs) l) left) (drop_whole xs i e)

-- one step, by what the code computed
pub record Stepped (xs : List Pending) (i : ℕ) (x : Pending) (b w u : Bool) : Type 0 where
  pub here : slice_get xs i ≡ Some x
  pub ready : is_ready (take i xs) x ≡ b
  pub scans : Scans xs (i + 1) w u

pub scan_step : (xs : List Pending) (i : ℕ) (w u v t b d : Bool) (x : Pending) → Scans xs i w u → i < length xs → x ≡ get_or xs i x → d ≡ (job_of x.taken).drain → b ≡ (not w && u && (not d || nat_eq i 0)) → v ≡ linked (job_of x.taken).link → t ≡ (u && not d) → Stepped xs i x b v t
scan_step xs i w u v t b d x s h g p q r k =
    let here = slice_get_read xs (length xs) i x refl h g in
    record {
      here = here;
      ready = scan_ready xs i w u x s h ∙ ap (λ e. not w && u && (not e || nat_eq i 0)) (sym p) ∙ sym q;
      scans = subst (λ e. Scans xs (i + 1) e t) (sym r) (subst (λ e. Scans xs (i + 1) (linked (job_of x.taken).link) e) (sym (k ∙ ap (λ e. u && not e) p)) (scan_next xs i w u x s here));
    }

has_at : {A : Type 0} (xs : List A) (k : ℕ) → k < length xs → IsSome (slice_get xs k)
has_at [] k h = absurd (omega arith)
has_at (x ∷ xs) zero h = refl
has_at (x ∷ xs) (suc k) h = has_at xs k (omega arith)

pub seek_some : (xs : List Pending) (wanted i left : ℕ) → length xs ≤ i → wanted < length (ready_cursors [] xs) → Seeks xs wanted i left → ⊥
seek_some xs wanted i left e h s =
    let none : slice_get (ready_cursors [] xs) wanted ≡ None = seek_ends xs wanted i left e s in
    let some : IsSome {T = Cursor} None = subst IsSome none (has_at (ready_cursors [] xs) wanted h) in
    cc

pub seek_less : (xs : List Pending) (wanted i left : ℕ) (x : Pending) → slice_get xs i ≡ Some x → is_ready (take i xs) x ≡ true → 0 < left → Seeks xs wanted i left → Seeks xs wanted (i + 1) (left - 1)
seek_less xs wanted i zero x e b p h = absurd (omega arith)
seek_less xs wanted i (suc left) x e b p h = subst (Seeks xs wanted (i + 1)) (omega arith) (seek_counts xs wanted i left x e b h)

pub seek_found : (xs : List Pending) (wanted i left : ℕ) (x : Pending) → slice_get xs i ≡ Some x → is_ready (take i xs) x ≡ true → left ≡ 0 → Seeks xs wanted i left → (c : Cursor) × (slice_get (ready_cursors [] xs) wanted ≡ Some c) × (length c.front ≡ i)
seek_found xs wanted i left x e b p h =
    let inside : i < length xs = slice_get_within xs i x e in
    (record { front = take i xs; item = x; back = drop (suc i) xs }, seek_finds xs wanted i x e b (subst (Seeks xs wanted i) p h), length-take-le i xs (omega arith))
