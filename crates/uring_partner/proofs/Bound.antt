-- All pending entries are ready where none has a link or a drain.
use Rattle.std.specs.Prelude.{◌≡◌, ℕ, ◌+◌, ◌<◌, ◌/◌, ◌%◌, zero, suc, Bool, true, false, ◌&&◌, ◌||◌, not, cond, List, [], ◌∷◌, ◌++◌, length, Some, slice_get, refl}
use Rattle.std.proofs.lemmas.List.Sums.{sum_by-cons}
use Rattle.std.proofs.Common.{ap, sym, ◌∙◌, arith, length-append}
use Rattle.uring_model.specs.declared.pending.Pending.{Pending}
use Rattle.uring_model.specs.Jobs.{linked}
use Rattle.uring_partner.specs.Served.{Cursor, job_of, held, no_drain, is_nil, is_ready, ready_cursors, named}
use Rattle.uring_partner.specs.Bound.{bound_in, is_bound}
use Rattle.uring_partner.proofs.Ready.{held-append, drain-append, kept}

abbrev pub one_of : Pending → ℕ
one_of i = cond (is_bound i) 1 0

bound-cons : (x : Pending) (xs : List Pending) → bound_in (x ∷ xs) ≡ one_of x + bound_in xs
bound-cons x xs = sum_by-cons one_of x xs

-- where none has a link or a drain

or_none : (a b : Bool) (n : ℕ) → cond (a || b) 1 0 + n ≡ 0 → (a ≡ false) × (b ≡ false) × (n ≡ 0)
or_none true b n e = absurd (omega (arith, e))
or_none false true n e = absurd (omega (arith, e))
or_none false false n e = (refl, refl, omega (arith, e))

-- the first of them is ready, and the others stand behind one that holds up nothing
record FirstFree (front : List Pending) (x : Pending) (xs : List Pending) : Type 0 where
  pub ready : ready_cursors front (x ∷ xs) ≡ record { front = front; item = x; back = xs } ∷ ready_cursors (front ++ x ∷ []) xs
  pub waits : held false (front ++ x ∷ []) ≡ false
  pub undrained : no_drain (front ++ x ∷ []) ≡ true
  pub others : bound_in xs ≡ 0

first_free : (front : List Pending) (x : Pending) (xs : List Pending) → held false front ≡ false → no_drain front ≡ true → bound_in (x ∷ xs) ≡ 0 → FirstFree front x xs
first_free front x xs w u e =
    let p = or_none (linked (job_of x.taken).link) (job_of x.taken).drain (bound_in xs) (sym (bound-cons x xs) ∙ e) in
    let ready : is_ready front x ≡ true = λ i. not (w i) && u i && (not (p.1 i) || is_nil front) in
    record {
      ready = kept (is_ready front x) _ _ ready;
      waits = held-append false front (x ∷ []) ∙ p.0;
      undrained = drain-append front x ∙ (λ i. u i && not (p.1 i));
      others = p.2;
    }

free_count : (front xs : List Pending) → held false front ≡ false → no_drain front ≡ true → bound_in xs ≡ 0 → length (ready_cursors front xs) ≡ length xs
free_count front [] w u e = refl
free_count front (x ∷ xs) w u e =
    let f = first_free front x xs w u e in
    omega (arith, ap length f.ready, free_count (front ++ x ∷ []) xs f.waits f.undrained f.others)

free_at : (front xs : List Pending) (k : ℕ) → held false front ≡ false → no_drain front ≡ true → bound_in xs ≡ 0 → k < length xs → (c : Cursor) × (slice_get (ready_cursors front xs) k ≡ Some c) × (length c.front ≡ length front + k)
free_at front [] k w u e h = absurd (omega arith)
free_at front (x ∷ xs) zero w u e h = let f = first_free front x xs w u e in (record { front = front; item = x; back = xs }, ap (λ l. slice_get l 0) f.ready, omega arith)
free_at front (x ∷ xs) (suc k) w u e h =
    let f = first_free front x xs w u e in
    let rest = free_at (front ++ x ∷ []) xs k f.waits f.undrained f.others (omega arith) in
    let parts : length (front ++ x ∷ []) ≡ length front + 1 = simp length-append (omega arith) in
    (rest.0, ap (λ l. slice_get l (suc k)) f.ready ∙ rest.1, omega (arith, rest.2, parts))

-- a choice names the entry at its own place, where none has a link or a drain
pub free_named : (c k : ℕ) (xs : List Pending) → bound_in xs ≡ 0 → k ≡ (c / 2) % length xs → k < length xs → (s : Cursor) × (named c (ready_cursors [] xs) ≡ Some s) × (length s.front ≡ k)
free_named c k xs e h inside =
    let at = free_at [] xs k refl refl e inside in
    let place : (c / 2) % length (ready_cursors [] xs) ≡ k = ap (λ n. (c / 2) % n) (free_count [] xs refl refl e) ∙ sym h in
    (at.0, ap (slice_get (ready_cursors [] xs)) place ∙ at.1, omega (arith, at.2))
