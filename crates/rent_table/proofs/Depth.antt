-- However many steps are looked at, no more hangs on a number than within as many as there are numbers in flight.
use Rattle.std.proofs.Common.{◌≡◌, ℕ, zero, suc, ◌≤◌, ◌==◌, ◌||◌, Bool, true, false, cond, Option, Some, None, is_some, refl, sym, ap, ◌∙◌, subst, T, arith, ◌⊎◌, inl, inr, eqb-true}
use Rattle.std.specs.FinMap.{remove, len}
use Rattle.rent_table.proofs.Picks.{out_at, len-taken, len-above}
use Rattle.rent_table.specs.Ops.{Ops, flight_at, next_by, next_at, hangs_by, hangs}
use Rattle.rent_table.specs.Laws.{AnyDepth}
use Rattle.rent_table.proofs.Endings.{both, either, first, second, no_Some, hangs_in_flight}

abbrev without : ℕ → Ops → Ops
without n ops = record ops { in_flight = remove ops.in_flight n }

next_out : (n : ℕ) (ops : Ops) (q : ℕ) (b : Bool) → (q == n) ≡ b → next_at (without n ops) q ≡ next_by (cond b None (flight_at ops q))
next_out n ops q b e = ap next_by (out_at ops.in_flight n q) ∙ ap (λ x. next_by (cond x None (flight_at ops q))) e

still_next : (n : ℕ) (ops : Ops) (q p : ℕ) → next_at (without n ops) q ≡ Some p → next_at ops q ≡ Some p
still_next n ops q p e = elim (both (q == n)) [
  | inl s ↦ absurd (no_Some p (sym (next_out n ops q true s) ∙ e))
  | inr s ↦ sym (next_out n ops q false s) ∙ e
]

-- one step, by the next number
pub by_next : (k : ℕ) (ops : Ops) (u q p : ℕ) → next_at ops q ≡ Some p → ((p == u) || hangs k ops u p) ≡ true → hangs (suc k) ops u q ≡ true
by_next k ops u q p next e = ap (hangs_by (hangs k ops u) u) next ∙ e

pub step_of : (k : ℕ) (ops : Ops) (u q : ℕ) (o : Option ℕ) → next_at ops q ≡ o → hangs_by (hangs k ops u) u o ≡ true → (p : ℕ) × (next_at ops q ≡ Some p) × (((p == u) || hangs k ops u p) ≡ true)
step_of k ops u q None next e = absurd (subst T (sym e) tt)
step_of k ops u q (Some p) next e = (p, next, e)

more_by : (n : ℕ) (ops : Ops) (u k q : ℕ) → ((p : ℕ) → hangs k (without n ops) u p ≡ true → hangs k ops u p ≡ true) → hangs (suc k) (without n ops) u q ≡ true → hangs (suc k) ops u q ≡ true
more_by n ops u k q below e =
    let s = step_of k (without n ops) u q (next_at (without n ops) q) refl e in
    by_next k ops u q s.0 (still_next n ops q s.0 s.1) (elim (either (s.0 == u) (hangs k (without n ops) u s.0) s.2) [ inl a ↦ first _ _ a | inr b ↦ second _ _ (below s.0 b) ])

with_more : (k n : ℕ) (ops : Ops) (u q : ℕ) → hangs k (without n ops) u q ≡ true → hangs k ops u q ≡ true
with_more zero n ops u q e = absurd (subst T (sym e) tt)
with_more (suc k) n ops u q e = more_by n ops u k q (λ p. with_more k n ops u p) e

-- a chain goes past n, or reaches it
abbrev Passes : ℕ → ℕ → Ops → ℕ → ℕ → Type 0
Passes k n ops u m = (hangs k (without n ops) u m ≡ true) ⊎ ((j : ℕ) × (j ≤ k) × (hangs j ops u n ≡ true))

passes_by : (k n : ℕ) (ops : Ops) (u m p : ℕ) → (m == n) ≡ false → next_at ops m ≡ Some p → ((p == u) ≡ true) ⊎ (hangs k ops u p ≡ true) → (hangs k ops u p ≡ true → Passes k n ops u p) → Passes (suc k) n ops u m
passes_by k n ops u m p apart next (inl a) below = inl (by_next k (without n ops) u m p (next_out n ops m false apart ∙ next) (first _ _ a))
passes_by k n ops u m p apart next (inr b) below = elim (below b) [
  | inl h ↦ inl (by_next k (without n ops) u m p (next_out n ops m false apart ∙ next) (second _ _ h))
  | inr r ↦ inr (r.0, (let le = r.1 in omega (arith, le)), r.2)
]

passes : (k n : ℕ) (ops : Ops) (u m : ℕ) → hangs k ops u m ≡ true → Passes k n ops u m
passes zero n ops u m e = absurd (subst T (sym e) tt)
passes (suc k) n ops u m e =
    let s = step_of k ops u m (next_at ops m) refl e in
    elim (both (m == n)) [
      | inl same ↦ inr (suc k, (omega arith), subst (λ x. hangs (suc k) ops u x ≡ true) (eqb-true m n same) e)
      | inr apart ↦ passes_by k n ops u m s.0 apart s.1 (either (s.0 == u) (hangs k ops u s.0) s.2) (passes k n ops u s.0)
    ]

abbrev Bounded : ℕ → Type 0
Bounded s = (k : ℕ) (ops : Ops) (u n : ℕ) → len ops.in_flight ≡ s → hangs k ops u n ≡ true → hangs s ops u n ≡ true

fewer : (s : ℕ) (ops : Ops) (n : ℕ) → len ops.in_flight ≡ suc s → is_some (flight_at ops n) ≡ true → len (without n ops).in_flight ≡ s
fewer s ops n size here = let t = len-taken ops.in_flight n here in omega (arith, t, size)

shorter : (s : ℕ) → Bounded s → (b k : ℕ) (ops : Ops) (u n : ℕ) → k ≤ b → len ops.in_flight ≡ suc s → hangs k ops u n ≡ true → hangs (suc s) ops u n ≡ true
shorter s below b zero ops u n le size e = absurd (subst T (sym e) tt)
shorter s below zero (suc k) ops u n le size e = absurd (omega (arith, le))
shorter s below (suc b) (suc k) ops u n le size e =
    let here = hangs_in_flight (suc k) ops u n e in
    let t = step_of k ops u n (next_at ops n) refl e in
    elim (either (t.0 == u) (hangs k ops u t.0) t.2) [
      | inl a ↦ by_next s ops u n t.0 t.1 (first _ _ a)
      | inr h ↦ elim (passes k n ops u t.0 h) [
        | inl p ↦ by_next s ops u n t.0 t.1 (second _ _ (with_more s n ops u t.0 (below k (without n ops) u t.0 (fewer s ops n size here) p)))
        | inr r ↦ shorter s below b r.0 ops u n (let q = r.1 in omega (arith, q, le)) size r.2
      ]
    ]

bounded : (s : ℕ) → Bounded s
bounded zero k ops u n size e = let above = len-above ops.in_flight n (hangs_in_flight k ops u n e) in absurd (omega (arith, above, size))
bounded (suc s) k ops u n size e = shorter s (bounded s) k k ops u n (omega arith) size e

pub any_depth : AnyDepth
any_depth k ops u n e = bounded (len ops.in_flight) k ops u n refl e
