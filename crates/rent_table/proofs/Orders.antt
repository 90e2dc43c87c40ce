-- What hangs on a number, where each next number is the one behind.
use Rattle.std.proofs.Common.{◌≡◌, ℕ, zero, suc, ◌+◌, ◌-◌, ◌<◌, ◌≤◌, ◌==◌, true, false, Some, refl, sym, ap, ◌∙◌, subst, T, arith, ◌⊎◌, inl, inr, eqb-true, eq-eqb}
use Rattle.std.specs.FinMap.{len}
use Rattle.rent_table.specs.Ops.{Ops, next_at, hangs}
use Rattle.rent_table.specs.Laws.{AreInOrder, InOrder}
use Rattle.rent_table.proofs.Endings.{both, either, first, second}
use Rattle.rent_table.proofs.Depth.{step_of, by_next, any_depth}

abbrev Reaches : Ops → ℕ → ℕ → Type 0
Reaches ops u n = (n < u) × ((i : ℕ) → n ≤ i → i < u → next_at ops i ≡ Some (i + 1))

above : (i n : ℕ) → n ≤ i → (i == n) ≡ false → n + 1 ≤ i
above i n le e = grind (arith, le, (λ (s : i ≡ n). subst T (sym (eq-eqb i n s) ∙ e) tt))

one_further : (ops : Ops) (u n m : ℕ) → next_at ops n ≡ Some m → m ≡ n + 1 → ((m == u) ≡ true) ⊎ Reaches ops u m → Reaches ops u n
one_further ops u n m next behind (inl a) =
    let e = eqb-true m u a in
    ((omega (arith, e, behind)), λ i le lt. let same : i ≡ n = omega (arith, le, lt, e, behind) in ap (next_at ops) same ∙ next ∙ ap Some (behind ∙ ap (λ x. x + 1) (sym same)))
one_further ops u n m next behind (inr r) =
    let below = r.0 in (
      (omega (arith, below, behind)),
      λ i le lt. elim (both (i == n)) [
        | inl s ↦ let same = eqb-true i n s in ap (next_at ops) same ∙ next ∙ ap Some (behind ∙ ap (λ x. x + 1) (sym same))
        | inr s ↦ r.1 i (let far = above i n le s in omega (arith, far, behind)) lt
      ],
    )

reaches : (k : ℕ) (ops : Ops) (u n : ℕ) → AreInOrder ops → hangs k ops u n ≡ true → Reaches ops u n
reaches zero ops u n order e = absurd (subst T (sym e) tt)
reaches (suc k) ops u n order e =
    let s = step_of k ops u n (next_at ops n) refl e in
    one_further ops u n s.0 s.1 (order n s.0 s.1) (elim (either (s.0 == u) (hangs k ops u s.0) s.2) [ inl a ↦ inl a | inr b ↦ inr (reaches k ops u s.0 order b) ])

reached : (d : ℕ) (ops : Ops) (u n : ℕ) → u ≡ n + suc d → ((i : ℕ) → n ≤ i → i < u → next_at ops i ≡ Some (i + 1)) → hangs (suc d) ops u n ≡ true
reached zero ops u n is all = by_next zero ops u n (n + 1) (all n (omega arith) (omega (arith, is))) (first _ _ (eq-eqb (n + 1) u (omega (arith, is))))
reached (suc d) ops u n is all = by_next (suc d) ops u n (n + 1) (all n (omega arith) (omega (arith, is))) (second _ _ (reached d ops u (n + 1) (omega (arith, is)) (λ i le lt. all i (omega (arith, le)) lt)))

pub in_order : InOrder
in_order ops u n order = (
  λ e. reaches (len ops.in_flight) ops u n order e,
  λ r. let lt = r.0 in any_depth (suc (u - n - 1)) ops u n (reached (u - n - 1) ops u n (omega (arith, lt)) r.1),
)
