-- The items that were taken, as a front of those that were seen.
use Rattle.std.proofs.Common.{◌≡◌, ℕ, zero, suc, ◌+◌, ◌≤◌, List, [], ◌∷◌, ◌++◌, length, take, Some, ap, ap₂, ◌∙◌, arith}
use Rattle.std.specs.Prelude.{slice_get}
use Rattle.std.proofs.lemmas.List.{take-append-le}
use Rattle.ring_shared.proofs.CoreSteps.{no_some}
use Rattle.ring_shared.proofs.TakerKept.{of_some}

module _ {T : Type 0} where
  pub take_more : (xs : List T) (k : ℕ) (x : T) → slice_get xs k ≡ Some x → take (k + 1) xs ≡ take k xs ++ x ∷ []
  take_more [] k x e = absurd (no_some x e)
  take_more (y ∷ ys) zero x e = ap (λ z. z ∷ []) (ap (of_some y) e)
  take_more (y ∷ ys) (suc k) x e = ap (λ (n : ℕ). take n (y ∷ ys)) (let q : suc k + 1 ≡ suc (k + 1) = omega arith in q) ∙ ap (λ l. y ∷ l) (take_more ys k x e)

  pub taken_more : (xs ys : List T) (k n : ℕ) (x : T) → ys ≡ xs → n ≡ k + 1 → slice_get xs k ≡ Some x → take n ys ≡ take k xs ++ x ∷ []
  taken_more xs ys k n x same next at = ap₂ (λ (i : ℕ) (l : List T). take i l) next same ∙ take_more xs k x at

  pub taken_same : (xs ys more : List T) (k n : ℕ) → k ≤ length xs → ys ≡ xs ++ more → n ≡ k → take n ys ≡ take k xs
  taken_same xs ys more k n le seen same = ap₂ (λ (i : ℕ) (l : List T). take i l) same seen ∙ take-append-le k xs more le
