-- Rising lists of numbers, put behind one another.
use Rattle.std.proofs.Common.{◌≡◌, ℕ, zero, suc, ◌+◌, ◌-◌, ◌<◌, ◌≤◌, ◌==◌, ◌||◌, ◌&&◌, ◌++◌, List, [], ◌∷◌, Bool, true, false, length, refl, sym, ap, ◌∙◌, arith, length-append, eq-eqb, ltb, lt-ltb, le-ltb, ltb-true, ltb-false, eqb-true}
use Rattle.std.specs.Prelude.{slice_index}
use Rattle.std.proofs.lemmas.Bool.{eqb-false}
use Rattle.std.specs.List.Sorted.{IsStrictlyIncreasing}
use lib.ListN.{get_or-append}
use lib.Seq.{get_or-append_right}
use Rattle.rent_table.specs.Lists.{has}
use Rattle.rent_table.specs.NumberedValues.{AreBelow}
use Rattle.rent_table.proofs.Endings.{first}

pub has-append : (n : ℕ) (xs ys : List ℕ) → has n (xs ++ ys) ≡ has n xs || has n ys
has-append n [] ys = refl
has-append n (x ∷ xs) ys = ap (λ b. (n == x) || b) (has-append n xs ys) ∙ or-assoc (n == x) (has n xs) (has n ys)
  where
    or-assoc : (a b c : Bool) → (a || (b || c)) ≡ ((a || b) || c)
    or-assoc true b c = refl
    or-assoc false b c = refl

pub has-index : (xs : List ℕ) (k : ℕ) → k < length xs → has (slice_index xs k) xs ≡ true
has-index [] k lt = absurd (omega (arith, lt))
has-index (x ∷ xs) zero lt = first (x == x) (has x xs) (eq-eqb x x refl)
has-index (x ∷ xs) (suc k) lt = either (slice_index xs k == x) (has (slice_index xs k) xs) (has-index xs k (omega (arith, lt)))
  where
    either : (a b : Bool) → b ≡ true → (a || b) ≡ true
    either true b e = refl
    either false b e = e

module _ (xs ys : List ℕ) (limit : ℕ) (up : IsStrictlyIncreasing xs) (also : IsStrictlyIncreasing ys) (below : AreBelow limit xs) (above : (k : ℕ) → k < length ys → limit ≤ slice_index ys k) where
  at_left : (k : ℕ) → k < length xs → slice_index (xs ++ ys) k ≡ slice_index xs k
  at_left k lt = get_or-append xs ys 0 k lt

  at_right : (k : ℕ) → length xs ≤ k → slice_index (xs ++ ys) k ≡ slice_index ys (k - length xs)
  at_right k le = get_or-append_right xs ys k 0 le

  by_place : (k : ℕ) (here next : Bool) → ltb k (length xs) ≡ here → ltb (k + 1) (length xs) ≡ next → k + 1 < length (xs ++ ys) → slice_index (xs ++ ys) k < slice_index (xs ++ ys) (k + 1)
  by_place k true true h n lt =
      let l = at_left k (ltb-true _ _ h) in let r = at_left (k + 1) (ltb-true _ _ n) in
      let up_here = up k (ltb-true _ _ n) in omega (arith, l, r, up_here)
  by_place k true false h n lt =
      let le = ltb-false _ _ n in let lt_here = ltb-true _ _ h in let size = length-append xs ys in
      let l = at_left k lt_here in let r = at_right (k + 1) le in
      let low = below k lt_here in let high = above (k + 1 - length xs) (omega (arith, lt, size, le)) in omega (arith, l, r, low, high)
  by_place k false next h n lt =
      let le = ltb-false _ _ h in let size = length-append xs ys in
      let l = at_right k le in let r = at_right (k + 1) (omega (arith, le)) in
      let place : k + 1 - length xs ≡ k - length xs + 1 = omega (arith, le) in
      let same = ap (slice_index ys) place in
      let up_there = also (k - length xs) (omega (arith, lt, size, le)) in omega (arith, l, r, same, up_there)

  pub rising-joined : IsStrictlyIncreasing (xs ++ ys)
  rising-joined k lt = by_place k (ltb k (length xs)) (ltb (k + 1) (length xs)) refl refl lt

-- one number behind the others
one_rises : (n : ℕ) → IsStrictlyIncreasing (n ∷ [])
one_rises n k lt = absurd (omega (arith, lt))

one_from : (n k : ℕ) → k < 1 → n ≤ slice_index (n ∷ []) k
one_from n zero lt = omega arith
one_from n (suc k) lt = absurd (omega (arith, lt))

pub rising-pushed : (xs : List ℕ) (n : ℕ) → IsStrictlyIncreasing xs → AreBelow n xs → IsStrictlyIncreasing (xs ++ n ∷ [])
rising-pushed xs n up below = rising-joined xs (n ∷ []) n up (one_rises n) below (one_from n)

below_by : (xs : List ℕ) (n k : ℕ) (here : Bool) → AreBelow n xs → ltb k (length xs) ≡ here → k < length (xs ++ n ∷ []) → slice_index (xs ++ n ∷ []) k < n + 1
below_by xs n k true below h lt = let l = get_or-append xs (n ∷ []) 0 k (ltb-true _ _ h) in let low = below k (ltb-true _ _ h) in omega (arith, l, low)
below_by xs n k false below h lt =
    let le : length xs ≤ k = ltb-false k (length xs) h in
    let size : length (xs ++ n ∷ []) ≡ length xs + 1 = length-append xs (n ∷ []) in
    let l = get_or-append_right xs (n ∷ []) k 0 le in
    let place : k - length xs ≡ 0 = omega (arith, lt, size, le) in
    let same : slice_index (n ∷ []) (k - length xs) ≡ n = ap (slice_index (n ∷ [])) place in
    omega (arith, l, same)

pub below-pushed : (xs : List ℕ) (n : ℕ) → AreBelow n xs → AreBelow (n + 1) (xs ++ n ∷ [])
below-pushed xs n below k lt = below_by xs n k (ltb k (length xs)) below refl lt

pub below-more : (xs : List ℕ) (n : ℕ) → AreBelow n xs → AreBelow (n + 1) xs
below-more xs n below k lt = let low = below k lt in omega (arith, low)

-- the numbers below a limit that a list has, one after the other
next_by : (n m : ℕ) (same below picks : Bool) (f : ℕ → Bool) → (n == m) ≡ same → ltb n m ≡ below → f m ≡ picks → ((below && f n) || (picks && (same || false))) ≡ (ltb n (m + 1) && f n)
next_by n m true below true f s b p = let is = eqb-true n m s in any_true (below && f n) ∙ sym (ap (λ x. x && f n) (lt-ltb n (m + 1) (omega (arith, is))) ∙ ap f is ∙ p)
  where
    any_true : (a : Bool) → (a || true) ≡ true
    any_true true = refl
    any_true false = refl
next_by n m true true false f s b p = let is = eqb-true n m s in let lt = ltb-true n m b in absurd (omega (arith, is, lt))
next_by n m true false false f s b p = let is = eqb-true n m s in sym (ap (λ x. x && f n) (lt-ltb n (m + 1) (omega (arith, is))) ∙ ap f is ∙ p)
next_by n m false true picks f s b p = let lt = ltb-true n m b in none_more (f n) picks ∙ sym (ap (λ x. x && f n) (lt-ltb n (m + 1) (omega (arith, lt))))
  where
    none_more : (a c : Bool) → (a || (c && false)) ≡ a
    none_more true c = refl
    none_more false true = refl
    none_more false false = refl
next_by n m false false picks f s b p = let le = ltb-false n m b in let ne = eqb-false n m s in nothing picks ∙ sym (ap (λ x. x && f n) (le-ltb n (m + 1) (omega (arith, le, ne))))
  where
    nothing : (c : Bool) → (c && false) ≡ false
    nothing true = refl
    nothing false = refl

module _ (xs : List ℕ) (m : ℕ) (f : ℕ → Bool) (each : (n : ℕ) → has n xs ≡ (ltb n m && f n)) where
  pub has-pushed : f m ≡ true → (n : ℕ) → has n (xs ++ m ∷ []) ≡ (ltb n (m + 1) && f n)
  has-pushed p n = has-append n xs (m ∷ []) ∙ ap (λ b. b || ((n == m) || false)) (each n) ∙ next_by n m (n == m) (ltb n m) true f refl refl p

  pub has-passed : f m ≡ false → (n : ℕ) → has n xs ≡ (ltb n (m + 1) && f n)
  has-passed p n = each n ∙ no_more (ltb n m && f n) ∙ next_by n m (n == m) (ltb n m) false f refl refl p
    where
      no_more : (a : Bool) → a ≡ (a || false)
      no_more true = refl
      no_more false = refl
