-- Lists by number, of a map that may have empty ones.
use Rattle.std.proofs.Common.{◌≡◌, ℕ, ◌+◌, ◌≤◌, ◌==◌, List, [], ◌∷◌, ◌++◌, length, drop, Option, Some, None, true, false, cond, is_some, unwrap_or, slice_get, refl, ap, sym, ◌∙◌, arith, T, subst, eqb-true, eq-eqb, inl, inr, MatchOption}
use Rattle.std.specs.Option.{option_and_then, option_to_list}
use Rattle.std.proofs.lemmas.Option.{same_Some}
use Rattle.std.specs.Ordering.{nat_cmp}
use Rattle.std.specs.FinMap.{FinMap, get, insert, remove, entries, empty, get-empty}
use Rattle.rent_table.specs.NumberedSlab.{put, picked}
use Rattle.rent_table.specs.Lists.{if_any, list_at, with_list}
use Rattle.rent_table.proofs.Picks.{get-part, part-insert, part-remove, part-empty, nothing_out, put_twice, put_at, out_at}
use Rattle.rent_table.proofs.Endings.{both}

abbrev pub Map : Type 0 → Type 0
Map A = FinMap nat_cmp (List A)

module _ {A : Type 0} where
  abbrev pub lists_of : Map A → Map A
  lists_of m = picked if_any (entries m)

  at_any : (o : Option (List A)) → unwrap_or (option_and_then if_any o) [] ≡ unwrap_or o []
  at_any None = refl
  at_any (Some []) = refl
  at_any (Some (x ∷ xs)) = refl

  pub list-at : (m : Map A) (n : ℕ) → list_at (lists_of m) n ≡ unwrap_or (get m n) []
  list-at m n = ap (λ o. unwrap_or o []) (get-part if_any m n) ∙ at_any (get m n)

  pub lists-empty : (m : Map A) → m ≡ empty → lists_of m ≡ empty
  lists-empty m e = ap lists_of e ∙ part-empty if_any

  pub lists-out : (m : Map A) (n : ℕ) → lists_of (remove m n) ≡ remove (lists_of m) n
  lists-out m n = part-remove if_any m n

  -- an element is put behind the list of a number
  pub one_more : (m after : Map A) (n : ℕ) (x : A) (queue longer : List A) → queue ≡ unwrap_or (get m n) [] → longer ≡ queue ++ x ∷ [] → after ≡ insert (remove m n) n longer → lists_of after ≡ with_list n (list_at (lists_of m) n ++ x ∷ []) (lists_of m)
  one_more m after n x queue longer is more e =
      ap lists_of e ∙ part-insert if_any (remove m n) n longer ∙ ap (put n (if_any longer)) (part-remove if_any m n)
      ∙ put_twice n (if_any longer) None (lists_of m)
      ∙ ap (λ xs. put n (if_any xs) (lists_of m)) (more ∙ ap (λ xs. xs ++ x ∷ []) (is ∙ sym (list-at m n)))

  -- the first element of a number's list is taken out
  pub first_out : (m mid after : Map A) (n : ℕ) (queue rest : List A) → get m n ≡ Some queue → mid ≡ cond (is_some (get m n)) (insert m n []) m → rest ≡ drop 1 queue → after ≡ insert mid n rest → lists_of after ≡ with_list n (drop 1 (list_at (lists_of m) n)) (lists_of m)
  first_out m mid after n queue rest at exchanged is e =
      ap lists_of (e ∙ ap (λ x. insert x n rest) (exchanged ∙ ap (λ o. cond (is_some o) (insert m n []) m) at))
      ∙ part-insert if_any (insert m n []) n rest ∙ ap (put n (if_any rest)) (part-insert if_any m n [])
      ∙ put_twice n (if_any rest) None (lists_of m)
      ∙ ap (λ xs. put n (if_any xs) (lists_of m)) (is ∙ ap (drop 1) (sym (list-at m n ∙ ap (λ o. unwrap_or o []) at)))

  pub nothing_first : (m mid : Map A) (n : ℕ) → get m n ≡ None → mid ≡ cond (is_some (get m n)) (insert m n []) m → lists_of mid ≡ with_list n (drop 1 (list_at (lists_of m) n)) (lists_of m)
  nothing_first m mid n none exchanged =
      ap lists_of (exchanged ∙ ap (λ o. cond (is_some o) (insert m n []) m) none)
      ∙ nothing_out (lists_of m) n (get-part if_any m n ∙ ap (option_and_then if_any) none)
      ∙ ap (λ xs. put n (if_any xs) (lists_of m)) (sym (ap (drop 1) (list-at m n ∙ ap (λ o. unwrap_or o []) none)))

  pub no_first : (m : Map A) (n : ℕ) → get m n ≡ None → None ≡ slice_get (list_at (lists_of m) n) 0
  no_first m n none = sym (ap (λ xs. slice_get xs 0) (list-at m n ∙ ap (λ o. unwrap_or o []) none))

  front : (o : Option A) (queue rest : List A) → queue ≡ option_to_list o ++ rest → MatchOption o ((queue ≡ []) × (rest ≡ [])) (λ _. length rest + 1 ≡ length queue) → o ≡ slice_get queue 0
  front None queue rest e cases = sym (ap (λ xs. slice_get xs 0) cases.0)
  front (Some x) queue rest e cases = sym (ap (λ xs. slice_get xs 0) e)

  pub is_first : (m : Map A) (n : ℕ) (o : Option A) (queue rest : List A) → get m n ≡ Some queue → queue ≡ option_to_list o ++ rest → MatchOption o ((queue ≡ []) × (rest ≡ [])) (λ _. length rest + 1 ≡ length queue) → o ≡ slice_get (list_at (lists_of m) n) 0
  is_first m n o queue rest at e cases = front o queue rest e cases ∙ sym (ap (λ xs. slice_get xs 0) (list-at m n ∙ ap (λ x. unwrap_or x []) at))

  -- no list is longer than k
  abbrev pub AreBelow : Map A → ℕ → Type 0
  AreBelow m k = (n : ℕ) (xs : List A) → get m n ≡ Some xs → length xs ≤ k

  below_one : (m after : Map A) (n k j : ℕ) → k ≤ j → ((q : ℕ) → (q == n) ≡ false → get after q ≡ get m q) → ((xs : List A) → get after n ≡ Some xs → length xs ≤ j) → AreBelow m k → AreBelow after j
  below_one m after n k j le others here below q xs at = elim (both (q == n)) [
    | inl e ↦ here xs (ap (get after) (sym (eqb-true q n e)) ∙ at)
    | inr e ↦ let few = below q xs (sym (others q e) ∙ at) in omega (arith, few, le)
  ]

  none_Some : (xs : List A) → None ≡ Some xs → ⊥
  none_Some xs e = subst T (sym (ap is_some e)) tt

  out_others : (m : Map A) (n q : ℕ) → (q == n) ≡ false → get (remove m n) q ≡ get m q
  out_others m n q e = out_at m n q ∙ ap (λ b. cond b None (get m q)) e

  put_others : (m : Map A) (n q : ℕ) (xs : List A) → (q == n) ≡ false → get (insert m n xs) q ≡ get m q
  put_others m n q xs e = put_at m n xs q ∙ ap (λ b. cond b (Some xs) (get m q)) e

  out_here : (m : Map A) (n : ℕ) → get (remove m n) n ≡ None
  out_here m n = out_at m n n ∙ ap (λ b. cond b None (get m n)) (eq-eqb n n refl)

  put_here : (m : Map A) (n : ℕ) (xs : List A) → get (insert m n xs) n ≡ Some xs
  put_here m n xs = put_at m n xs n ∙ ap (λ b. cond b (Some xs) (get m n)) (eq-eqb n n refl)

  pub absent_out : (m after : Map A) (n : ℕ) → after ≡ remove m n → get after n ≡ None
  absent_out m after n e = ap (λ x. get x n) e ∙ out_here m n

  pub below_empty : (m : Map A) (k : ℕ) → m ≡ empty → AreBelow m k
  below_empty m k e n xs at = absurd (none_Some xs (sym (ap (λ x. get x n) e ∙ get-empty nat_cmp n) ∙ at))

  pub below_out : (m after : Map A) (n k : ℕ) → after ≡ remove m n → AreBelow m k → AreBelow after k
  below_out m after n k e below = below_one m after n k k (omega arith) (λ q other. ap (λ x. get x q) e ∙ out_others m n q other) (λ xs at. absurd (none_Some xs (sym (absent_out m after n e) ∙ at))) below

  pub below_put : (m after : Map A) (n k j : ℕ) (xs : List A) → k ≤ j → length xs ≤ j → after ≡ insert m n xs → AreBelow m k → AreBelow after j
  below_put m after n k j xs le few e below = below_one m after n k j le (λ q other. ap (λ x. get x q) e ∙ put_others m n q xs other) (λ ys at. let same = same_Some _ _ (sym at ∙ ap (λ x. get x n) e ∙ put_here m n xs) in subst (λ zs. length zs ≤ j) (sym same) few) below

  was : (o : Option (List A)) (queue : List A) (k : ℕ) → queue ≡ unwrap_or o [] → ((xs : List A) → o ≡ Some xs → length xs ≤ k) → length queue ≤ k
  was None queue k is below = let none = ap length is in omega (arith, none)
  was (Some xs) queue k is below = let few = below xs refl in let same = ap length is in omega (arith, few, same)

  pub below_was : (m : Map A) (n k : ℕ) (queue : List A) → queue ≡ unwrap_or (get m n) [] → AreBelow m k → length queue ≤ k
  below_was m n k queue is below = was (get m n) queue k is (λ xs at. below n xs at)

  -- a number's list is exchanged for an empty one
  exchanged_is : (m mid : Map A) (n : ℕ) (queue : List A) → get m n ≡ Some queue → mid ≡ cond (is_some (get m n)) (insert m n []) m → mid ≡ insert m n []
  exchanged_is m mid n queue at e = e ∙ ap (λ o. cond (is_some o) (insert m n []) m) at

  pub still_there : (m mid : Map A) (n : ℕ) (queue : List A) → get m n ≡ Some queue → mid ≡ cond (is_some (get m n)) (insert m n []) m → is_some (get mid n) ≡ true
  still_there m mid n queue at e = ap is_some (ap (λ x. get x n) (exchanged_is m mid n queue at e) ∙ put_here m n [])

  pub below_exchanged : (m mid : Map A) (n k : ℕ) (queue : List A) → get m n ≡ Some queue → mid ≡ cond (is_some (get m n)) (insert m n []) m → AreBelow m k → AreBelow mid k
  below_exchanged m mid n k queue at e below = below_put m mid n k k [] (omega arith) (omega arith) (exchanged_is m mid n queue at e) below
