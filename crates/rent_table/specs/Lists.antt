-- Lists of numbers, and lists by number: there a number has an entry where its list isn't empty.
use Rattle.std.specs.Prelude.{ℕ, Bool, false, ◌||◌, ◌==◌, List, [], ◌∷◌, Option, Some, None, unwrap_or}
use Rattle.std.specs.Ordering.{nat_cmp}
use Rattle.std.specs.FinMap.{FinMap, get}
use Rattle.rent_table.specs.NumberedSlab.{put}

abbrev pub has : ℕ → List ℕ → Bool
has n [] = false
has n (m ∷ ms) = (n == m) || has n ms

module _ {A : Type 0} where
  abbrev pub if_any : List A → Option (List A)
  if_any [] = None
  if_any (x ∷ xs) = Some (x ∷ xs)

  abbrev pub list_at : FinMap nat_cmp (List A) → ℕ → List A
  list_at m n = unwrap_or (get m n) []

  -- the list of a number is this one from now on
  abbrev pub with_list : ℕ → List A → FinMap nat_cmp (List A) → FinMap nat_cmp (List A)
  with_list n xs m = put n (if_any xs) m
