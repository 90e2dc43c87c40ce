-- Values by number, of which those of small numbers stand in a list.
use Rattle.std.specs.Prelude.{◌≡◌, ℕ, zero, suc, ◌<◌, List, length, slice_index, slice_index_or, Option, None}
use Rattle.std.specs.Ordering.{nat_cmp}
use Rattle.std.specs.FinMap.{FinMap, get, len}
use Rattle.rent_table.specs.NumberedSlab.{put}

module _ {T : Type 0} where
  -- what stands in a number's place in the list
  abbrev pub near_value : List (Option T) → ℕ → Option T
  near_value near n = slice_index_or near n None

  -- the first so many numbers have what stands in their places, and the others what they have in the map
  abbrev pub over : ℕ → List (Option T) → FinMap nat_cmp T → FinMap nat_cmp T
  over zero near far = far
  over (suc n) near far = put n (near_value near n) (over n near far)

  abbrev pub all_values : List (Option T) → FinMap nat_cmp T → FinMap nat_cmp T
  all_values near far = over (length near) near far

  -- the value of a number, wherever it stands
  abbrev pub value_at : List (Option T) → FinMap nat_cmp T → ℕ → Option T
  value_at near far n = get (all_values near far) n

  -- no number with a place in the list has a value elsewhere
  abbrev pub AreApart : List (Option T) → FinMap nat_cmp T → Type 0
  AreApart near far = (n : ℕ) → n < length near → get far n ≡ None

  -- values that stand in one place each, and how many they are
  pub record IsSpread (near : List (Option T)) (far : FinMap nat_cmp T) (count : ℕ) : Type 0 where
    pub apart : AreApart near far
    pub counted : count ≡ len (all_values near far)

-- each number of the list is below this one
abbrev pub AreBelow : ℕ → List ℕ → Type 0
AreBelow limit numbers = (k : ℕ) → k < length numbers → slice_index numbers k < limit
