-- The slots that a seat holds, each with its value, the one that was taken last in front.
use Rattle.std.specs.Prelude.{ℕ, zero, suc, List, [], ◌∷◌, Option, Some, None}
use Rattle.atomic_table.specs.Table.{turned}
use Rattle.ring_shared.specs.Sizes.{slot_at}

-- the slots of the places from p on, with these values
abbrev pub slots_from : {S : Type 0} → ℕ → ℕ → ℕ → List S → List (ℕ × S)
slots_from c start p [] = []
slots_from c start p (y ∷ ys) = (slot_at c start p, y) ∷ slots_from c start (suc p) ys

-- the items in them
abbrev pub items_of : {T : Type 0} → List (ℕ × Option T) → List T
items_of [] = []
items_of ((k, None) ∷ xs) = items_of xs
items_of ((k, Some x) ∷ xs) = x ∷ items_of xs

-- the slots that are empty
abbrev pub empty_slots : {T : Type 0} → List (ℕ × Option T) → List (ℕ × Option T)
empty_slots [] = []
empty_slots ((k, None) ∷ xs) = (k, None) ∷ empty_slots xs
empty_slots ((k, Some x) ∷ xs) = empty_slots xs

-- the slots that are full
abbrev pub full_slots : {T : Type 0} → List (ℕ × Option T) → List (ℕ × Option T)
full_slots [] = []
full_slots ((k, None) ∷ xs) = full_slots xs
full_slots ((k, Some x) ∷ xs) = (k, Some x) ∷ full_slots xs

-- so many slots go from the front to behind, one by one
abbrev pub turned_times : {S : Type 0} → ℕ → List (ℕ × S) → List (ℕ × S)
turned_times zero xs = xs
turned_times (suc n) xs = turned_times n (turned xs)
