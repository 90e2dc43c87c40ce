-- The marks of the numbers below a limit, by number.
use Rattle.std.specs.Prelude.{◌≡◌, ℕ, ◌<◌, Bool, true, false, List, length, slice_index_or}

-- whether a number is taken; one from the limit on isn't, as far as the marks tell
abbrev pub is_taken : List Bool → ℕ → Bool
is_taken marks n = slice_index_or marks n false

-- a number isn't taken, and each one below it is
pub record IsLeastFree (marks : List Bool) (n : ℕ) : Type 0 where
  pub below : n < length marks
  pub free : is_taken marks n ≡ false
  pub least : (m : ℕ) → m < n → is_taken marks m ≡ true

-- each number below the limit is taken
abbrev pub AllTaken : List Bool → Type 0
AllTaken marks = (n : ℕ) → n < length marks → is_taken marks n ≡ true
