-- The marks of the numbers below a limit, and which of these numbers have a value.
use Rattle.std.specs.Prelude.{◌≡◌, ℕ, ◌<◌, ◌≤◌, Bool, false, List, length, is_some}
use Rattle.std.specs.Ordering.{nat_cmp}
use Rattle.std.specs.FinMap.{FinMap, get, len}
use Rattle.free_numbers.specs.Marks.{is_taken}

-- each number below this one is marked exactly where it has a value
abbrev pub AreMarkedBelow : {T : Type 0} → ℕ → FinMap nat_cmp T → List Bool → Type 0
AreMarkedBelow from entries marks = (n : ℕ) → n < from → is_taken marks n ≡ is_some (get entries n)

-- no number from this one on is marked
abbrev pub AreUnmarkedFrom : ℕ → List Bool → Type 0
AreUnmarkedFrom from marks = (n : ℕ) → from ≤ n → n < length marks → is_taken marks n ≡ false

-- The marks are right below the limit, and where there is a value, there are fewer values than marks.
pub record AreMarked {T : Type 0} (entries : FinMap nat_cmp T) (marks : List Bool) : Type 0 where
  pub right : AreMarkedBelow (length marks) entries marks
  pub few : 0 < len entries → len entries < length marks
