-- How far the quiet ends of what hangs on a number have come.
use Rattle.std.specs.Prelude.{◌≡◌, ℕ, ◌+◌, ◌||◌, ◌==◌, Bool, true, List, length, Some}
use Rattle.std.specs.Ordering.{nat_cmp}
use Rattle.std.specs.FinMap.{FinMap, get, len}
use Rattle.rent_table.specs.Lists.{has}
use Rattle.rent_table.specs.Ops.{Ops, next_at, all_quietly_resolved, hangs}

-- the number is u, or one of those that are gone
abbrev pub is_resolved : ℕ → List ℕ → ℕ → Bool
is_resolved u gone n = (n == u) || has n gone

-- Number u was resolved at `start`, and those that are gone were resolved quietly since. `work` has those of whom it isn't
-- known yet that none in flight waits for them.
pub record QuietlyEnding (u : ℕ) (start now : Ops) (work : List ℕ) : Type 0 where
  pub gone : List ℕ
  pub quietly_resolved : now ≡ all_quietly_resolved gone start
  pub count : length gone + len now.in_flight ≡ len start.in_flight
  pub hang : (n : ℕ) → has n gone ≡ true → hangs (length gone) start u n ≡ true
  pub listed : (n : ℕ) → has n work ≡ true → is_resolved u gone n ≡ true
  pub open_ones : (n m : ℕ) → next_at now n ≡ Some m → is_resolved u gone m ≡ true → has m work ≡ true

-- who waits for whom is what the operations in flight say
abbrev pub AreMatched : Ops → FinMap nat_cmp ℕ → Type 0
AreMatched ops next = (n : ℕ) → get next n ≡ next_at ops n
