-- What the operations of an engine keep.
use Rattle.std.specs.Prelude.{◌≡◌, ℕ, ◌≤◌, List, []}
use Rattle.std.specs.Ordering.{nat_cmp}
use Rattle.std.specs.FinMap.{FinMap, len}
use Rattle.rent_table.specs.Ops.{Ops}
use Rattle.rent_table.specs.Steps.{KeptSteps, AreOfAsked}
use Rattle.rent_table.specs.QuietEnds.{AreMatched}

-- No quiet end is pending, there is room to list all that is in flight, and no steps are kept that nobody may ask for.
pub record IsConsistent (ops : Ops) (next : FinMap nat_cmp ℕ) (work : List ℕ) (room : ℕ) (steps : KeptSteps) : Type 0 where
  pub matched : AreMatched ops next
  pub idle : work ≡ []
  pub fits : len ops.in_flight ≤ room
  pub asked : AreOfAsked ops steps
