use Rattle.std.proofs.Common.{◌≡◌, ℕ, ◌&&◌, is_some, ltb}
use Rattle.std.specs.List.Sorted.{IsStrictlyIncreasing}
use Rattle.rent_table.specs.Lists.{has}
use Rattle.rent_table.specs.NumberedValues.{near_value, AreBelow}
use Rattle.rent_table.proofs.numbered_values.near_numbers.Given as goal

abbrev pub invariant-loop-number : goal.invariant-loop-number
invariant-loop-number g l = record {
  each : (n : ℕ) → has n l.numbers.items ≡ (ltb n l.number && is_some (near_value l.near n));
  rising : IsStrictlyIncreasing l.numbers.items;
  below : AreBelow l.number l.numbers.items;
}
