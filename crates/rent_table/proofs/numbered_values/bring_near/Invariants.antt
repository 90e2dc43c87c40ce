use Rattle.std.proofs.Common.{◌≡◌, ◌≤◌, length, vec_capacity}
use Rattle.rent_table.specs.NumberedValues.{all_values, AreApart}
use Rattle.rent_table.proofs.numbered_values.bring_near.Given as goal

abbrev pub invariant-loop-number : goal.invariant-loop-number
invariant-loop-number g l = record {
  longer : length l.near.items ≡ l.number;
  capacity : vec_capacity l.near ≡ vec_capacity l.fn.near;
  values : all_values l.near.items l.far.entries ≡ all_values l.fn.near.items l.fn.far.entries;
  apart : AreApart l.near.items l.far.entries;
  spare : l.fn.far.spare ≤ l.far.spare;
}
