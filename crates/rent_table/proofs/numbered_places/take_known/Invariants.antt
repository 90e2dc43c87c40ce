use Rattle.std.proofs.Common.{◌≡◌, length}
use Rattle.rent_table.specs.NumberedPlaces.{AreMarkedBelow, AreUnmarkedFrom}
use Rattle.rent_table.proofs.numbered_places.take_known.Given as goal

abbrev pub invariant-loop-number : goal.invariant-loop-number
invariant-loop-number g l = record {
  below : AreMarkedBelow l.number l.values.entries l.numbers;
  above : AreUnmarkedFrom l.number l.numbers;
  limit : length l.numbers ≡ length l.fn.numbers;
}
