use Rattle.std.proofs.Common.{◌≡◌}
use Rattle.ring_shared.specs.HeldSlots.{turned_times}
use Rattle.ring_shared.proofs.turns.turn_slots.Given as goal

abbrev pub invariant-loop-left : goal.invariant-loop-left
invariant-loop-left g l = record {
  table : l.seat.table_id ≡ l.initial.seat.table_id;
  id : l.seat.id ≡ l.initial.seat.id;
  view : l.seat.me.0 ≡ l.initial.seat.me.0;
  held : turned_times l.left l.seat.me.1 ≡ turned_times l.initial.left l.initial.seat.me.1;
}

abbrev pub decreases-loop-left : goal.decreases-loop-left
decreases-loop-left g l = l.left
