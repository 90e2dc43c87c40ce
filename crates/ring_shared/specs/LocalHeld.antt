-- A ring in one thread, by what it holds, in the words of `ring_core`.
use Rattle.std.specs.Prelude.{ℕ, ◌-◌, length, take, drop, Option}
use Rattle.atomic_table.specs.Table.{Me}
use Rattle.ring_core.specs.Positions.{gap}
use Rattle.ring_core.specs.Held.{Held}
use Rattle.ring_shared.specs.declared.view.SeatView.{SeatView}
use Rattle.ring_shared.specs.declared.local_ring.LocalRing.{LocalRing}
use Rattle.ring_shared.specs.HeldSlots.{items_of}

module _ {T : Type 0} where
  -- the values out with the seat are first those that were seen and not taken, and then those that were put and not published
  abbrev pub local_held_by : Me (Option T) (SeatView T) → ℕ → ℕ → ℕ → ℕ → ℕ → ℕ → Held T
  local_held_by m capacity next_put head_seen next_take head tail_seen = record {
    capacity = capacity;
    published = drop (length m.0.seen - length (take (gap next_take tail_seen) (items_of m.1))) m.0.published;
    pushed = drop (gap next_take tail_seen) (items_of m.1);
    taken = gap head next_take;
    spare = capacity - gap head_seen next_put;
    waiting = gap next_take tail_seen;
    put_place = next_put;
    take_place = next_take;
  }

  unfoldable pub local_held : LocalRing T → Held T
  local_held ring = local_held_by ring.seat.me ring.capacity ring.next_put ring.head_seen ring.next_take ring.head ring.tail_seen
