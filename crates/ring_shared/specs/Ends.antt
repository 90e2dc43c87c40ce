-- What a caller sees of an end: its own lists, and the places that it knows, which are counted from the start and don't wrap.
use Rattle.std.specs.Prelude.{take, ◌≡◌, ℕ, ◌-◌, List, ◌++◌, length, Option}
use Rattle.atomic_table.specs.declared.shared.Seat.{Seat}
use Rattle.ring_shared.specs.declared.view.SeatView.{SeatView}
use Rattle.ring_shared.specs.declared.ring.SharedRing.{SharedRing}
use Rattle.ring_shared.specs.declared.ring.SendEnd.{SendEnd}
use Rattle.ring_shared.specs.declared.ring.TakeEnd.{TakeEnd}
use Rattle.ring_shared.specs.HeldSlots.{items_of}

module _ {T : Type 0} where
  -- the seat, which an end has, is one of this ring's table
  abbrev pub IsSeatOf : SharedRing T → Seat (Option T) (SeatView T) → Type 0
  IsSeatOf ring seat = seat.table_id ≡ ring.table.shared.table_id

  -- all that was put, the unpublished too
  abbrev pub sent : SendEnd T → List T
  sent e = e.seat.me.0.published ++ items_of e.seat.me.1

  -- how many of these were published
  abbrev pub published : SendEnd T → ℕ
  published e = length e.seat.me.0.published

  -- and which
  abbrev pub published_items : SendEnd T → List T
  published_items e = e.seat.me.0.published

  -- how many items fit
  abbrev pub send_capacity : SendEnd T → ℕ
  send_capacity e = e.capacity

  -- how many slots were given back, as last loaded
  abbrev pub head_loaded : SendEnd T → ℕ
  head_loaded e = e.seat.me.0.limit - e.capacity

  -- the position of the next put, which wraps
  abbrev pub put_place : SendEnd T → ℕ
  put_place e = e.next_put

  -- the same ring, and as many items fit
  abbrev pub SameSender : SendEnd T → SendEnd T → Type 0
  SameSender old new = (new.seat.table_id ≡ old.seat.table_id) × (new.capacity ≡ old.capacity)

  -- all that was seen: what was published when the tail was loaded last
  abbrev pub seen : TakeEnd T → List T
  seen e = e.seat.me.0.seen

  -- how many items were taken
  abbrev pub taken : TakeEnd T → ℕ
  taken e = length e.seat.me.0.seen - length (items_of e.seat.me.1)

  -- the items that were taken: the first that were seen
  abbrev pub taken_items : TakeEnd T → List T
  taken_items e = take (taken e) (seen e)

  -- the position of the next take, which wraps
  abbrev pub take_place : TakeEnd T → ℕ
  take_place e = e.next_take

  -- how many slots were given back
  abbrev pub head_published : TakeEnd T → ℕ
  head_published e = e.seat.me.0.head

  abbrev pub take_capacity : TakeEnd T → ℕ
  take_capacity e = e.capacity

  abbrev pub SameTaker : TakeEnd T → TakeEnd T → Type 0
  SameTaker old new = (new.seat.table_id ≡ old.seat.table_id) × (new.capacity ≡ old.capacity)
