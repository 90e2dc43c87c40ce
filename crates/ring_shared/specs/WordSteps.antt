-- What the steps of the two ends tell.
use Rattle.std.specs.Prelude.{◌≡◌, ℕ, ◌+◌, ◌-◌, ◌≤◌, true, take, drop, List, ◌++◌, length, map, replicate, Option, Some, None}
use Rattle.atomic_table.specs.Table.{Me}
use Rattle.ring_core.specs.Positions.{position_at, gap}
use Rattle.ring_shared.specs.declared.view.SeatView.{SeatView}
use Rattle.ring_shared.specs.HeldSlots.{slots_from, items_of, empty_slots, full_slots}

-- how far the position new lies past that of the place p
abbrev pub distance : ℕ → ℕ → ℕ → ℕ
distance new start p = gap (position_at start p) new

module _ {T : Type 0} where
  -- the full slots go home, and their values are published
  abbrev pub stored_tail : Me (Option T) (SeatView T) → Me (Option T) (SeatView T) → Type 0
  stored_tail m k = k ≡ (record m.0 { published = m.0.published ++ items_of m.1 }, empty_slots m.1)

  -- the slots that were given back since then are gained
  abbrev pub loaded_head : Me (Option T) (SeatView T) → ℕ → Me (Option T) (SeatView T) → Type 0
  loaded_head m r k = (h : ℕ) × (r ≡ position_at m.0.start h) × (m.0.limit ≤ h + m.0.capacity) × (h ≤ length m.0.published)
      × (k ≡ (record m.0 { limit = h + m.0.capacity }, slots_from m.0.capacity m.0.start m.0.limit (replicate (h + m.0.capacity - m.0.limit) None) ++ m.1))
      × (m.0.takes ≡ true → h ≡ m.0.head)

  -- the empty slots go home
  abbrev pub stored_head : Me (Option T) (SeatView T) → Me (Option T) (SeatView T) → Type 0
  stored_head m k = k ≡ (record m.0 { head = m.0.head + length (empty_slots m.1) }, full_slots m.1)

  -- what was published is gained
  abbrev pub loaded_tail : Me (Option T) (SeatView T) → ℕ → Me (Option T) (SeatView T) → Type 0
  loaded_tail m r k = (xs : List T) × (r ≡ position_at m.0.start (length (m.0.seen ++ xs))) × (length (m.0.seen ++ xs) ≤ m.0.head + m.0.capacity)
      × (k ≡ (record m.0 { seen = m.0.seen ++ xs }, slots_from m.0.capacity m.0.start (length m.0.seen) (map Some xs) ++ m.1))
      × (m.0.sends ≡ true → m.0.seen ++ xs ≡ m.0.published)

  -- what was seen is a front of what was published, the tail is the end of that, and no slot was gained that isn't given back
  abbrev pub compared : Me (Option T) (SeatView T) → ℕ → Me (Option T) (SeatView T) → Type 0
  compared m r k = (k ≡ m) × (r ≡ position_at m.0.start (length m.0.published)) × (length m.0.published ≤ m.0.head + m.0.capacity) × (m.0.limit ≤ m.0.head + m.0.capacity) × ((rest : List T) × (m.0.published ≡ m.0.seen ++ rest))

  -- as many slots as the tail goes on go home, and their values are published
  abbrev pub stored_local_tail : ℕ → Me (Option T) (SeatView T) → Me (Option T) (SeatView T) → Type 0
  stored_local_tail new m k = k ≡ (record m.0 { published = m.0.published ++ items_of (take (distance new m.0.start (length m.0.published)) m.1) }, drop (distance new m.0.start (length m.0.published)) m.1)

  -- as many slots as the head goes on go home
  abbrev pub stored_local_head : ℕ → Me (Option T) (SeatView T) → Me (Option T) (SeatView T) → Type 0
  stored_local_head new m k = k ≡ (record m.0 { head = m.0.head + distance new m.0.start m.0.head }, drop (distance new m.0.start m.0.head) m.1)
