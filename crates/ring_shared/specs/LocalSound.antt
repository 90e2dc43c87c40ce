-- What a ring with both ends in one thread keeps between two calls: its one seat has both parts.
use Rattle.std.specs.Prelude.{◌≡◌, ℕ, ◌+◌, ◌-◌, ◌≤◌, true, List, ◌++◌, length, map, replicate, take, drop, Option, Some, None}
use Rattle.atomic_table.specs.Table.{Me}
use Rattle.ring_core.specs.Positions.{position_at, gap}
use Rattle.ring_shared.specs.Sizes.{IsSize}
use Rattle.ring_shared.specs.declared.view.SeatView.{SeatView}
use Rattle.ring_shared.specs.HeldSlots.{slots_from, items_of}

module _ {T : Type 0} where
  -- the seat knows v and holds the slots h; x is what was put and not published, y what was seen and not taken. The numbers behind are those that stand in the ring
  pub record LocalHolds (v : SeatView T) (x y : List T) (h : List (ℕ × Option T)) (c next tail head_seen taken head tail_seen : ℕ) : Type 0 where
    pub size : IsSize c
    pub sends : v.sends ≡ true
    pub takes : v.takes ≡ true
    pub same : v.capacity ≡ c
    pub inside : v.head + length y ≤ length v.seen
    pub shown : length v.seen ≤ length v.published
    pub prefix : take (length v.seen) v.published ≡ v.seen
    pub loaded : c ≤ v.limit
    pub fits : length v.published + length x ≤ v.limit
    pub gained : v.limit ≤ v.head + c
    pub next_is : next ≡ position_at v.start (length v.published + length x)
    pub tail_is : tail ≡ position_at v.start (length v.published)
    pub head_seen_is : head_seen ≡ position_at v.start (v.limit - c)
    pub taken_is : taken ≡ position_at v.start (length v.seen - length y)
    pub head_is : head ≡ position_at v.start v.head
    pub tail_seen_is : tail_seen ≡ position_at v.start (length v.seen)
    pub ahead : drop (length v.seen - length y) v.seen ≡ y
    pub held : h ≡ (slots_from c v.start v.head (replicate (length v.seen - length y - v.head) None) ++ slots_from c v.start (length v.seen - length y) (map Some y))
        ++ (slots_from c v.start (length v.published) (map Some x) ++ slots_from c v.start (length v.published + length x) (replicate (v.limit - (length v.published + length x)) None))

  abbrev pub LocalIsSound : Me (Option T) (SeatView T) → ℕ → ℕ → ℕ → ℕ → ℕ → ℕ → ℕ → Type 0
  LocalIsSound m c next tail head_seen taken head tail_seen = LocalHolds m.0 (drop (gap taken tail_seen) (items_of m.1)) (take (gap taken tail_seen) (items_of m.1)) m.1 c next tail head_seen taken head tail_seen
