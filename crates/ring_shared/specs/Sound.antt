-- What the ends keep between two calls.
use Rattle.std.specs.Prelude.{◌≡◌, ℕ, ◌+◌, ◌-◌, ◌≤◌, true, List, ◌++◌, length, map, replicate, drop, Option, Some, None}
use Rattle.atomic_table.specs.Table.{Me}
use Rattle.ring_core.specs.Positions.{position_at}
use Rattle.ring_shared.specs.Sizes.{IsSize}
use Rattle.ring_shared.specs.declared.view.SeatView.{SeatView}
use Rattle.ring_shared.specs.HeldSlots.{slots_from, items_of}

module _ {T : Type 0} where
  -- the sender's end, whose seat knows v and holds the slots h; x is what was put and not published. The numbers behind are those that stand in the end: how
  -- many items fit, and the positions of the next put, of the published tail and of the head that was loaded last
  pub record SenderHolds (v : SeatView T) (x : List T) (h : List (ℕ × Option T)) (capacity next_put tail head_seen : ℕ) : Type 0 where
    pub size : IsSize capacity
    pub part : v.sends ≡ true
    pub same : v.capacity ≡ capacity
    pub loaded : capacity ≤ v.limit
    pub close : v.limit ≤ length v.published + capacity
    pub fits : length v.published + length x ≤ v.limit
    pub next_is : next_put ≡ position_at v.start (length v.published + length x)
    pub tail_is : tail ≡ position_at v.start (length v.published)
    pub head_is : head_seen ≡ position_at v.start (v.limit - capacity)
    pub held : h ≡ slots_from capacity v.start (length v.published + length x) (replicate (v.limit - (length v.published + length x)) None) ++ slots_from capacity v.start (length v.published) (map Some x)

  abbrev pub SenderIsSound : Me (Option T) (SeatView T) → ℕ → ℕ → ℕ → ℕ → Type 0
  SenderIsSound m capacity next_put tail head_seen = SenderHolds m.0 (items_of m.1) m.1 capacity next_put tail head_seen

  -- the taker's end alike; x is what was seen and not taken. The positions are those of the next take, of the published head and of the tail that was loaded last
  pub record TakerHolds (v : SeatView T) (x : List T) (h : List (ℕ × Option T)) (capacity next_take head tail_seen : ℕ) : Type 0 where
    pub size : IsSize capacity
    pub part : v.takes ≡ true
    pub same : v.capacity ≡ capacity
    pub within : v.head + length x ≤ length v.seen
    pub close : length v.seen ≤ v.head + capacity
    pub next_is : next_take ≡ position_at v.start (length v.seen - length x)
    pub head_is : head ≡ position_at v.start v.head
    pub tail_is : tail_seen ≡ position_at v.start (length v.seen)
    pub ahead : drop (length v.seen - length x) v.seen ≡ x
    pub held : h ≡ slots_from capacity v.start (length v.seen - length x) (map Some x) ++ slots_from capacity v.start v.head (replicate (length v.seen - length x - v.head) None)

  abbrev pub TakerIsSound : Me (Option T) (SeatView T) → ℕ → ℕ → ℕ → ℕ → Type 0
  TakerIsSound m capacity next_take head tail_seen = TakerHolds m.0 (items_of m.1) m.1 capacity next_take head tail_seen
