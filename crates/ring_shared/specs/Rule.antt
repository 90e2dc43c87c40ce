-- The rule of the ring. Word 0 is the tail and word 1 the head.
use Rattle.std.specs.Prelude.{◌≡◌, ℕ, ◌+◌, ◌<◌, ◌≤◌, Bool, true, false, List, [], ◌++◌, length, Some, None, Option, slice_index}
use mathlib.Core.Option.{some}
use lib.ListN.{get_elem?}
use Rattle.atomic_table.specs.Table.{State}
use Rattle.ring_core.specs.Positions.{position_at}
use Rattle.ring_shared.specs.Sizes.{IsSize, slot_at}
use Rattle.ring_shared.specs.declared.view.SeatView.{SeatView}

-- the seat that makes a ring has both parts, and holds no slot yet
abbrev pub first_view : {T : Type 0} → ℕ → ℕ → SeatView T
first_view start c = record { sends = true; takes = true; start = start; capacity = c; published = []; limit = 0; seen = []; head = 0 }

-- a view with no part, whose seat is done with
abbrev pub spent_view : {T : Type 0} → SeatView T
spent_view = record { sends = false; takes = false; start = 0; capacity = 0; published = []; limit = 0; seen = []; head = 0 }

-- the taker's part goes to a new seat: what is left, and what the new seat has
abbrev pub without_taker : {T : Type 0} → SeatView T → SeatView T
without_taker v = record v { takes = false }

abbrev pub without_sender : {T : Type 0} → SeatView T → SeatView T
without_sender v = record v { sends = false }

-- the sender's seat, which knew v, takes in the taker's part of w
abbrev pub joined : {T : Type 0} → SeatView T → SeatView T → SeatView T
joined v w = record w { sends = true; published = v.published; limit = v.limit }

-- how a ring stands: which seats have the two parts, and what each part knows
pub record RingParts (T : Type 0) : Type 0 where
  -- the position from which places are counted
  pub start : ℕ
  pub capacity : ℕ
  -- the numbers of the two seats
  pub sender : ℕ
  pub taker : ℕ
  -- what was published, and the place up to which the sender gained slots
  pub published : List T
  pub limit : ℕ
  -- what the taker saw, and how many slots it gave back
  pub seen : List T
  pub head : ℕ

module _ {T : Type 0} where
  -- a part that the seat j has by its view v is that of the ring, so no other seat has it
  pub record AgreesWith (d : RingParts T) (j : ℕ) (v : SeatView T) : Type 0 where
    pub as_sender : v.sends ≡ true → (j ≡ d.sender) × (v.start ≡ d.start) × (v.capacity ≡ d.capacity) × (v.published ≡ d.published) × (v.limit ≡ d.limit)
    pub as_taker : v.takes ≡ true → (j ≡ d.taker) × (v.start ≡ d.start) × (v.capacity ≡ d.capacity) × (v.seen ≡ d.seen) × (v.head ≡ d.head)

  -- a seat j is there, and has this part
  abbrev pub HasPart : (SeatView T → Bool) → List (SeatView T) → ℕ → Type 0
  HasPart has views j = (v : SeatView T) × (get_elem? views j ≡ some v) × (has v ≡ true)

  -- what is given back, what the taker saw, what is published and what the sender gained, which goes no further than one capacity past the first, lie in this order
  pub record PartsInOrder (d : RingParts T) : Type 0 where
    pub taken : d.head ≤ length d.seen
    pub seen : length d.seen ≤ length d.published
    pub published : length d.published ≤ d.limit
    pub gained : d.limit ≤ d.head + d.capacity

  -- what holds of the words, of the slots that are at home and of the views of all seats
  pub record RuleHolds (s : State (Option T) (SeatView T)) : Type 0 where
    pub parts : RingParts T
    pub size : IsSize parts.capacity
    pub count : length s.homes ≡ parts.capacity
    pub word_count : length s.words ≡ 2
    pub tail_word : slice_index s.words 0 ≡ position_at parts.start (length parts.published)
    pub head_word : slice_index s.words 1 ≡ position_at parts.start parts.head
    pub order : PartsInOrder parts
    pub seats : (j : ℕ) (v : SeatView T) → get_elem? s.views j ≡ some v → AgreesWith parts j v
    -- there is a seat with each part
    pub a_sender : HasPart (λ v. v.sends) s.views parts.sender
    pub a_taker : HasPart (λ v. v.takes) s.views parts.taker
    -- each published item that the taker hasn't seen is at home, in the slot of its place
    pub full : (p : ℕ) (x : T) → length parts.seen ≤ p → get_elem? parts.published p ≡ some x → get_elem? s.homes (slot_at parts.capacity parts.start p) ≡ some (some (Some x))
    -- each slot that was given back and that the sender hasn't seen so is at home and empty
    pub empty : (p : ℕ) → parts.limit ≤ p → p < parts.head + parts.capacity → get_elem? s.homes (slot_at parts.capacity parts.start p) ≡ some (some None)
    -- what was seen is a front of what was published
    pub prefix : (rest : List T) × (parts.published ≡ parts.seen ++ rest)
