-- Where an end stands in a state of the core. Items stand there by numbers, whichever they are.
use Rattle.std.specs.Prelude.{◌≡◌, ℕ, length, map, take}
use Rattle.ring_core.specs.RingState.{RingState, PositionsInOrder}
use Rattle.ring_shared.specs.declared.ring.SendEnd.{SendEnd}
use Rattle.ring_shared.specs.declared.ring.TakeEnd.{TakeEnd}
use Rattle.ring_shared.specs.Ends.{sent, published, head_loaded, send_capacity, seen, taken, head_published, take_capacity}

module _ {T : Type 0} (number : T → ℕ) where
  -- the sender of this state stands where the end does
  pub record IsSenderIn (m : RingState) (e : SendEnd T) : Type 0 where
    pub capacity : m.capacity ≡ send_capacity e
    pub values : m.values ≡ map number (sent e)
    pub next_put : m.next_put ≡ length (sent e)
    pub tail : m.tail ≡ published e
    pub head_seen : m.head_seen ≡ head_loaded e

  -- and the taker
  pub record IsTakerIn (m : RingState) (e : TakeEnd T) : Type 0 where
    pub capacity : m.capacity ≡ take_capacity e
    pub values : take m.tail_seen m.values ≡ map number (seen e)
    pub tail_seen : m.tail_seen ≡ length (seen e)
    pub next_take : m.next_take ≡ taken e
    pub head : m.head ≡ head_published e

  -- the state that both ends tell together
  abbrev pub state_of : SendEnd T → TakeEnd T → RingState
  state_of s t = record {
    capacity = send_capacity s;
    values = map number (sent s);
    head_seen = head_loaded s;
    head = head_published t;
    next_take = taken t;
    tail_seen = length (seen t);
    tail = published s;
    next_put = length (sent s);
  }

  -- both ends stand in this state, and its positions lie in order
  pub record AreInState (m : RingState) (s : SendEnd T) (t : TakeEnd T) : Type 0 where
    pub sender : IsSenderIn m s
    pub taker : IsTakerIn m t
    pub order : PositionsInOrder m
