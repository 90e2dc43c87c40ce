-- A full turn by what was known before.
use Rattle.std.proofs.Common.{◌≡◌, ℕ, ◌≤◌, min, length, List, Option, Some, None, subst, arith}
use Rattle.uring_model.specs.Moves.{Move}
use Rattle.uring_model.specs.Schedule.{Machine, State, turn}
use Rattle.ring_traits.specs.Lists.{Lists, room_of}
use Rattle.std.specs.Prelude.{IfSome}
use Rattle.partner_traits.specs.Calls.{IsFullTurn}

lower : (few asked known taken : ℕ) → few ≤ known → asked ≡ known → min asked known ≤ taken → few ≤ taken
lower few asked known taken le all takes = omega (arith, le, all, takes)

-- no more was known to wait before, and as much room
pub full_before : {W : Type 0} (m : Machine W) (state : Option (State W)) (few asked known space room : ℕ) (before after : Option Lists) (ms : List Move) → few ≤ known → asked ≡ known → room ≡ space → after ≡ before → IsFullTurn m state (min asked known) room after ms → IsFullTurn m state few space before ms
full_before m None few asked known space room before after ms le all same at h = tt
full_before m (Some a) few asked known space room before after ms le all same at h = record {
  ts = h.ts;
  room = h.room;
  takes = lower few asked known (length h.ts) le all h.takes;
  fits = subst (λ n. n ≤ h.room) same h.fits;
  moves = h.moves;
  told = subst (λ o. IfSome o (λ l. turn m h.ts h.room a ≡ turn m h.ts (room_of l) a)) at h.told;
}
