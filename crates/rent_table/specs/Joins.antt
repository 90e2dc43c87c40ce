-- The handles of a table, and the operations that are joined to them.
use Rattle.std.specs.Prelude.{◌≡◌, ℕ, Bool, true, false, if◌then◌else◌, List, [], ◌∷◌, ◌++◌, is_some, unwrap_or, slice_get}
use Rattle.std.specs.List.Sorted.{IsStrictlyIncreasing}
use Rattle.rent_table.specs.Lists.{has, with_list}
use Rattle.rent_table.specs.Ops.{Ops, flight_at, joined_to}

-- Of the handles it is known whether each is canceled.

abbrev pub knows_handle : List Bool → ℕ → Bool
knows_handle handles h = is_some (slice_get handles h)

abbrev pub is_canceled : List Bool → ℕ → Bool
is_canceled handles h = unwrap_or (slice_get handles h) false

-- the list with the handle at its end, unless it has it already
abbrev pub with_handle : ℕ → List ℕ → List ℕ
with_handle h hs = if has h hs then hs else hs ++ h ∷ []

-- number n, if it is in flight, is joined to handle h from now on
abbrev pub joined : ℕ → ℕ → Ops → Ops
joined h n ops = if is_some (flight_at ops n) then record ops { joins = with_list n (with_handle h (joined_to ops n)) ops.joins } else ops

abbrev pub is_joined : Ops → ℕ → ℕ → Bool
is_joined ops h n = has h (joined_to ops n)

-- The numbers that are joined to handle h are these. They are in flight, and rise.
pub record AreJoined (ops : Ops) (h : ℕ) (ns : List ℕ) : Type 0 where
  pub exactly : (n : ℕ) → has n ns ≡ is_joined ops h n
  pub in_flight : (n : ℕ) → has n ns ≡ true → is_some (flight_at ops n) ≡ true
  pub rising : IsStrictlyIncreasing ns
