-- The operations of an engine: those in flight, those that are resolved and unpolled, and the handles to which those in flight
-- are joined.
use Rattle.std.specs.Prelude.{◌≡◌, ℕ, zero, suc, Bool, true, false, not, ◌||◌, ◌==◌, if◌then◌else◌, cond, pos, Option, Some, None, is_some, List, [], ◌∷◌}
use Rattle.std.specs.Ordering.{nat_cmp}
use Rattle.std.specs.FinMap.{FinMap, empty, get, insert, remove, len, entries}
use Rattle.rent_table.specs.declared.ops.Flight.{Flight}
use Rattle.rent_table.specs.declared.ops.OpDone.{OpDone}
use Rattle.rent_table.specs.Lists.{list_at}

pub record Ops : Type 0 where
  pub in_flight : FinMap nat_cmp Flight
  pub done : FinMap nat_cmp OpDone
  pub joins : FinMap nat_cmp (List ℕ)

abbrev pub no_ops : Ops
no_ops = record { in_flight = empty; done = empty; joins = empty }

abbrev pub flight_at : Ops → ℕ → Option Flight
flight_at ops n = get ops.in_flight n

abbrev pub done_at : Ops → ℕ → Option OpDone
done_at ops n = get ops.done n

-- the handles to which a number is joined, in the order of joining
abbrev pub joined_to : Ops → ℕ → List ℕ
joined_to ops n = list_at ops.joins n

-- the number is in flight, or resolved and unpolled
abbrev pub knows : Ops → ℕ → Bool
knows ops n = is_some (flight_at ops n) || is_some (done_at ops n)

-- no number is both in flight and resolved
abbrev pub AreApart : Ops → Type 0
AreApart ops = (n : ℕ) → is_some (flight_at ops n) ≡ true → done_at ops n ≡ None

-- only what is in flight is joined to handles
abbrev pub AreJoinsOfFlights : Ops → Type 0
AreJoinsOfFlights ops = (n : ℕ) → flight_at ops n ≡ None → get ops.joins n ≡ None

abbrev pub started : ℕ → Bool → Option ℕ → Ops → Ops
started n lent next ops = record ops { in_flight = insert ops.in_flight n (record { lent = lent; forgotten = false; next = next }) }

-- an operation is resolved: one that was forgotten is gone, and another has its outcome; its joins end
abbrev pub resolved_as : Flight → ℕ → OpDone → Ops → Ops
resolved_as flight n outcome ops = record {
  in_flight = remove ops.in_flight n;
  done = if flight.forgotten then ops.done else insert ops.done n outcome;
  joins = remove ops.joins n;
}

-- what is resolved is taken out
abbrev pub taken_out : ℕ → Ops → Ops
taken_out n ops = if is_some (flight_at ops n) then ops else record ops { done = remove ops.done n }

-- what is in flight is marked, and what is resolved is dropped

abbrev pub forgotten_by : Option Flight → ℕ → Ops → Ops
forgotten_by None n ops = record ops { done = remove ops.done n }
forgotten_by (Some flight) n ops = record ops { in_flight = insert ops.in_flight n (record flight { forgotten = true }) }

abbrev pub forgotten : ℕ → Ops → Ops
forgotten n ops = forgotten_by (flight_at ops n) n ops

-- Somebody may ask for the number's result: it is in flight and wasn't forgotten, or it is resolved and unpolled.

abbrev pub is_asked_by : Option Flight → Option OpDone → Bool
is_asked_by None outcome = is_some outcome
is_asked_by (Some flight) outcome = not flight.forgotten

abbrev pub is_asked : Ops → ℕ → Bool
is_asked ops n = is_asked_by (flight_at ops n) (done_at ops n)

-- the number that this one is resolved with, if it is in flight and quiet

abbrev pub next_by : Option Flight → Option ℕ
next_by None = None
next_by (Some flight) = flight.next

abbrev pub next_at : Ops → ℕ → Option ℕ
next_at ops n = next_by (flight_at ops n)

-- what comes of an operation that is resolved with its next number
abbrev pub quiet_outcome : OpDone
quiet_outcome = record { result = pos 0; flags = 0; buf = None; quiet = true }

abbrev pub quietly_resolved_by : Option Flight → ℕ → Ops → Ops
quietly_resolved_by None n ops = ops
quietly_resolved_by (Some flight) n ops = resolved_as flight n quiet_outcome ops

-- the number, if it is in flight, is resolved quietly
abbrev pub quietly_resolved : ℕ → Ops → Ops
quietly_resolved n ops = quietly_resolved_by (flight_at ops n) n ops

abbrev pub all_quietly_resolved : List ℕ → Ops → Ops
all_quietly_resolved [] ops = ops
all_quietly_resolved (n ∷ ns) ops = quietly_resolved n (all_quietly_resolved ns ops)

-- Number n hangs on u: its next number is u, or hangs on u in turn. At most k steps are looked at.

abbrev pub hangs_by : (ℕ → Bool) → ℕ → Option ℕ → Bool
hangs_by further u None = false
hangs_by further u (Some m) = (m == u) || further m

abbrev pub hangs : ℕ → Ops → ℕ → ℕ → Bool
hangs zero ops u n = false
hangs (suc k) ops u n = hangs_by (hangs k ops u) u (next_at ops n)

abbrev pub numbers_where : (ℕ → Bool) → List (ℕ × Flight) → List ℕ
numbers_where p [] = []
numbers_where p (e ∷ es) = cond (p e.0) (e.0 ∷ numbers_where p es) (numbers_where p es)

-- the numbers in flight that hang on u; no chain has more steps than there are numbers in flight
abbrev pub hanging : Ops → ℕ → List ℕ
hanging ops u = numbers_where (hangs (len ops.in_flight) ops u) (entries ops.in_flight)

-- u was resolved, and all that hangs on it is resolved too
abbrev pub with_hanging_resolved : ℕ → Ops → Ops
with_hanging_resolved u ops = all_quietly_resolved (hanging ops u) ops

-- what the end of u makes of the operations
abbrev pub resolved : Flight → ℕ → OpDone → Ops → Ops
resolved flight u outcome ops = with_hanging_resolved u (resolved_as flight u outcome ops)
