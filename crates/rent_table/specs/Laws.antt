-- What the end of a number makes of those in flight.
use Rattle.std.specs.Prelude.{◌≡◌, ℕ, ◌+◌, ◌<◌, ◌≤◌, ◌↔◌, Bool, true, cond, [], Some, None}
use Rattle.std.specs.FinMap.{len}
use Rattle.rent_table.specs.declared.ops.Flight.{Flight}
use Rattle.rent_table.specs.declared.ops.OpDone.{OpDone}
use Rattle.rent_table.specs.Ops.{Ops, flight_at, done_at, joined_to, next_at, quiet_outcome, is_asked, hangs, resolved, with_hanging_resolved, AreApart}

-- What hangs on u is no more than it must be: what holds of those whose next number is u, and of those whose next
-- number it holds of, holds of all.
abbrev pub OnlyWhatHangs : Type 0
OnlyWhatHangs = (ops : Ops) (u n : ℕ) (p : ℕ → Bool) → ((q : ℕ) → next_at ops q ≡ Some u → p q ≡ true) → ((q m : ℕ) → next_at ops q ≡ Some m → p m ≡ true → p q ≡ true) → hangs (len ops.in_flight) ops u n ≡ true → p n ≡ true

-- what hangs on u is out of flight, and all else is as it was
abbrev pub FlightsAfter : Type 0
FlightsAfter = (u : ℕ) (ops : Ops) (n : ℕ) → flight_at (with_hanging_resolved u ops) n ≡ cond (hangs (len ops.in_flight) ops u n) None (flight_at ops n)

-- what hangs on u has its quiet outcome, unless it was forgotten
abbrev pub OutcomesAfter : Type 0
OutcomesAfter = (u : ℕ) (ops : Ops) (n : ℕ) (flight : Flight) → flight_at ops n ≡ Some flight → done_at (with_hanging_resolved u ops) n ≡ cond (hangs (len ops.in_flight) ops u n) (cond flight.forgotten (done_at ops n) (Some quiet_outcome)) (done_at ops n)

-- what hangs on u is joined to no handle then, and all else is joined as it was
abbrev pub JoinsAfter : Type 0
JoinsAfter = (u : ℕ) (ops : Ops) (n : ℕ) → joined_to (with_hanging_resolved u ops) n ≡ cond (hangs (len ops.in_flight) ops u n) [] (joined_to ops n)

-- a chain of any length is found
abbrev pub AnyDepth : Type 0
AnyDepth = (k : ℕ) (ops : Ops) (u n : ℕ) → hangs k ops u n ≡ true → hangs (len ops.in_flight) ops u n ≡ true

-- Where each next number is the one behind: n hangs on u exactly where it is below u, and each from n to the one before u has the
-- one behind it as its next number.
abbrev pub AreInOrder : Ops → Type 0
AreInOrder ops = (q m : ℕ) → next_at ops q ≡ Some m → m ≡ q + 1

abbrev pub InOrder : Type 0
InOrder = (ops : Ops) (u n : ℕ) → AreInOrder ops → (hangs (len ops.in_flight) ops u n ≡ true) ↔ ((n < u) × ((i : ℕ) → n ≤ i → i < u → next_at ops i ≡ Some (i + 1)))

-- The end of a number leaves who may be asked for as it was: no outcome is lost, and none comes of what was forgotten.
abbrev pub ResolvesAsked : Type 0
ResolvesAsked = (ops : Ops) (u : ℕ) (flight : Flight) (outcome : OpDone) (q : ℕ) → AreApart ops → flight_at ops u ≡ Some flight → is_asked (resolved flight u outcome ops) q ≡ is_asked ops q
