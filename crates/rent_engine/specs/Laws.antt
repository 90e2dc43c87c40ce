-- What holds of operations over whole lists of completions.
use Rattle.std.specs.Prelude.{◌≡◌, ◌≢◌, ℕ, Bool, true, false, ◌&&◌, ◌||◌, ◌==◌, List, Option, Some, None, Result}
use Rattle.std.specs.List.{AllByRecursion}
use Rattle.std.specs.FinMap.{len}
use Rattle.uring_base.specs.declared.events.Completion.{Completion}
use Rattle.uring_base.specs.Completions.{is_final}
use Rattle.rent_table.specs.declared.ops.Flight.{Flight}
use Rattle.rent_table.specs.Ops.{Ops, flight_at, done_at, knows, started, taken_out, forgotten, hangs, AreApart}
use Rattle.rent_engine.specs.declared.fault.EngineFault.{EngineFault}
use Rattle.rent_engine.specs.Ops.{is_stranger, completed, outcome, Pumps}

-- the completion is a final one for this number, or for one that it hangs on
abbrev pub ends : Ops → ℕ → Completion → Bool
ends ops n c = is_final c.flags && ((c.user_data == n) || hangs (len ops.in_flight) ops c.user_data n)

-- a number in flight stays so, whatever is reaped, until a final completion comes for it or for one that it hangs on
abbrev pub StaysInFlight : Type 0
StaysInFlight = (n : ℕ) (ops after : Ops) (cs : List Completion) (end : Result (Unit {0}) EngineFault) → Pumps ops cs after end → AllByRecursion (λ c. ends ops n c ≡ false) cs → flight_at after n ≡ flight_at ops n

-- a final completion that is no stranger takes its number out of flight, and gives its outcome unless it was forgotten
abbrev pub Lands : Type 0
Lands = (ops : Ops) (c : Completion) (flight : Flight) → flight_at ops c.user_data ≡ Some flight → is_stranger ops c ≡ false → is_final c.flags ≡ true → (flight_at (completed ops c) c.user_data ≡ None) × (flight.forgotten ≡ false → done_at (completed ops c) c.user_data ≡ Some (outcome c))

-- what is resolved is taken out once
abbrev pub LeavesOnce : Type 0
LeavesOnce = (ops : Ops) (n : ℕ) → flight_at ops n ≡ None → knows (taken_out n ops) n ≡ false

-- no number comes to be both in flight and resolved
abbrev pub StartsApart : Type 0
StartsApart = (ops : Ops) (n : ℕ) (lent : Bool) (next : Option ℕ) → AreApart ops → knows ops n ≡ false → AreApart (started n lent next ops)

abbrev pub LandsApart : Type 0
LandsApart = (ops : Ops) (c : Completion) → AreApart ops → AreApart (completed ops c)

abbrev pub LeavesApart : Type 0
LeavesApart = (ops : Ops) (n : ℕ) → AreApart ops → AreApart (taken_out n ops)

abbrev pub ForgetsApart : Type 0
ForgetsApart = (ops : Ops) (n : ℕ) → AreApart ops → AreApart (forgotten n ops)

-- A number that is known stays so, whatever is started and completed, and whatever else is polled or forgotten, unless it was forgotten. So a key is never lost on the engine that gave it.
abbrev pub StartsKnown : Type 0
StartsKnown = (ops : Ops) (n q : ℕ) (lent : Bool) (next : Option ℕ) → knows ops q ≡ true → knows (started n lent next ops) q ≡ true

abbrev pub LandsKnown : Type 0
LandsKnown = (ops : Ops) (c : Completion) (q : ℕ) → knows ops q ≡ true → ((flight : Flight) → flight_at ops q ≡ Some flight → flight.forgotten ≡ false) → knows (completed ops c) q ≡ true

abbrev pub LeavesKnown : Type 0
LeavesKnown = (ops : Ops) (n q : ℕ) → n ≢ q → knows (taken_out n ops) q ≡ knows ops q

abbrev pub ForgetsKnown : Type 0
ForgetsKnown = (ops : Ops) (n q : ℕ) → n ≢ q → knows (forgotten n ops) q ≡ knows ops q
