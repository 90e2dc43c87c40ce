-- What a state waits for.
use Rattle.std.specs.Prelude.{◌≡◌, ℕ, Bool, true, false, ◌&&◌, ◌==◌, Option, Some, None, is_some}
use Rattle.rent_engine.specs.declared.state.Poll.{Poll}
use Rattle.rent_engine.specs.declared.state.Poll.TheVariants.{Ready, Pending}
use Rattle.rent_table.specs.Ops.{Ops, flight_at}

abbrev pub is_pending : {T : Type 0} → Poll T → Bool
is_pending (Ready _) = false
is_pending Pending = true

-- its operation is in flight; or none was started, it has one to offer, and the submission ring was full as last seen
abbrev pub waits_on : Option ℕ → Bool → Ops → ℕ → Bool
waits_on (Some n) offers ops room = is_some (flight_at ops n)
waits_on None offers ops room = offers && (room == 0)

-- nothing is taken out of flight
abbrev pub KeepsInFlight : Ops → Ops → Type 0
KeepsInFlight before after = (n : ℕ) → is_some (flight_at before n) ≡ true → is_some (flight_at after n) ≡ true

abbrev pub poll_map : {A B : Type 0} → (A → B) → Poll A → Poll B
poll_map f (Ready a) = Ready (f a)
poll_map f Pending = Pending

abbrev pub IfReady : {T : Type 0} → Poll T → (T → Type 0) → Type 0
IfReady (Ready answer) P = P answer
IfReady Pending P = Unit {0}
