-- A run as whole turns of a partner that tells its state.
use Rattle.std.specs.Prelude.{ℕ, ◌≤◌, false, List, [], ◌∷◌, ◌++◌, length, Option}
use Rattle.std.specs.List.{AllByRecursion}
use Rattle.uring_base.specs.declared.events.Taken.{Taken}
use Rattle.uring_base.specs.declared.events.LogEvent.{LogEvent}
use Rattle.uring_model.specs.Moves.{Move, IsLogged}
use Rattle.uring_model.specs.Schedule.{Machine, State, turn}
use Rattle.uring_model.specs.Refines.{IsPlainAndIdle}
use Rattle.uring_model.specs.Progress.{moves_of_turn, EachSettles}

-- the moves of whole turns in a row, each with this room, in which these are taken, turn by turn
abbrev pub turn_moves : {W : Type 0} → Machine W → ℕ → State W → List (List Taken) → List Move
turn_moves m room a [] = []
turn_moves m room a (ts ∷ tss) = moves_of_turn (length ts) ts (turn m ts room a).ends ++ turn_moves m room (turn m ts room a).state tss

-- the state after such turns
abbrev pub after_turns : {W : Type 0} → Machine W → ℕ → State W → List (List Taken) → State W
after_turns m room a [] = a
after_turns m room a (ts ∷ tss) = after_turns m room (turn m ts room a).state tss

-- From this state the log went on by whole turns, each with this room. Each took at most `capacity` entries, and, where the
-- state was idle in a plain world, settled one or more.
pub record RanInTurns {W : Type 0} (m : Machine W) (Plain : W → Type 0) {P : Type 0} (log : P → Option (List LogEvent)) (capacity room : ℕ) (a : State W) (old new : P) : Type 0 where
  pub taken : List (List Taken)
  pub fits : AllByRecursion (λ ts. length ts ≤ capacity) taken
  pub settles : IsPlainAndIdle Plain a → EachSettles false (turn_moves m room a taken)
  pub logs : IsLogged (log old) (turn_moves m room a taken) (log new)
