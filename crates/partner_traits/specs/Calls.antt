-- What one call of a partner does.
use Rattle.std.specs.Prelude.{◌≡◌, ℕ, ◌+◌, ◌-◌, ◌^◌, ◌≤◌, ◌⊎◌, min, Bool, true, false, nat_lt, List, [], ◌∷◌, ◌++◌, length, map, filter, Option, Some, None, IfSome, Result, Ok, Err, IsErrAnd, IsTrue}
use Rattle.std.specs.FinMap.{insert}
use Rattle.std.specs.Int.{w32, cast_signed}
use Rattle.std.specs.IoError.{raw_os_error, error_kind}
use Rattle.std.specs.declared.io.Error.{Error}
use Rattle.std.specs.declared.io.ErrorKind.TheVariants.{OutOfMemory}
use Rattle.uring_base.specs.declared.events.Taken.{Taken}
use Rattle.uring_base.specs.declared.events.Completion.{Completion}
use Rattle.uring_base.specs.declared.events.LogEvent.{LogEvent}
use Rattle.uring_model.specs.Moves.{Move, Turned, took, posted, IsLogged}
use Rattle.uring_model.specs.Machine.{Files}
use Rattle.uring_model.specs.Schedule.{Machine, State, IsServed, turn}
use Rattle.uring_model.specs.Progress.{turns, moves_of_turn}
use Rattle.ring_traits.specs.Lists.{Lists, room_of}
use Rattle.partner_traits.specs.declared.call.PartnerError.{PartnerError}
use Rattle.partner_traits.specs.declared.call.PartnerError.TheVariants.{Fault, NoMemory}

abbrev pub is_fault : PartnerError → Bool
is_fault (Fault errno) = true
is_fault NoMemory = false

-- a partner's error as an error of the system: the same error number, or want of memory
abbrev pub IsToldAs : PartnerError → Error → Type 0
IsToldAs (Fault errno) e = raw_os_error e ≡ Some (cast_signed w32 errno)
IsToldAs NoMemory e = error_kind e ≡ OutOfMemory

-- A turn: its number is the smaller of what is asked and what is published, it comes first, and at most so many are taken.
pub record IsTurn (to_submit : ℕ) (lists : Option Lists) (ms : List Move) : Type 0 where
  pub p : ℕ
  pub fits : p ≤ to_submit
  pub told : IfSome lists (λ l. p ≡ min to_submit (length l.published))
  pub rest : List Move
  pub moves : ms ≡ Turned p ∷ rest
  pub one : turns rest ≡ 0
  pub few : length (took rest) ≤ p

-- What a call does: a turn where it succeeds; where it fails, nothing or a turn so far.
abbrev pub IsCall : Bool → ℕ → Option Lists → List Move → Type 0
IsCall true to_submit lists ms = IsTurn to_submit lists ms
IsCall false to_submit lists ms = (ms ≡ []) ⊎ IsTurn to_submit lists ms

-- what one call did with the side, with the log and with the state, where these are told
pub record Enters {W : Type 0} (m : Machine W) {P Q : Type 0} (log : P → Option (List LogEvent)) (state : P → Option (State W)) (moved : Q → List Taken → List Completion → Q → Type 0) (old new : P) (from to : Q) (ms : List Move) : Type 0 where
  pub sides : moved from (took ms) (posted ms) to
  pub logs : IsLogged (log old) ms (log new)
  pub states : IsServed m (state old) ms (state new)

-- A whole turn of a partner that tells its state. It takes at least what was known to wait and to be asked for, and settles by
-- its machine with at least the room that was known; where the lists are told, as with the room that they have.
pub record IsTurnOver {W : Type 0} (m : Machine W) (a : State W) (known space : ℕ) (lists : Option Lists) (ms : List Move) : Type 0 where
  pub ts : List Taken
  pub room : ℕ
  pub takes : known ≤ length ts
  pub fits : space ≤ room
  pub moves : ms ≡ moves_of_turn (length ts) ts (turn m ts room a).ends
  pub told : IfSome lists (λ l. turn m ts room a ≡ turn m ts (room_of l) a)

abbrev pub IsFullTurn : {W : Type 0} → Machine W → Option (State W) → ℕ → ℕ → Option Lists → List Move → Type 0
IsFullTurn m None known space lists ms = Unit {0}
IsFullTurn m (Some a) known space lists ms = IsTurnOver m a known space lists ms

-- Where state and lists are told, a whole turn takes what its number says and settles what the room at entry lets it.
pub record IsTurnOf {W : Type 0} (m : Machine W) (a : State W) (l : Lists) (ms : List Move) : Type 0 where
  pub ts : List Taken
  pub moves : ms ≡ moves_of_turn (length ts) ts (turn m ts (room_of l) a).ends

abbrev pub IsWholeTurn : {W : Type 0} → Machine W → Option (State W) → Option Lists → List Move → Type 0
IsWholeTurn m (Some a) (Some l) ms = IsTurnOf m a l ms
IsWholeTurn m (Some a) None ms = Unit {0}
IsWholeTurn m None l ms = Unit {0}

-- The partner keeps the error number of the fault that it answers; any other answer leaves the one that is kept.
abbrev pub KeepsErrno : {T : Type 0} → Result T PartnerError → ℕ → ℕ → Type 0
KeepsErrno (Ok x) before after = after ≡ before
KeepsErrno (Err (Fault errno)) before after = after ≡ errno
KeepsErrno (Err NoMemory) before after = after ≡ before

-- An enter that fails by plan counts one fault more, and leaves log and state as they were.
pub record IsPlannedFailure {W P T : Type 0} (log : P → Option (List LogEvent)) (state : P → Option (State W)) (faults : P → ℕ) (old new : P) (result : Result T PartnerError) : Type 0 where
  pub fault : IsErrAnd result (λ e. IsTrue (is_fault e))
  pub count : faults new ≡ min (faults old + 1) (2 ^ 64 - 1)
  pub logs : log new ≡ log old
  pub states : state new ≡ state old

-- a plan of failures after one more enter
abbrev pub later_plan : List ℕ → List ℕ
later_plan plan = map (λ k. k - 1) (filter (nat_lt 1) plan)

-- a change of the state, where it is told
abbrev pub StateBecomes : {W : Type 0} → Option (State W) → (State W → State W) → Option (State W) → Type 0
StateBecomes None f after = after ≡ None
StateBecomes (Some a) f after = after ≡ Some (f a)

abbrev pub with_file : {W : Type 0} → (ℕ → List ℕ → W → W) → ℕ → List ℕ → State W → State W
with_file put number bytes a = record a { world = put number bytes a.world }

-- what is put in is seen among the files, and leaves the world plain
pub record Puts {W : Type 0} (view : W → Files) (Plain : W → Type 0) (put : ℕ → List ℕ → W → W) : Type 0 where
  pub seen : (number : ℕ) (bytes : List ℕ) (w : W) → view (put number bytes w) ≡ insert (view w) number bytes
  pub plain : (number : ℕ) (bytes : List ℕ) (w : W) → Plain w → Plain (put number bytes w)

-- the choice is the last of those that are left
abbrev pub with_choice : {W : Type 0} → ℕ → State W → State W
with_choice c a = record a { choices = a.choices ++ c ∷ [] }
