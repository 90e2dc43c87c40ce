-- Calls in a row: what their moves are, taken together.
use Rattle.std.specs.Prelude.{◌≡◌, ℕ, ◌+◌, List, [], ◌++◌, map, Option}
use Rattle.uring_base.specs.declared.events.Taken.{Taken}
use Rattle.uring_base.specs.declared.events.LogEvent.{LogEvent}
use Rattle.uring_model.specs.Moves.{Move, Took, took, posted, IsLogged}
use Rattle.uring_model.specs.Schedule.{Machine, State, EntryEnd, ended, posts_of, IsServed}
use Rattle.uring_model.specs.Progress.{turns}
use Rattle.uring_model.specs.Honest.{TakesWithinTurns}

-- The moves of two lists in a row take, post and turn what both do; the log goes on from the one to the other.
pub record MovesJoin : Type 0 where
  pub takes : (ms ns : List Move) → took (ms ++ ns) ≡ took ms ++ took ns
  pub posts : (ms ns : List Move) → posted (ms ++ ns) ≡ posted ms ++ posted ns
  pub turning : (ms ns : List Move) → turns (ms ++ ns) ≡ turns ms + turns ns
  pub within : (left : ℕ) (ms ns : List Move) → TakesWithinTurns left ms → TakesWithinTurns 0 ns → TakesWithinTurns left (ms ++ ns)
  pub logs : (a b c : Option (List LogEvent)) (ms ns : List Move) → IsLogged a ms b → IsLogged b ns c → IsLogged a (ms ++ ns) c

-- Where nothing was done, the log is as it was.
pub record NoMoveStays : Type 0 where
  pub logs : (log : Option (List LogEvent)) → IsLogged log [] log

-- a turn's moves post what it says that they do
abbrev pub TurnsPostTheirs : Type 0
TurnsPostTheirs = (ts : List Taken) (es : List EntryEnd) → posted (map Took ts ++ map ended es) ≡ posts_of es

module _ {W : Type 0} (m : Machine W) where
  -- the moves of calls in a row lead on as those of one
  abbrev pub CallsJoin : Type 0
  CallsJoin = (a b c : Option (State W)) (ms ns : List Move) → IsServed m a ms b → IsServed m b ns c → IsServed m a (ms ++ ns) c

  -- a call that moves nothing leaves the state as it was
  abbrev pub NoCallStays : Type 0
  NoCallStays = (s : Option (State W)) → IsServed m s [] s
