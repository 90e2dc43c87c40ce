-- What a partner did in a stretch of rounds at its side of the rings.
use Rattle.std.specs.Prelude.{◌≡◌, ◌+◌, ◌*◌, ◌≤◌, ◌⊎◌, Bool, true, false, ◌&&◌, List, [], ◌∷◌, ◌++◌, length, Option, Some, None}
use Rattle.std.specs.Bool.{OnTrue}
use Rattle.std.specs.List.{AllByRecursion}
use Rattle.uring_base.specs.declared.events.Taken.{Taken}
use Rattle.uring_base.specs.declared.events.Completion.{Completion}
use Rattle.uring_base.specs.declared.events.LogEvent.{LogEvent}
use Rattle.uring_model.specs.Moves.{Move, Turned, Took, Posted, Quieted, took, posted, IsLogged}
use Rattle.uring_model.specs.Schedule.{Machine, State, Steps, IsServed}
use Rattle.uring_model.specs.Asks.{IsJobEntry}
use Rattle.uring_model.specs.Progress.{turns, AlwaysAnswers}
use Rattle.uring_model.specs.Honest.{TakesWithinTurns}
use Rattle.uring_model.specs.Refines.{IsPlainState}

-- In each turn an entry is taken or settles, by a post or quietly; `owed` says that this is still to come.
abbrev pub EachWorks : Bool → List Move → Type 0
EachWorks owed [] = owed ≡ false
EachWorks owed (Turned p ∷ ms) = (owed ≡ false) × EachWorks true ms
EachWorks owed (Took t ∷ ms) = EachWorks false ms
EachWorks owed (Posted c ∷ ms) = EachWorks false ms
EachWorks owed (Quieted n ∷ ms) = EachWorks false ms

-- The machine has its answers in a stretch that begins in this state and takes these entries: it always answers, or its world
-- is plain as the stretch begins, and nothing is pending or taken but what a job may ask. Nothing is said of a state that isn't told.
abbrev pub HasAnswers : {W : Type 0} → Machine W → (W → Type 0) → Option (State W) → List Taken → Type 0
HasAnswers m Plain None ts = ⊥
HasAnswers m Plain (Some a) ts = AlwaysAnswers m ⊎ (IsPlainState Plain IsJobEntry a × AllByRecursion IsJobEntry ts)

-- There is one list of moves, which takes these entries and posts those completions, and by which the log and the state went
-- on, where these are told. Where the stretch is unbroken and the machine has its answers, each turn of it works.
pub record Serving {W : Type 0} (m : Machine W) (Plain : W → Type 0) (unbroken : Bool) (log log' : Option (List LogEvent)) (state state' : Option (State W)) (ts : List Taken) (cs : List Completion) : Type 0 where
  pub moves : List Move
  pub takes : took moves ≡ ts
  pub posts : posted moves ≡ cs
  pub logs : IsLogged log moves log'
  pub states : IsServed m state moves state'
  pub within : TakesWithinTurns 0 moves
  pub works : OnTrue unbroken (HasAnswers m Plain state ts → EachWorks false moves)

-- laws of a machine
module _ {W : Type 0} (m : Machine W) (Plain : W → Type 0) where
  -- two stretches in a row are one over the joined lists, unbroken where both are
  abbrev pub ServingsJoin : Type 0
  ServingsJoin =
      (u v : Bool) (k l n : Option (List LogEvent)) (a b c : Option (State W)) (ts us : List Taken) (cs ds : List Completion)
      → Serving m Plain u k l a b ts cs → Serving m Plain v l n b c us ds → Serving m Plain (u && v) k n a c (ts ++ us) (cs ++ ds)

  -- a stretch without a round is unbroken, and leaves log and state as they were
  abbrev pub NoRoundServes : Type 0
  NoRoundServes = (log : Option (List LogEvent)) (state : Option (State W)) → Serving m Plain true log log state state [] []

  -- Each turn that works has a take or a settling of its own, and each entry that was pending or is taken settles at most once.
  abbrev pub WorkingTurnsAreFew : Type 0
  WorkingTurnsAreFew = (over : Bool) (a b : State W) (ms : List Move) → Steps m over a ms b → EachWorks false ms → turns ms ≤ length a.pending + 2 * length (took ms)

  -- so an unbroken stretch whose machine has its answers has at most two turns for each entry that it takes, and one for each that was pending before it
  abbrev pub UnbrokenTurnsAreFew : Type 0
  UnbrokenTurnsAreFew =
      (log log' : Option (List LogEvent)) (a b : State W) (ts : List Taken) (cs : List Completion)
      → (s : Serving m Plain true log log' (Some a) (Some b) ts cs) → HasAnswers m Plain (Some a) ts → turns s.moves ≤ length a.pending + 2 * length ts
