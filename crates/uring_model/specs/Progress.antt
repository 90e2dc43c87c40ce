-- Nothing that was taken waits for ever: what holds of the turns of every machine.
use Rattle.std.specs.Prelude.{◌≡◌, ℕ, ◌+◌, ◌<◌, ◌≤◌, suc, Bool, true, false, List, [], ◌∷◌, ◌++◌, length, map}
use Rattle.uring_base.specs.declared.events.Taken.{Taken}
use Rattle.uring_model.specs.declared.pending.Pending.{Pending}
use Rattle.uring_model.specs.Jobs.{Job}
use Rattle.uring_model.specs.Replay.{Row, all_done, may}
use Rattle.uring_model.specs.Moves.{Move, Turned, Took, Posted, Quieted, took}
use Rattle.uring_model.specs.Schedule.{Machine, State, EntryEnd, ended, posts_of, is_ready, cursors, Steps, take_all, turn}

-- the moves of a turn over p entries that takes these and posts those
abbrev pub moves_of_turn : ℕ → List Taken → List EntryEnd → List Move
moves_of_turn p ts es = Turned p ∷ (map Took ts ++ map ended es)

-- how many turns begin
abbrev pub turns : List Move → ℕ
turns [] = 0
turns (Turned p ∷ ms) = suc (turns ms)
turns (Took t ∷ ms) = turns ms
turns (Posted c ∷ ms) = turns ms
turns (Quieted n ∷ ms) = turns ms

-- how many entries settle
abbrev pub settlings : List Move → ℕ
settlings [] = 0
settlings (Turned p ∷ ms) = settlings ms
settlings (Took t ∷ ms) = settlings ms
settlings (Posted c ∷ ms) = suc (settlings ms)
settlings (Quieted n ∷ ms) = suc (settlings ms)

-- an entry settles in each turn; `owed` says that one is still to come
abbrev pub EachSettles : Bool → List Move → Type 0
EachSettles owed [] = owed ≡ false
EachSettles owed (Turned p ∷ ms) = (owed ≡ false) × EachSettles true ms
EachSettles owed (Took t ∷ ms) = EachSettles owed ms
EachSettles owed (Posted c ∷ ms) = EachSettles false ms
EachSettles owed (Quieted n ∷ ms) = EachSettles false ms

-- laws of the replay and of moves

-- the lowest job that is taken and has no outcome may settle
abbrev pub LowestMaySettle : Type 0
LowestMaySettle = (before : List Row) (job : Job) → all_done before ≡ true → may before job ≡ true

-- a turn in which an entry settles is one of those that `EachSettles` asks for
abbrev pub SettlingTurns : Type 0
SettlingTurns = (p : ℕ) (ts : List Taken) (es : List EntryEnd) → 0 < length es → EachSettles false (moves_of_turn p ts es)

-- two lists of such turns in a row are such a list
abbrev pub SettlingTurnsJoin : Type 0
SettlingTurnsJoin = (ms ns : List Move) → EachSettles false ms → EachSettles false ns → EachSettles false (ms ++ ns)

-- laws of a machine
module _ {W : Type 0} (m : Machine W) where
  -- what `turn` says is a list of moves, whatever was before it
  abbrev pub TurnsAreMoves : Type 0
  TurnsAreMoves = (over : Bool) (p room : ℕ) (ts : List Taken) (a : State W) → Steps m over a (moves_of_turn p ts (turn m ts room a).ends) (turn m ts room a).state

  -- a turn posts at most as many completions as it has room for
  abbrev pub PostsFitRoom : Type 0
  PostsFitRoom = (room : ℕ) (ts : List Taken) (a : State W) → length (posts_of (turn m ts room a).ends) ≤ room

  -- each entry that was taken is settled or pending
  abbrev pub NoneIsLost : Type 0
  NoneIsLost = (over : Bool) (a b : State W) (ms : List Move) → Steps m over a ms b → settlings ms + length b.pending ≡ length a.pending + length (took ms)

  -- where an entry settles in each turn, and nothing was pending before, there are at most as many turns as takes
  abbrev pub TurnsAreFew : Type 0
  TurnsAreFew = (over : Bool) (a b : State W) (ms : List Move) → a.pending ≡ [] → Steps m over a ms b → EachSettles false ms → turns ms ≤ length (took ms)

  -- in a turn with something ready and room for a post an entry settles
  abbrev pub ReadySettles : Type 0
  ReadySettles = (room : ℕ) (ts : List Taken) (a : State W) → 0 < length (cursors m (take_all a ts)) → 0 < room → 0 < length (turn m ts room a).ends

  -- whatever is asked, it can answer at once
  abbrev pub AlwaysAnswers : Type 0
  AlwaysAnswers = (w : W) (t : Taken) → m.can_answer w t ≡ true

  -- laws of a machine that always answers

  -- the entry in front of what is pending is ready, whatever it is
  abbrev pub FrontIsReady : Type 0
  FrontIsReady = (w : W) (i : Pending) → is_ready (m.can_answer w) [] i ≡ true

  -- in a turn with something pending and room for a post an entry settles
  abbrev pub TurnsSettle : Type 0
  TurnsSettle = (room : ℕ) (ts : List Taken) (a : State W) → 0 < length (take_all a ts).pending → 0 < room → 0 < length (turn m ts room a).ends
