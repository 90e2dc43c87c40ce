-- One round of a partner: one look at its side of the rings, and at most one enter.
use Rattle.std.specs.Prelude.{◌≡◌, ℕ, ◌<◌, ◌≤◌, ◌⊎◌, Bool, true, false, List, [], length, Option, Some, Result, Ok, Err}
use Rattle.uring_model.specs.Moves.{Move, took}
use Rattle.uring_model.specs.Schedule.{Machine, State}
use Rattle.uring_model.specs.Progress.{turns}
use Rattle.ring_traits.specs.Lists.{Lists}
use Rattle.partner_traits.specs.declared.call.PartnerError.{PartnerError}
use Rattle.partner_traits.specs.Calls.{IsTurnOver, IsFullTurn, later_plan}
use Rattle.partner_serving.specs.Serving.{EachWorks, HasAnswers}

-- Whether an enter is due, where so many entries wait and so many completions fit: an entry waits, or one is pending and a
-- completion fits. Where it isn't, the partner rests.
abbrev pub TellsDue : {W : Type 0} → Bool → ℕ → ℕ → State W → Type 0
TellsDue true ready space a = (0 < ready) ⊎ ((0 < length a.pending) × (0 < space))
TellsDue false ready space a = (ready ≡ 0) × ((length a.pending ≡ 0) ⊎ (space ≡ 0))

-- The moves of one round, by its answer: one turn, and where the state is told a whole one, over at least what was known to wait
-- and to fit; or none. A refused enter may leave a turn so far.
abbrev pub IsRound : {W : Type 0} → Machine W → Result Bool PartnerError → Option (State W) → ℕ → ℕ → Option Lists → List Move → Type 0
IsRound m (Ok true) state ready space lists ms = (turns ms ≡ 1) × IsFullTurn m state ready space lists ms
IsRound m (Ok false) state ready space lists ms = ms ≡ []
IsRound m (Err e) state ready space lists ms = turns ms ≤ 1

-- the plan of failures after a round: an enter counts it down
abbrev pub plan_after : Result Bool PartnerError → List ℕ → List ℕ
plan_after (Ok true) plan = later_plan plan
plan_after (Ok false) plan = plan
plan_after (Err e) plan = later_plan plan

-- laws

-- a whole turn that was due works, where the machine has its answers
abbrev pub DueTurnsWork : {W : Type 0} → Machine W → (W → Type 0) → Type 0
DueTurnsWork {W = W} m Plain =
    (a : State W) (ready space : ℕ) (lists : Option Lists) (ms : List Move)
    → HasAnswers m Plain (Some a) (took ms) → TellsDue true ready space a → IsTurnOver m a ready space lists ms → EachWorks false ms
