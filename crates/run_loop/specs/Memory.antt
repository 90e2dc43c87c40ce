-- What a run promises over a partner that tells its files.
use Rattle.std.specs.Prelude.{◌≡◌, ℕ, ◌≤◌, false, List, [], ◌∷◌, length, map, Result, Option, Some, None, IfOk, IfErr}
use Rattle.uring_model.specs.declared.jobs.Outcome.{Outcome}
use Rattle.uring_model.specs.declared.jobs.Report.{Report}
use Rattle.uring_model.specs.declared.jobs.RunFault.{RunFault}
use Rattle.uring_model.specs.Jobs.{Job}
use Rattle.uring_model.specs.Replay.{ReplayState, replay, first_state, IsWhole, table}
use Rattle.uring_model.specs.Replay as model
use Rattle.uring_model.specs.Rows.{outcome_told}
use Rattle.uring_model.specs.Chosen.{IsChosen}
use Rattle.uring_model.specs.Moves.{Move, journal_of, log_of}
use Rattle.uring_model.specs.Machine.{Files}
use Rattle.uring_model.specs.Schedule as schedule
use Rattle.uring_model.specs.Refines.{IsPlainAndIdle}
use Rattle.uring_model.specs.Progress.{turns}
use Rattle.run_loop.specs.Rounds.{is_stall, is_stranger_fault}

-- the outcomes of the jobs by a replay's table
abbrev pub replayed_outcomes : List Job → List (Option model.Result) → List (Option Outcome)
replayed_outcomes [] t = []
replayed_outcomes (job ∷ jobs) [] = []
replayed_outcomes (job ∷ jobs) (None ∷ t) = None ∷ replayed_outcomes jobs t
replayed_outcomes (job ∷ jobs) (Some r ∷ t) = Some (outcome_told job r) ∷ replayed_outcomes jobs t

-- A whole replay gives every result and buffer; the partner is idle again, and there were no more turns than `bound`.
pub record IsWholeRun {W : Type 0} (Plain : W → Type 0) (bound : ℕ) (jobs : List Job) (end : ReplayState) (after : schedule.State W) (moves : List Move) (answers : List Outcome) : Type 0 where
  pub whole : IsWhole end
  pub outcomes : map (λ o. Some o) answers ≡ replayed_outcomes jobs (table end)
  pub idle : IsPlainAndIdle Plain after
  pub few : turns moves ≤ bound

-- The journal of what the partner did replays from its files by the file machine, and is chosen by its choices; the
-- replay's files are those that it has then. The answer is never a stranger or a stall.
pub record ExplainsWithin {W : Type 0} (view : W → Files) (Plain : W → Type 0) (bound : ℕ) (jobs : List Job) (before : schedule.State W) (moves : List Move) (after : schedule.State W) (result : Result Report RunFault) : Type 0 where
  pub end : ReplayState
  pub replays : replay jobs (view before.world) (journal_of (log_of moves)) ≡ Some end
  pub chosen : IsChosen (journal_of (log_of moves)) before.choices false (first_state jobs (view before.world))
  pub files : end.files ≡ view after.world
  pub report : IfOk result (λ r. IsWholeRun Plain bound jobs end after moves r.outcomes.items)
  pub fault : IfErr result (λ e. (is_stranger_fault e ≡ false) × (is_stall e ≡ false))

-- the same, where no turn was idle
abbrev pub Explains : {W : Type 0} → (W → Files) → (W → Type 0) → List Job → schedule.State W → List Move → schedule.State W → Result Report RunFault → Type 0
Explains view Plain jobs before moves after result = ExplainsWithin view Plain (length jobs) jobs before moves after result
