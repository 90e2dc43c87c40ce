-- What a run promises whose two sides are each known by their own lists alone.
use Rattle.std.specs.Prelude.{◌≡◌, ℕ, ◌*◌, ◌<◌, ◌≤◌, true, false, List, ◌++◌, length, map, Result, Option, Some, None, IfOk, IfErr, IfSome}
use Rattle.uring_base.specs.declared.events.Completion.{Completion}
use Rattle.uring_base.specs.declared.events.LogEvent.{LogEvent}
use Rattle.uring_model.specs.declared.jobs.Job.{Job}
use Rattle.uring_model.specs.declared.jobs.Outcome.{Outcome}
use Rattle.uring_model.specs.declared.jobs.Report.{Report}
use Rattle.uring_model.specs.declared.jobs.RunFault.{RunFault}
use Rattle.uring_model.specs.declared.jobs.RunFault.TheVariants.{BadSize, BadJob, Stranger, Stalled, PartnerFault, NoMemory}
use Rattle.uring_model.specs.Jobs.{model_jobs}
use Rattle.uring_model.specs.Moves.{Move, Posted, posted, journal_of, log_of}
use Rattle.uring_model.specs.Machine.{Files}
use Rattle.uring_model.specs.Schedule as schedule
use Rattle.uring_model.specs.Refines.{IsPlainAndIdle}
use Rattle.uring_model.specs.Strange.{first_strange, is_answered, ended_in}
use Rattle.partner_serving.specs.Serving.{EachWorks}
use Rattle.partner_serving.specs.TwoSides.{started_all}
use Rattle.run_loop.specs.Entries.{entries_from, lends_at, quiets_at}
use Rattle.run_loop.specs.Memory.{ExplainsWithin}
use Rattle.run_loop.specs.Runs.{Ran, IsReported, outcomes_from}

-- The user heard the first of the posted completions. None of them was strange to a user that has started all jobs, each job is
-- answered by them, and has the outcome that the first final ones tell.
pub record IsHeard (jobs : List Job) (moves : List Move) (answers : List Outcome) : Type 0 where
  pub heard : List Completion
  pub unheard : List Completion
  pub posts : posted moves ≡ heard ++ unheard
  pub expected : first_strange (lends_at jobs) (quiets_at jobs) (started_all (length jobs)) (log_of (map Posted heard)) ≡ None
  pub answered : (j : ℕ) → j < length jobs → is_answered (quiets_at jobs) (ended_in (log_of (map Posted heard))) j ≡ true
  pub outcomes : map (λ o. Some o) answers ≡ outcomes_from 0 jobs (log_of (map Posted heard))

-- The user heard the first of the posted completions, and this is the first that was strange to a user that has started as many
-- jobs as it offered.
pub record IsHeardStrange (jobs : List Job) (moves : List Move) (number : ℕ) : Type 0 where
  pub heard : List Completion
  pub unheard : List Completion
  pub posts : posted moves ≡ heard ++ unheard
  pub offered : ℕ
  pub inside : offered ≤ length jobs
  pub strange : first_strange (lends_at jobs) (quiets_at jobs) (started_all offered) (log_of (map Posted heard)) ≡ Some number

-- what a fault says of the moves; there is no bound after which a run is given up
abbrev pub IsSharedFault : List Job → List Move → RunFault → Type 0
IsSharedFault jobs moves (Stranger u) = IsHeardStrange jobs moves u
IsSharedFault jobs moves Stalled = ⊥
IsSharedFault jobs moves PartnerFault = Unit {0}
IsSharedFault jobs moves NoMemory = Unit {0}
IsSharedFault jobs moves BadSize = ⊥
IsSharedFault jobs moves (BadJob n) = ⊥

-- What a run of valid sizes and jobs did, and what its answer tells.
pub record SharedSays {W : Type 0} (mach : schedule.Machine W) (view : W → Files) (Plain : W → Type 0) {P : Type 0} (log : P → Option (List LogEvent)) (state : P → Option (schedule.State W)) (old new : P) (jobs : List Job) (result : Result Report RunFault) : Type 0 where
  pub ran : Ran mach log state old new (entries_from 0 jobs)
  pub report : IfOk result (λ r. IsHeard jobs ran.moves r.outcomes.items)
  pub journal : IfOk result (λ r. IfSome (log old) (λ _. r.journal.items ≡ journal_of (log_of ran.moves)))
  pub fault : IfErr result (IsSharedFault jobs ran.moves)
  -- Over a partner that tells its files and began idle: the replay is explained, with at most two turns a job; all that was
  -- posted was heard; and each turn is followed by a take or a settling before the next.
  pub memory : (a : schedule.State W) → state old ≡ Some a → IsPlainAndIdle Plain a
      → (b : schedule.State W) × (state new ≡ Some b) × ExplainsWithin view Plain (2 * length (model_jobs jobs)) (model_jobs jobs) a ran.moves b result × IfOk result (IsReported log old jobs ran.moves) × IfOk result (λ _. EachWorks false ran.moves)
