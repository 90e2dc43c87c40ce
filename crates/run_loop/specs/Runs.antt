-- What a run of jobs promises over every partner.
use Rattle.std.specs.Prelude.{◌≡◌, ℕ, suc, ◌+◌, ◌*◌, ◌≤◌, ◌<◌, Bool, true, false, if◌then◌else◌, List, [], ◌∷◌, ◌++◌, length, map, Result, Ok, Err, Option, Some, None, IfOk, IfErr, IfSome}
use Rattle.std.specs.Option.{option_map}
use Rattle.uring_base.specs.declared.events.Taken.{Taken}
use Rattle.uring_base.specs.declared.events.LogEvent.{LogEvent}
use Rattle.uring_base.specs.declared.events.Event.{Event}
use Rattle.uring_base.specs.declared.events.Event.TheVariants.{Turn, Take, Post, Quiet}
use Rattle.ring_traits.specs.Lists.{Advances}
use Rattle.uring_model.specs.declared.jobs.Job.{Job}
use Rattle.uring_model.specs.declared.jobs.Outcome.{Outcome}
use Rattle.uring_model.specs.declared.jobs.Report.{Report}
use Rattle.uring_model.specs.declared.jobs.RunFault.{RunFault}
use Rattle.uring_model.specs.declared.jobs.RunFault.TheVariants.{BadSize, BadJob, Stranger, Stalled, PartnerFault, NoMemory}
use Rattle.uring_model.specs.Replay.{IsBusy}
use Rattle.uring_model.specs.Moves.{Move, took, journal_of, log_of, IsLogged}
use Rattle.uring_base.specs.Sizes.{is_valid_size}
use Rattle.uring_model.specs.Jobs.{model_jobs}
use Rattle.uring_model.specs.Machine.{Files}
use Rattle.uring_model.specs.Schedule as schedule
use Rattle.uring_model.specs.Refines.{IsPlainAndIdle}
use Rattle.uring_model.specs.Progress.{turns}
use Rattle.uring_model.specs.Honest.{TakesWithinTurns}
use Rattle.uring_model.specs.Strange.{nothing_seen, first_strange, is_answered, ended_in}
use Rattle.run_loop.specs.Entries.{entries_from, lends_at, quiets_at, first_bad}
use Rattle.run_loop.specs.Memory.{Explains}
use Rattle.run_loop.specs.Told.{first_final, idle_turns, reply_for, outcome_by, first_is_some}

-- What the partner did in a run, whatever its answer, and whenever its turns came: `moves` are what its log and its state
-- gained, where it tells them. It took the entries in their order, and in each turn no more than its number.
pub record Ran {W : Type 0} (mach : schedule.Machine W) {P : Type 0} (log : P → Option (List LogEvent)) (state : P → Option (schedule.State W)) (old new : P) (offered : Bool → List Taken) : Type 0 where
  pub moves : List Move
  -- the size that the ring gave to the entries
  pub large : Bool
  pub ahead : List Taken
  pub logs : IsLogged (log old) moves (log new)
  pub states : schedule.IsServed mach (state old) moves (state new)
  pub entries : took moves ++ ahead ≡ offered large
  pub within : TakesWithinTurns 0 moves

-- When the turns of a run came: each with the ring full or all jobs pushed, and at most `idle` turns twice a job.
pub record InFullTurns (capacity jobs idle : ℕ) (moves : List Move) : Type 0 where
  pub busy : IsBusy capacity jobs 0 (journal_of (log_of moves))
  pub few : turns moves ≤ idle * (2 * jobs)

-- what the first final posts tell of the jobs, counted from n: those of its own, and, of a quiet one without, that of the next
abbrev pub outcomes_from : ℕ → List Job → List LogEvent → List (Option Outcome)
outcomes_from n [] log = []
outcomes_from n (job ∷ jobs) log = outcome_by job.quiet (reply_for job.kind) (first_final n log) (first_is_some (outcomes_from (n + 1) jobs log)) ∷ outcomes_from (n + 1) jobs log

-- No post of the log is strange, each job is answered, and has the outcome that the first final posts tell.
pub record IsAnswered (jobs : List Job) (log : List LogEvent) (answers : List Outcome) : Type 0 where
  pub expected : first_strange (lends_at jobs) (quiets_at jobs) nothing_seen log ≡ None
  pub answered : (j : ℕ) → j < length jobs → is_answered (quiets_at jobs) (ended_in log) j ≡ true
  pub outcomes : map (λ o. Some o) answers ≡ outcomes_from 0 jobs log

-- Some job isn't answered, and neither a take nor a final post stands behind the last `idle` turns.
pub record IsStalled (jobs : List Job) (idle : ℕ) (log : List LogEvent) : Type 0 where
  pub idled : idle ≤ idle_turns 0 log
  pub job : ℕ
  pub inside : job < length jobs
  pub unanswered : is_answered (quiets_at jobs) (ended_in log) job ≡ false

-- what a fault says of the log
abbrev pub IsFaulted : List Job → ℕ → List LogEvent → RunFault → Type 0
IsFaulted jobs idle log (Stranger u) = first_strange (lends_at jobs) (quiets_at jobs) nothing_seen log ≡ Some u
IsFaulted jobs idle log Stalled = IsStalled jobs idle log
IsFaulted jobs idle log PartnerFault = Unit {0}
IsFaulted jobs idle log NoMemory = Unit {0}
IsFaulted jobs idle log BadSize = ⊥
IsFaulted jobs idle log (BadJob n) = ⊥

-- The report of a run: its outcomes, and its journal, which is that of the log's gain, where the log is told.
pub record IsReported {P : Type 0} (log : P → Option (List LogEvent)) (old : P) (jobs : List Job) (moves : List Move) (report : Report) : Type 0 where
  pub answered : IsAnswered jobs (log_of moves) report.outcomes.items
  pub journal : IfSome (log old) (λ _. report.journal.items ≡ journal_of (log_of moves))

-- what a run of valid sizes and jobs did, and what its answer tells
pub record RunSays {W : Type 0} (mach : schedule.Machine W) (view : W → Files) (Plain : W → Type 0) {P : Type 0} (log : P → Option (List LogEvent)) (state : P → Option (schedule.State W)) (old new : P) (jobs : List Job) (capacity idle : ℕ) (result : Result Report RunFault) : Type 0 where
  pub ran : Ran mach log state old new (entries_from 0 jobs)
  pub full : InFullTurns capacity (length jobs) idle ran.moves
  pub report : IfOk result (IsReported log old jobs ran.moves)
  pub fault : IfErr result (IsFaulted jobs idle (log_of ran.moves))
  -- over a partner that tells its files and began idle
  pub memory : (a : schedule.State W) → state old ≡ Some a → IsPlainAndIdle Plain a → (b : schedule.State W) × (state new ≡ Some b) × Explains view Plain (model_jobs jobs) a ran.moves b result

-- how many posts a journal has
abbrev pub count_posts : List Event → ℕ
count_posts [] = 0
count_posts (Turn p ∷ events) = count_posts events
count_posts (Take job ∷ events) = count_posts events
count_posts (Post job result fin ∷ events) = suc (count_posts events)
count_posts (Quiet job ∷ events) = count_posts events

-- the positions of a ring after a run: one more for each job, and one more for each post, where the log is told
abbrev pub PlacesRanOn : {R P : Type 0} → (R → ℕ) → (R → ℕ) → (P → Option (List LogEvent)) → P → R → R → ℕ → List Event → Type 0
PlacesRanOn offer_place reap_place log partner before after jobs journal =
    Advances (offer_place before) jobs (offer_place after)
    × IfSome (log partner) (λ _. Advances (reap_place before) (count_posts journal) (reap_place after))

-- the report of a run that gives its ring back
abbrev pub report_in : {R : Type 0} → Result (Report × R) RunFault → Result Report RunFault
report_in (Ok ran) = Ok ran.0
report_in (Err fault) = Err fault

-- sizes and jobs that a run takes
pub record IsValidRun (sq cq : ℕ) (jobs : List Job) : Type 0 where
  pub size : is_valid_size sq cq ≡ true
  pub jobs_valid : first_bad 0 jobs ≡ None

-- the refusals before all else: the sizes first, then the first job that isn't valid
abbrev pub refusal : ℕ → ℕ → List Job → Option RunFault
refusal sq cq jobs = if is_valid_size sq cq then option_map BadJob (first_bad 0 jobs) else Some BadSize
