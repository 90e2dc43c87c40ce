-- Runs without choices go in groups.
use Rattle.std.specs.Prelude.{◌≡◌, ℕ, ◌≤◌, ◌<◌, Bool, true, false, List, [], ◌∷◌, ◌++◌, length, ℤ, Some}
use Rattle.std.specs.List.{AllByRecursion}
use Rattle.uring_base.specs.declared.events.Taken.{Taken}
use Rattle.uring_base.specs.declared.events.Event.{Event}
use Rattle.uring_model.specs.Machine.{Files}
use Rattle.uring_model.specs.Jobs.{Job, model_job, is_valid_job}
use Rattle.uring_model.specs.Replay.{ReplayState, replay, first_state, IsWhole, IsBusy}
use Rattle.uring_model.specs.Chosen.{IsChosen}
use Rattle.uring_model.specs.Moves.{Move, journal_of, log_of}
use Rattle.uring_model.specs.Schedule.{EntryEnd}
use Rattle.uring_model.specs.Partner.{PartnerState}
use Rattle.uring_model.specs.Turn.{turn}
use Rattle.uring_model.specs.Progress.{moves_of_turn}
use Rattle.job_generator.specs.Generator.{generated}
use Rattle.job_generator.specs.Journal.{in_groups}

-- one turn: what it takes, and how what it settles ends
pub record Round : Type 0 where
  pub taken : List Taken
  pub ends : List EntryEnd

-- the journal of such turns in a row
abbrev pub moves_in : List Round → List Move
moves_in [] = []
moves_in (r ∷ rounds) = moves_of_turn (length r.taken) r.taken r.ends ++ moves_in rounds

abbrev pub journal_in : List Round → List Event
journal_in rounds = journal_of (log_of (moves_in rounds))

-- It takes at least one entry and at most 64, and settles as many.
pub record IsGroup (r : Round) : Type 0 where
  pub some : 0 < length r.taken
  pub fits : length r.taken ≤ 64
  pub all : length r.ends ≡ length r.taken

-- What a journal of such turns is, where no job is quiet: all jobs, in groups.
pub record GoesInGroups (jobs : List Job) (rounds : List Round) (end : ReplayState) : Type 0 where
  pub results : List ℤ
  pub counted : length results ≡ length jobs
  pub grouped : journal_in rounds ≡ in_groups results
  pub rows : length end.rows ≡ length jobs

-- A run whose turns take and settle groups, each full or with all jobs that are left, and to which no choice was given.
abbrev pub GroupsInOrder : Type 0
GroupsInOrder =
    (jobs : List Job) (files : Files) (rounds : List Round) (end : ReplayState)
    → AllByRecursion (λ job. job.quiet ≡ false) jobs → AllByRecursion IsGroup rounds → IsBusy 64 (length jobs) 0 (journal_in rounds)
    → replay jobs files (journal_in rounds) ≡ Some end → IsWhole end → IsChosen (journal_in rounds) [] false (first_state jobs files)
    → GoesInGroups jobs rounds end

-- A turn without choices, before which nothing is pending, settles all that it takes, where there is room.
abbrev pub TurnsSettleAll : Type 0
TurnsSettleAll =
    (room : ℕ) (ts : List Taken) (a : PartnerState) → a.pending ≡ [] → a.choices ≡ [] → length ts ≤ room
    → (length (turn ts room a).ends ≡ length ts) × ((turn ts room a).state.pending ≡ []) × ((turn ts room a).state.choices ≡ [])

-- Each of the jobs may be run wherever it stands, and none is quiet.
abbrev pub JobsAreValid : Type 0
JobsAreValid = (count : ℕ) → AllByRecursion (λ job. ((is_last : Bool) → is_valid_job is_last (model_job job) ≡ true) × (job.quiet ≡ false)) (generated count) × (length (generated count) ≡ count)
