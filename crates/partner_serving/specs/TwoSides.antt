-- A run whose two sides are known by their own lists alone.
use Rattle.std.specs.Prelude.{◌≡◌, ℕ, ◌*◌, ◌<◌, ◌≤◌, Bool, true, List, [], ◌++◌, length, map, Option, Some, None, All}
use Rattle.std.specs.Bool.{OnTrue}
use Rattle.uring_base.specs.declared.events.Taken.{Taken}
use Rattle.uring_base.specs.declared.events.Completion.{Completion}
use Rattle.uring_base.specs.declared.events.LogEvent.{LogEvent}
use Rattle.uring_model.specs.Machine.{Files}
use Rattle.uring_model.specs.Jobs.{Job, quiets_are_linked, quiets_of}
use Rattle.uring_model.specs.Replay.{last_unlinked, IsWhole}
use Rattle.uring_model.specs.Moves.{Move, Posted, took, posted, log_of}
use Rattle.uring_model.specs.Asks.{job_of, IsJobEntry}
use Rattle.uring_model.specs.Schedule.{Machine, State}
use Rattle.uring_model.specs.Progress.{turns}
use Rattle.uring_model.specs.Refines.{IsPlainAndIdle, viewed}
use Rattle.uring_model.specs.Explained.{Numbered, Explained}
use Rattle.uring_model.specs.Honest.{HasOwnLoan}
use Rattle.uring_model.specs.Strange.{Seen, nothing_seen, first_strange, ended_in, is_answered}
use Rattle.ring_traits.specs.Lists.{IsKept}
use Rattle.partner_serving.specs.Serving.{Serving}

-- The entries ask what the jobs ask, in their order and by their numbers, each with its own loan where its job lends one; and
-- each quiet job is linked.
pub record AreEntriesOf (lends : ℕ → Bool) (jobs : List Job) (entries : List Taken) : Type 0 where
  pub asks : map job_of entries ≡ last_unlinked jobs
  pub numbers : Numbered 0 entries
  pub operations : All IsJobEntry entries
  pub loans : All (HasOwnLoan lends) entries
  pub linked : quiets_are_linked jobs ≡ true

-- What both sides know once they met: the offered entries are the first of all, the taken ones the first of the offered, and the
-- reaped completions the first of the posted ones, as their ring keeps them.
pub record TwoSides (kept : Completion → Completion) (entries offered ts : List Taken) (cs reaped : List Completion) : Type 0 where
  pub todo : List Taken
  pub offers : entries ≡ offered ++ todo
  pub untaken : List Taken
  pub takes : offered ≡ ts ++ untaken
  pub unreaped : List Completion
  pub posts : map kept cs ≡ reaped ++ unreaped

-- what a user knows that has started so many jobs, and has reaped nothing
abbrev pub started_all : ℕ → Seen
started_all n = record { taken = 0; started = n; ended = [] }

-- each job is answered by these completions
abbrev pub AllAnswered : List Job → List Completion → Type 0
AllAnswered jobs reaped = (j : ℕ) → j < length jobs → is_answered (quiets_of jobs) (ended_in (log_of (map Posted reaped))) j ≡ true

-- all is offered, taken, settled and reaped
pub record IsAllDone {W : Type 0} (Plain : W → Type 0) (kept : Completion → Completion) (entries offered : List Taken) (reaped : List Completion) (b : State W) (ms : List Move) : Type 0 where
  pub offered_all : offered ≡ entries
  pub taken_all : took ms ≡ entries
  pub reaped_all : map kept (posted ms) ≡ reaped
  pub idle : IsPlainAndIdle Plain b

-- The moves are explained, and none of their posts is strange; nor is one that was reaped, to a user that has started the offered
-- jobs. Where each job is answered by what was reaped, and only there, all is done; then the replay is whole. An unbroken run has
-- at most two turns a job.
pub record OneRun {W : Type 0} (view : W → Files) (Plain : W → Type 0) (lends : ℕ → Bool) (jobs : List Job) (kept : Completion → Completion) (entries offered : List Taken) (reaped : List Completion) (unbroken : Bool) (a b : State W) (ms : List Move) : Type 0 where
  pub explained : Explained jobs (view a.world) a.choices ms (viewed view b)
  pub honest : first_strange lends (quiets_of jobs) nothing_seen (log_of ms) ≡ None
  pub expected : first_strange lends (quiets_of jobs) (started_all (length offered)) (log_of (map Posted reaped)) ≡ None
  pub done : AllAnswered jobs reaped → IsWhole explained.state × IsAllDone Plain kept entries offered reaped b ms
  pub answered : IsAllDone Plain kept entries offered reaped b ms → AllAnswered jobs reaped
  pub few : OnTrue unbroken (turns ms ≤ 2 * length jobs)

-- The law, of a machine over any world: what a partner that began idle in a plain world did over the entries of these jobs is one
-- run, and so it is at each moment at which the sides meet.
abbrev pub TwoSidesAreOneRun : {W : Type 0} → Machine W → (W → Files) → (W → Type 0) → Type 0
TwoSidesAreOneRun {W = W} m view Plain =
    (lends : ℕ → Bool) (jobs : List Job) (kept : Completion → Completion) (entries offered ts : List Taken) (cs reaped : List Completion) (unbroken : Bool) (log log' : Option (List LogEvent)) (a b : State W)
    → ((c : Completion) → IsKept c (kept c)) → AreEntriesOf lends jobs entries → TwoSides kept entries offered ts cs reaped
    → IsPlainAndIdle Plain a → (s : Serving m Plain unbroken log log' (Some a) (Some b) ts cs)
    → OneRun view Plain lends jobs kept entries offered reaped unbroken a b s.moves
