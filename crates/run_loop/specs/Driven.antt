-- What the rounds of a run do over every partner, by the offers.
use Rattle.std.specs.Prelude.{◌≡◌, ℕ, false, ◌≤◌, ◌<◌, List, length, Option, Some}
use Rattle.uring_base.specs.declared.events.LogEvent.{LogEvent}
use Rattle.uring_model.specs.declared.jobs.RunFault.{RunFault}
use Rattle.uring_model.specs.declared.jobs.RunFault.TheVariants.{BadSize, BadJob, Stranger, Stalled, PartnerFault, NoMemory}
use Rattle.uring_model.specs.Schedule as schedule
use Rattle.uring_model.specs.Strange.{nothing_seen, first_strange, is_answered, ended_in}
use Rattle.run_loop.specs.declared.entries.Offer.{Offer}
use Rattle.run_loop.specs.Entries.{all_taken, lends_in, quiets_in}
use Rattle.run_loop.specs.Told.{idle_turns}
use Rattle.run_loop.specs.Runs.{Ran, InFullTurns}

pub record Driven {W : Type 0} (mach : schedule.Machine W) {P : Type 0} (log : P → Option (List LogEvent)) (state : P → Option (schedule.State W)) (old new : P) (offers : List Offer) (capacity idle : ℕ) : Type 0 where
  pub ran : Ran mach log state old new (all_taken offers)
  pub full : InFullTurns capacity (length offers) idle ran.moves

-- Some offer isn't answered, and neither a take nor a final post stands behind the last `idle` turns.
pub record IsOpenJob (offers : List Offer) (idle : ℕ) (log : List LogEvent) : Type 0 where
  pub idled : idle ≤ idle_turns 0 log
  pub job : ℕ
  pub inside : job < length offers
  pub unanswered : is_answered (quiets_in offers) (ended_in log) job ≡ false

abbrev pub IsGivenUp : List Offer → ℕ → List LogEvent → RunFault → Type 0
IsGivenUp offers idle log (Stranger u) = first_strange (lends_in offers) (quiets_in offers) nothing_seen log ≡ Some u
IsGivenUp offers idle log Stalled = IsOpenJob offers idle log
IsGivenUp offers idle log PartnerFault = Unit {0}
IsGivenUp offers idle log NoMemory = Unit {0}
IsGivenUp offers idle log BadSize = ⊥
IsGivenUp offers idle log (BadJob n) = ⊥
