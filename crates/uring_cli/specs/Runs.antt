-- What a partner did for a script.
use Rattle.std.specs.Prelude.{◌≡◌, ◌⊎◌, ℕ, Bool, true, false, List, Option, Some, Result, Err}
use Rattle.uring_base.specs.declared.events.LogEvent.{LogEvent}
use Rattle.uring_base.specs.Sizes.{rounded_up}
use Rattle.uring_model.specs.declared.jobs.Report.{Report}
use Rattle.uring_model.specs.declared.jobs.RunFault.{RunFault}
use Rattle.uring_model.specs.declared.jobs.RunFault.TheVariants as faults
use Rattle.uring_model.specs.Machine.{Files}
use Rattle.uring_model.specs.Schedule as schedule
use Rattle.run_loop.specs.Runs.{RunSays, IsValidRun, refusal}
use Rattle.uring_text.specs.Script.{Told}
use Rattle.uring_text.specs.declared.status.Status.{Status}
use Rattle.uring_text.specs.declared.status.Status.TheVariants as ends
use Rattle.uring_cli.specs.declared.words.Options.{Options}
use Rattle.uring_cli.specs.Seeds.{IsSeeded, IsPartSeeded}

-- The script's files and choices were put in, and its jobs were run with this answer.
pub record Executed {W : Type 0} (mach : schedule.Machine W) (view : W → Files) (Plain : W → Type 0) (put : ℕ → List ℕ → W → W) {P : Type 0} (log : P → Option (List LogEvent)) (state : P → Option (schedule.State W)) (plan : P → List ℕ) (told : Told) (options : Options) (before after : P) (answer : Result Report RunFault) : Type 0 where
  pub given : P
  pub seeds : IsSeeded put log state plan told.files told.choices before given
  pub valid : IsValidRun options.sq options.cq told.jobs
  pub says : RunSays mach view Plain log state given after told.jobs (rounded_up options.sq) options.idle answer

-- The script's files and choices were put in, and its jobs weren't begun.
pub record RefusedRun {W : Type 0} (mach : schedule.Machine W) (view : W → Files) (Plain : W → Type 0) (put : ℕ → List ℕ → W → W) {P : Type 0} (log : P → Option (List LogEvent)) (state : P → Option (schedule.State W)) (plan : P → List ℕ) (told : Told) (options : Options) (before after : P) (fault : RunFault) : Type 0 where
  pub seeds : IsSeeded put log state plan told.files told.choices before after
  pub refused : refusal options.sq options.cq told.jobs ≡ Some fault

-- what the partner did for a script of which there is no report
abbrev pub FailedRun : {W : Type 0} → schedule.Machine W → (W → Files) → (W → Type 0) → (ℕ → List ℕ → W → W) → {P : Type 0} → (P → Option (List LogEvent)) → (P → Option (schedule.State W)) → (P → List ℕ) → Told → Options → P → P → Status → Type 0
FailedRun mach view Plain put log state plan told options before after ends.BadSize = RefusedRun mach view Plain put log state plan told options before after faults.BadSize
FailedRun mach view Plain put log state plan told options before after (ends.BadJob job) = RefusedRun mach view Plain put log state plan told options before after (faults.BadJob job)
FailedRun mach view Plain put log state plan told options before after (ends.Stranger number) = Executed mach view Plain put log state plan told options before after (Err (faults.Stranger number))
FailedRun mach view Plain put log state plan told options before after ends.Stalled = Executed mach view Plain put log state plan told options before after (Err faults.Stalled)
FailedRun mach view Plain put log state plan told options before after ends.PartnerFault = IsPartSeeded put log state plan told.files told.choices before after ⊎ Executed mach view Plain put log state plan told options before after (Err faults.PartnerFault)
FailedRun mach view Plain put log state plan told options before after ends.NoMemory = IsPartSeeded put log state plan told.files told.choices before after ⊎ ((answer : Result Report RunFault) × Executed mach view Plain put log state plan told options before after answer)
FailedRun mach view Plain put log state plan told options before after ends.Done = ⊥
FailedRun mach view Plain put log state plan told options before after ends.Usage = ⊥
FailedRun mach view Plain put log state plan told options before after ends.ReadFault = ⊥
FailedRun mach view Plain put log state plan told options before after ends.TooLong = ⊥
FailedRun mach view Plain put log state plan told options before after (ends.Script line) = ⊥
FailedRun mach view Plain put log state plan told options before after ends.WriteFault = ⊥

abbrev pub ends_in_partner_fault : Status → Bool
ends_in_partner_fault ends.PartnerFault = true
ends_in_partner_fault ends.Done = false
ends_in_partner_fault ends.Usage = false
ends_in_partner_fault ends.ReadFault = false
ends_in_partner_fault ends.TooLong = false
ends_in_partner_fault (ends.Script line) = false
ends_in_partner_fault ends.BadSize = false
ends_in_partner_fault (ends.BadJob job) = false
ends_in_partner_fault (ends.Stranger number) = false
ends_in_partner_fault ends.Stalled = false
ends_in_partner_fault ends.WriteFault = false
ends_in_partner_fault ends.NoMemory = false
