-- What stands behind each status of the command whose partner has a thread of its own.
use Rattle.std.specs.Prelude.{◌≡◌, ◌⊎◌, ℕ, List, Option, Result, Ok, Err}
use Rattle.std.specs.Io.KnownBytes.{Appends}
use Rattle.uring_base.specs.declared.events.LogEvent.{LogEvent}
use Rattle.uring_model.specs.declared.jobs.Report.{Report}
use Rattle.uring_model.specs.declared.jobs.RunFault.{RunFault}
use Rattle.uring_model.specs.declared.jobs.RunFault.TheVariants as faults
use Rattle.uring_model.specs.Machine.{Files}
use Rattle.uring_model.specs.Schedule as schedule
use Rattle.run_loop.specs.Runs.{IsValidRun}
use Rattle.run_loop.specs.SharedRuns.{SharedSays}
use Rattle.uring_streams.specs.Bytes.{AppendsFront}
use Rattle.uring_text.specs.Report.{text_of}
use Rattle.uring_text.specs.Script.{Told}
use Rattle.uring_text.specs.declared.status.Status.{Status}
use Rattle.uring_text.specs.declared.status.Status.TheVariants as ends
use Rattle.uring_cli.specs.declared.words.Options.{Options}
use Rattle.uring_cli.specs.Seeds.{IsSeeded, IsPartSeeded}
use Rattle.uring_cli.specs.Runs.{RefusedRun}

-- of one machine, and of a partner by what it tells
module _ {W : Type 0} (mach : schedule.Machine W) (view : W → Files) (Plain : W → Type 0) (put : ℕ → List ℕ → W → W) {P : Type 0} (log : P → Option (List LogEvent)) (state : P → Option (schedule.State W)) (plan : P → List ℕ) where
  -- The script's files and choices were put in, and its jobs were run with this answer.
  pub record SharedExecuted (told : Told) (options : Options) (before after : P) (answer : Result Report RunFault) : Type 0 where
    pub given : P
    pub seeds : IsSeeded put log state plan told.files told.choices before given
    pub valid : IsValidRun options.sq options.cq told.jobs
    pub says : SharedSays mach view Plain log state given after told.jobs answer

  -- What the partner did for a script of which there is no report. A run is never given up.
  abbrev pub SharedFailed : Told → Options → P → P → Status → Type 0
  SharedFailed told options before after ends.BadSize = RefusedRun mach view Plain put log state plan told options before after faults.BadSize
  SharedFailed told options before after (ends.BadJob job) = RefusedRun mach view Plain put log state plan told options before after (faults.BadJob job)
  SharedFailed told options before after (ends.Stranger number) = SharedExecuted told options before after (Err (faults.Stranger number))
  SharedFailed told options before after ends.PartnerFault = IsPartSeeded put log state plan told.files told.choices before after ⊎ SharedExecuted told options before after (Err faults.PartnerFault)
  SharedFailed told options before after ends.NoMemory = IsPartSeeded put log state plan told.files told.choices before after ⊎ ((answer : Result Report RunFault) × SharedExecuted told options before after answer)
  SharedFailed told options before after ends.Stalled = ⊥
  SharedFailed told options before after ends.Done = ⊥
  SharedFailed told options before after ends.Usage = ⊥
  SharedFailed told options before after ends.ReadFault = ⊥
  SharedFailed told options before after ends.TooLong = ⊥
  SharedFailed told options before after (ends.Script line) = ⊥
  SharedFailed told options before after ends.WriteFault = ⊥

  -- A script was read and its jobs were run; of the report's text as much was written as `Wrote` says.
  pub record SharedReported (Gave : Told → Type 0) (Wrote : List ℕ → Type 0) (options : Options) (before after : P) : Type 0 where
    pub told : Told
    pub gave : Gave told
    pub report : Report
    pub executed : SharedExecuted told options before after (Ok report)
    pub wrote : Wrote (text_of report.outcomes.items report.journal.items)

  -- A script was read, and there was no report.
  pub record SharedFellShort (Gave : Told → Type 0) (options : Options) (before after : P) (status : Status) : Type 0 where
    pub told : Told
    pub gave : Gave told
    pub failed : SharedFailed told options before after status

  -- what the partner that came back did for the script that the source gave, and what was written of the report
  abbrev pub SharedRuns : (Told → Type 0) → Option (List ℕ) → Option (List ℕ) → Options → P → P → Status → Type 0
  SharedRuns Gave written written' options before after ends.Done = SharedReported Gave (Appends written written') options before after
  SharedRuns Gave written written' options before after ends.WriteFault = SharedReported Gave (AppendsFront written written') options before after
  SharedRuns Gave written written' options before after ends.BadSize = SharedFellShort Gave options before after ends.BadSize
  SharedRuns Gave written written' options before after (ends.BadJob job) = SharedFellShort Gave options before after (ends.BadJob job)
  SharedRuns Gave written written' options before after (ends.Stranger number) = SharedFellShort Gave options before after (ends.Stranger number)
  SharedRuns Gave written written' options before after ends.Stalled = ⊥
  SharedRuns Gave written written' options before after ends.PartnerFault = SharedFellShort Gave options before after ends.PartnerFault
  SharedRuns Gave written written' options before after ends.NoMemory = (after ≡ before) ⊎ SharedFellShort Gave options before after ends.NoMemory
  SharedRuns Gave written written' options before after ends.Usage = after ≡ before
  SharedRuns Gave written written' options before after ends.ReadFault = after ≡ before
  SharedRuns Gave written written' options before after ends.TooLong = after ≡ before
  SharedRuns Gave written written' options before after (ends.Script line) = after ≡ before
