-- What stands behind each status of the command.
use Rattle.std.specs.Prelude.{◌≡◌, ◌⊎◌, ℕ, ◌-◌, ◌^◌, ◌≤◌, ◌<◌, List, [], length, Option, Some, Ok, ⊤}
use Rattle.std.specs.Io.KnownBytes.{Appends}
use Rattle.uring_base.specs.declared.events.LogEvent.{LogEvent}
use Rattle.uring_base.specs.Causes.{Rose}
use Rattle.uring_model.specs.declared.jobs.Report.{Report}
use Rattle.uring_model.specs.Machine.{Files}
use Rattle.uring_model.specs.Schedule as schedule
use Rattle.uring_model.specs.Refines.{IsPlainAndIdle}
use Rattle.run_loop.specs.Runs.{IsValidRun}
use Rattle.uring_streams.specs.Bytes.{AppendsFront}
use Rattle.uring_streams.specs.declared.read.TheConstants.{INPUT_LIMIT}
use Rattle.uring_text.specs.Lines.{lines_of}
use Rattle.uring_text.specs.Report.{text_of}
use Rattle.uring_text.specs.Script.{Told, script_of}
use Rattle.uring_text.specs.declared.status.Status.{Status}
use Rattle.uring_text.specs.declared.status.Status.TheVariants as ends
use Rattle.uring_cli.specs.declared.words.Options.{Options}
use Rattle.uring_cli.specs.Input.{GaveNone}
use Rattle.uring_cli.specs.Runs.{Executed, FailedRun}

-- what the source gave where no script came of it: the bytes left, their count and the faults, each before the call and
-- after it. Where memory runs out the script may have been read, or not.
abbrev pub Reads : Option (List ℕ) → Option (List ℕ) → ℕ → ℕ → ℕ → ℕ → Status → Type 0
Reads left left' taken taken' faults faults' ends.ReadFault = GaveNone left left' taken taken' faults faults' ends.ReadFault
Reads left left' taken taken' faults faults' ends.TooLong = GaveNone left left' taken taken' faults faults' ends.TooLong
Reads left left' taken taken' faults faults' (ends.Script line) = GaveNone left left' taken taken' faults faults' (ends.Script line)
Reads left left' taken taken' faults faults' ends.NoMemory = GaveNone left left' taken taken' faults faults' ends.NoMemory
Reads left left' taken taken' faults faults' ends.Usage = ⊤
Reads left left' taken taken' faults faults' ends.Done = ⊤
Reads left left' taken taken' faults faults' ends.BadSize = ⊤
Reads left left' taken taken' faults faults' (ends.BadJob job) = ⊤
Reads left left' taken taken' faults faults' (ends.Stranger number) = ⊤
Reads left left' taken taken' faults faults' ends.Stalled = ⊤
Reads left left' taken taken' faults faults' ends.PartnerFault = ⊤
Reads left left' taken taken' faults faults' ends.WriteFault = ⊤

-- A script was read and its jobs were run; of the report's text as much was written as `Wrote` says.
pub record Reported {W : Type 0} (mach : schedule.Machine W) (view : W → Files) (Plain : W → Type 0) (put : ℕ → List ℕ → W → W) {P : Type 0} (log : P → Option (List LogEvent)) (state : P → Option (schedule.State W)) (plan : P → List ℕ) (Gave : Told → Type 0) (Wrote : List ℕ → Type 0) (options : Options) (before after : P) : Type 0 where
  pub told : Told
  pub gave : Gave told
  pub report : Report
  pub executed : Executed mach view Plain put log state plan told options before after (Ok report)
  pub wrote : Wrote (text_of report.outcomes.items report.journal.items)

-- A script was read, and there was no report.
pub record FellShort {W : Type 0} (mach : schedule.Machine W) (view : W → Files) (Plain : W → Type 0) (put : ℕ → List ℕ → W → W) {P : Type 0} (log : P → Option (List LogEvent)) (state : P → Option (schedule.State W)) (plan : P → List ℕ) (Gave : Told → Type 0) (options : Options) (before after : P) (status : Status) : Type 0 where
  pub told : Told
  pub gave : Gave told
  pub failed : FailedRun mach view Plain put log state plan told options before after status

-- what the partner did for the script that the source gave, and what was written of the report: all of it where it is
-- done, and a front of it where the sink failed
abbrev pub Runs : {W : Type 0} → schedule.Machine W → (W → Files) → (W → Type 0) → (ℕ → List ℕ → W → W) → {P : Type 0} → (P → Option (List LogEvent)) → (P → Option (schedule.State W)) → (P → List ℕ) → (Told → Type 0) → Option (List ℕ) → Option (List ℕ) → Options → P → P → Status → Type 0
Runs mach view Plain put log state plan Gave written written' options before after ends.Done = Reported mach view Plain put log state plan Gave (Appends written written') options before after
Runs mach view Plain put log state plan Gave written written' options before after ends.WriteFault = Reported mach view Plain put log state plan Gave (AppendsFront written written') options before after
Runs mach view Plain put log state plan Gave written written' options before after ends.BadSize = FellShort mach view Plain put log state plan Gave options before after ends.BadSize
Runs mach view Plain put log state plan Gave written written' options before after (ends.BadJob job) = FellShort mach view Plain put log state plan Gave options before after (ends.BadJob job)
Runs mach view Plain put log state plan Gave written written' options before after (ends.Stranger number) = FellShort mach view Plain put log state plan Gave options before after (ends.Stranger number)
Runs mach view Plain put log state plan Gave written written' options before after ends.Stalled = FellShort mach view Plain put log state plan Gave options before after ends.Stalled
Runs mach view Plain put log state plan Gave written written' options before after ends.PartnerFault = FellShort mach view Plain put log state plan Gave options before after ends.PartnerFault
Runs mach view Plain put log state plan Gave written written' options before after ends.NoMemory = (after ≡ before) ⊎ FellShort mach view Plain put log state plan Gave options before after ends.NoMemory
Runs mach view Plain put log state plan Gave written written' options before after ends.Usage = after ≡ before
Runs mach view Plain put log state plan Gave written written' options before after ends.ReadFault = after ≡ before
Runs mach view Plain put log state plan Gave written written' options before after ends.TooLong = after ≡ before
Runs mach view Plain put log state plan Gave written written' options before after (ends.Script line) = after ≡ before

-- the sink: nothing was written but where the report was
abbrev pub Writes : {O : Type 0} → O → O → ℕ → ℕ → Status → Type 0
Writes old new faults faults' ends.Done = ⊤
Writes old new faults faults' ends.WriteFault = Rose faults faults'
Writes old new faults faults' ends.Usage = new ≡ old
Writes old new faults faults' ends.ReadFault = new ≡ old
Writes old new faults faults' ends.TooLong = new ≡ old
Writes old new faults faults' (ends.Script line) = new ≡ old
Writes old new faults faults' ends.BadSize = new ≡ old
Writes old new faults faults' (ends.BadJob job) = new ≡ old
Writes old new faults faults' (ends.Stranger number) = new ≡ old
Writes old new faults faults' ends.Stalled = new ≡ old
Writes old new faults faults' ends.PartnerFault = new ≡ old
Writes old new faults faults' ends.NoMemory = new ≡ old

-- where a count of faults stops
abbrev pub last_count : ℕ
last_count = 2 ^ 64 - 1

-- The command with these options on a script that isn't too long, with sizes and jobs that are valid, over an idle partner
-- without planned faults, and no fault of a stream in the call or at the end of its count.
pub record IsGoodCall {W : Type 0} (Plain : W → Type 0) (options : Options) (text : List ℕ) (before : schedule.State W) (plan : List ℕ) (read read' write write' : ℕ) : Type 0 where
  pub short : length text ≤ INPUT_LIMIT
  pub told : Told
  pub script : script_of (lines_of text) ≡ Some told
  pub valid : IsValidRun options.sq options.cq told.jobs
  pub idle : IsPlainAndIdle Plain before
  pub unplanned : plan ≡ []
  pub reads : read' ≡ read
  pub read_room : read < last_count
  pub writes : write' ≡ write
  pub write_room : write < last_count
