-- The command `gen`: its words, and what stands behind each of its statuses.
use Rattle.std.specs.Prelude.{◌≡◌, ℕ, suc, ◌+◌, Bool, false, nat_lt, if◌then◌else◌, List, [], ◌∷◌, ◌++◌, Option, Some, None, bytes_eq, codes, ⊤}
use Rattle.std.specs.Io.KnownBytes.{Appends}
use Rattle.uring_base.specs.declared.events.LogEvent.{LogEvent}
use Rattle.uring_model.specs.declared.jobs.Outcome.{Outcome}
use Rattle.uring_model.specs.declared.jobs.Report.{Report}
use Rattle.uring_model.specs.Jobs.{is_success}
use Rattle.uring_model.specs.Moves.{journal_of}
use Rattle.uring_model.specs.Replay.{ReplayState}
use Rattle.uring_model.specs.Partner.{idle}
use Rattle.file_tree.specs.Worlds.{empty_world, put_in}
use Rattle.file_tree.specs.declared.world.World.{World}
use Rattle.uring_partner.specs.declared.memory.MemoryPartner.{MemoryPartner}
use Rattle.uring_partner.specs.Told.{state_of, told_state, told_log, told_plan}
use Rattle.uring_streams.specs.Bytes.{AppendsFront}
use Rattle.uring_text.specs.Lines.{number_below}
use Rattle.uring_text.specs.declared.status.Status.{Status}
use Rattle.uring_text.specs.declared.status.Status.TheVariants as ends
use Rattle.job_generator.specs.Journal.{IsJournalOf, line, summary, turns_in}
use Rattle.uring_cli.specs.declared.gen_words.TheConstants.{MOST_JOBS}

-- the first word is `gen`
abbrev pub asks_for_jobs : List (List ℕ) → Bool
asks_for_jobs [] = false
asks_for_jobs (name ∷ words) = bytes_eq name (codes "gen")

abbrev pub if_some_job : Option ℕ → Option ℕ
if_some_job None = None
if_some_job (Some n) = if nat_lt 0 n then Some n else None

-- The number of jobs that the words say: they are `gen` and a number from 1 to the limit.
unfoldable pub count_of : List (List ℕ) → Option ℕ
count_of [] = None
count_of (name ∷ []) = None
count_of (name ∷ number ∷ []) = if bytes_eq name (codes "gen") then if_some_job (number_below (MOST_JOBS + 1) number) else None
count_of (name ∷ number ∷ word ∷ words) = None

-- how many outcomes have a negative result
abbrev pub negative_outcomes : List Outcome → ℕ
negative_outcomes [] = 0
negative_outcomes (outcome ∷ outcomes) = if is_success outcome.result then negative_outcomes outcomes else suc (negative_outcomes outcomes)

-- the summary, by a report and the bytes of the files
abbrev pub summary_told : ℕ → Report → ℕ → List ℕ
summary_told count report bytes =
    line (codes "jobs") count ++ line (codes "negative") (negative_outcomes report.outcomes.items) ++ line (codes "turns") (turns_in report.journal.items) ++ line (codes "bytes") bytes

-- files 0 to 3, without bytes, put into an empty world
abbrev pub seeded_world : World
seeded_world = put_in 3 [] (put_in 2 [] (put_in 1 [] (put_in 0 [] empty_world)))

-- the partner is as a new one
pub record IsNew (p : MemoryPartner) : Type 0 where
  pub state : told_state p ≡ Some (idle empty_world [])
  pub log : told_log p ≡ Some []
  pub plan : told_plan p ≡ []

-- So many jobs of the generator were run by this partner: its log has their journal, its files are the replay's, and what was
-- written of the summary is as `Wrote` says.
pub record RanGenerated (Wrote : List ℕ → Type 0) (count : ℕ) (p : MemoryPartner) : Type 0 where
  pub log : List LogEvent
  pub logged : told_log p ≡ Some log
  pub end : ReplayState
  pub journal : IsJournalOf count (journal_of log) end
  pub files : (state_of p).world.files ≡ end.files
  pub wrote : Wrote (summary count (journal_of log) end)

-- what was done at a status, and what was written; no other status comes
abbrev pub GeneratedAs : Option (List ℕ) → Option (List ℕ) → ℕ → MemoryPartner → Status → Type 0
GeneratedAs written written' count after ends.Done = RanGenerated (Appends written written') count after
GeneratedAs written written' count after ends.WriteFault = RanGenerated (AppendsFront written written') count after
GeneratedAs written written' count after ends.NoMemory = ⊤
GeneratedAs written written' count after ends.Usage = ⊥
GeneratedAs written written' count after ends.ReadFault = ⊥
GeneratedAs written written' count after ends.TooLong = ⊥
GeneratedAs written written' count after (ends.Script line) = ⊥
GeneratedAs written written' count after ends.BadSize = ⊥
GeneratedAs written written' count after (ends.BadJob job) = ⊥
GeneratedAs written written' count after (ends.Stranger number) = ⊥
GeneratedAs written written' count after ends.Stalled = ⊥
GeneratedAs written written' count after ends.PartnerFault = ⊥
