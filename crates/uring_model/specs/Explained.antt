-- What the moves of a partner whose files are told mean.
use Rattle.std.specs.Prelude.{◌≡◌, ℕ, ◌+◌, false, List, [], ◌∷◌, ◌++◌, length, map, replicate, pos, Option, Some, None, slice_get, slice_set}
use Rattle.uring_base.specs.declared.events.Taken.{Taken}
use Rattle.uring_base.specs.declared.events.Completion.{Completion}
use Rattle.uring_base.specs.Loans.{part_of}
use Rattle.uring_model.specs.Machine.{Files}
use Rattle.uring_model.specs.Jobs.{Job}
use Rattle.uring_model.specs.Replay.{Result, ReplayState, last_unlinked, first_state, replay, table}
use Rattle.uring_model.specs.Chosen.{IsChosen}
use Rattle.uring_model.specs.Moves.{Move, Turned, Took, Posted, Quieted, took, journal_of, log_of}
use Rattle.uring_model.specs.Partner.{job_of, PartnerState, Steps, IsServed, IsIdle, idle}

-- the entries carry the numbers from n on
abbrev pub Numbered : ℕ → List Taken → Type 0
Numbered n [] = Unit {0}
Numbered n (t ∷ ts) = (t.entry.user_data ≡ n) × Numbered (n + 1) ts

-- the table of outcomes with what a completion says of its job: the result, and the part of the loan that came back
abbrev pub record_post : List (Option Result) → Completion → List (Option Result)
record_post outs c = slice_set outs c.user_data (Some (record { result = c.result; buf = part_of c.loan }))

-- the table with what a quiet end says: the result 0 and no bytes
abbrev pub record_quiet : List (Option Result) → ℕ → List (Option Result)
record_quiet outs n = slice_set outs n (Some (record { result = pos 0; buf = [] }))

-- the table with what all these settlings say
abbrev pub record_all : List (Option Result) → List Move → List (Option Result)
record_all outs [] = outs
record_all outs (Turned p ∷ ms) = record_all outs ms
record_all outs (Took t ∷ ms) = record_all outs ms
record_all outs (Posted c ∷ ms) = record_all (record_post outs c) ms
record_all outs (Quieted n ∷ ms) = record_all (record_quiet outs n) ms

-- each settling is the first of its job
abbrev pub AllFresh : List (Option Result) → List Move → Type 0
AllFresh outs [] = Unit {0}
AllFresh outs (Turned p ∷ ms) = AllFresh outs ms
AllFresh outs (Took t ∷ ms) = AllFresh outs ms
AllFresh outs (Posted c ∷ ms) = (slice_get outs c.user_data ≡ Some None) × AllFresh (record_post outs c) ms
AllFresh outs (Quieted n ∷ ms) = (slice_get outs n ≡ Some None) × AllFresh (record_quiet outs n) ms

-- The journal of the moves replays to a state, chosen by the choices. The state has the partner's files, and its
-- outcomes are what the settlings say, each of them the first of its job.
pub record Explained (jobs : List Job) (files : Files) (choices : List ℕ) (ms : List Move) (b : PartnerState) : Type 0 where
  pub state : ReplayState
  pub replays : replay jobs files (journal_of (log_of ms)) ≡ Some state
  pub chosen : IsChosen (journal_of (log_of ms)) choices false (first_state jobs files)
  pub files_at_end : state.files ≡ b.world
  pub outcomes : table state ≡ record_all (replicate (length jobs) None) ms
  pub fresh : AllFresh (replicate (length jobs) None) ms

-- the law: entries that ask what the jobs ask, in their order and by their numbers, are served from an idle partner
abbrev pub MovesAreExplained : Type 0
MovesAreExplained =
    (jobs : List Job) (files : Files) (choices : List ℕ) (ms : List Move) (ahead : List Taken) (b : PartnerState)
    → map job_of (took ms ++ ahead) ≡ last_unlinked jobs → Numbered 0 (took ms ++ ahead) → Steps false (idle files choices) ms b → Explained jobs files choices ms b

-- the same for whole calls
abbrev pub CallsAreExplained : Type 0
CallsAreExplained =
    (jobs : List Job) (files : Files) (choices : List ℕ) (ms : List Move) (ahead : List Taken) (b : PartnerState)
    → map job_of (took ms ++ ahead) ≡ last_unlinked jobs → Numbered 0 (took ms ++ ahead) → IsServed (Some (idle files choices)) ms (Some b) → Explained jobs files choices ms b

-- whole calls to a partner that is idle are moves from its files and choices
abbrev pub IdleCallsAreMoves : Type 0
IdleCallsAreMoves = (a b : PartnerState) (ms : List Move) → IsIdle a → IsServed (Some a) ms (Some b) → Steps false (idle a.world a.choices) ms b

-- the same for whole calls to any partner that is idle
abbrev pub IdlePartnersAreExplained : Type 0
IdlePartnersAreExplained =
    (jobs : List Job) (ms : List Move) (ahead : List Taken) (a b : PartnerState)
    → IsIdle a → map job_of (took ms ++ ahead) ≡ last_unlinked jobs → Numbered 0 (took ms ++ ahead) → IsServed (Some a) ms (Some b) → Explained jobs a.world a.choices ms b
