-- When a run is at its end.
use Rattle.std.specs.Prelude.{◌≡◌, ℕ, ◌<◌, true, false, List, length, [], ◌++◌, map, Some, All, IsSome}
use Rattle.uring_base.specs.declared.events.Taken.{Taken}
use Rattle.uring_model.specs.Machine.{Files}
use Rattle.uring_model.specs.Jobs.{Job, quiets_are_linked, quiets_of}
use Rattle.uring_model.specs.Replay.{ReplayState, last_unlinked, replay, IsWhole, table}
use Rattle.uring_model.specs.Moves.{Move, took, journal_of, log_of}
use Rattle.uring_model.specs.Progress.{settlings}
use Rattle.uring_model.specs.Strange.{is_answered, ended_in}
use Rattle.uring_model.specs.Turn.{posts_of, turn}
use Rattle.uring_model.specs.Partner.{job_of, PartnerState, Steps, IsIdle, idle}
use Rattle.uring_model.specs.Explained.{Numbered, Explained}

-- where each outcome is set, the state is whole
abbrev pub WholeWhereSet : Type 0
WholeWhereSet = (s : ReplayState) → All IsSome (table s) → IsWhole s

-- where the state is whole, each outcome is set
abbrev pub SetWhereWhole : Type 0
SetWhereWhole = (s : ReplayState) → IsWhole s → All IsSome (table s)

-- as many settlings as jobs set every outcome
abbrev pub WholeByCount : Type 0
WholeByCount = (jobs : List Job) (files : Files) (choices : List ℕ) (ms : List Move) (b : PartnerState) (e : Explained jobs files choices ms b) → settlings ms ≡ length jobs → IsWhole e.state

-- where every entry was taken and nothing is pending, the replay is whole
abbrev pub WholeAtEnd : Type 0
WholeAtEnd =
    (jobs : List Job) (files : Files) (choices : List ℕ) (ms : List Move) (b : PartnerState) (s : ReplayState)
    → map job_of (took ms) ≡ last_unlinked jobs → Numbered 0 (took ms) → Steps false (idle files choices) ms b
    → replay jobs files (journal_of (log_of ms)) ≡ Some s → b.pending ≡ [] → IsWhole s

-- where the replay is whole, the partner is idle
abbrev pub IdleWhereWhole : Type 0
IdleWhereWhole =
    (jobs : List Job) (files : Files) (choices : List ℕ) (ms : List Move) (ahead : List Taken) (b : PartnerState) (s : ReplayState)
    → map job_of (took ms ++ ahead) ≡ last_unlinked jobs → Numbered 0 (took ms ++ ahead) → Steps false (idle files choices) ms b
    → replay jobs files (journal_of (log_of ms)) ≡ Some s → IsWhole s → IsIdle b

-- where every entry was taken and nothing is pending, each job is answered, if each quiet one is linked
abbrev pub AnsweredAtEnd : Type 0
AnsweredAtEnd =
    (jobs : List Job) (files : Files) (choices : List ℕ) (ms : List Move) (b : PartnerState)
    → quiets_are_linked jobs ≡ true → map job_of (took ms) ≡ last_unlinked jobs → Numbered 0 (took ms) → Steps false (idle files choices) ms b
    → b.pending ≡ [] → (j : ℕ) → j < length jobs → is_answered (quiets_of jobs) (ended_in (log_of ms)) j ≡ true

-- where every entry was taken and something is pending, a turn with room posts, if each quiet job is linked
abbrev pub LastTurnsPost : Type 0
LastTurnsPost =
    (jobs : List Job) (files : Files) (choices : List ℕ) (ms : List Move) (b : PartnerState) (room : ℕ)
    → quiets_are_linked jobs ≡ true → map job_of (took ms) ≡ last_unlinked jobs → Steps false (idle files choices) ms b
    → 0 < length b.pending → 0 < room → 0 < length (posts_of (turn [] room b).ends)

-- where each job is answered, the replay is whole, if each quiet job is linked
abbrev pub WholeWhereAnswered : Type 0
WholeWhereAnswered =
    (jobs : List Job) (files : Files) (choices : List ℕ) (ms : List Move) (ahead : List Taken) (b : PartnerState) (s : ReplayState)
    → quiets_are_linked jobs ≡ true → map job_of (took ms ++ ahead) ≡ last_unlinked jobs → Numbered 0 (took ms ++ ahead) → Steps false (idle files choices) ms b
    → replay jobs files (journal_of (log_of ms)) ≡ Some s → ((j : ℕ) → j < length jobs → is_answered (quiets_of jobs) (ended_in (log_of ms)) j ≡ true) → IsWhole s
