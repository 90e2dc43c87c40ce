-- A partner whose files are told posts nothing strange.
use Rattle.std.specs.Prelude.{◌≡◌, ℕ, ◌-◌, ◌<◌, Bool, true, false, is_some, List, [], ◌∷◌, ◌++◌, map, None, All}
use Rattle.uring_base.specs.declared.events.Taken.{Taken}
use Rattle.uring_base.specs.declared.events.Completion.{Completion}
use Rattle.uring_model.specs.Machine.{Files}
use Rattle.uring_model.specs.Jobs.{Job, quiets_are_linked, quiets_of}
use Rattle.uring_model.specs.Replay.{last_unlinked}
use Rattle.uring_model.specs.Moves.{Move, Turned, Took, Posted, Quieted, took, posted, quieted, log_of}
use Rattle.uring_model.specs.Partner.{job_of, PartnerState, Cursor, answer_to, completion_of, is_quiet_end, Steps, idle}
use Rattle.uring_model.specs.Explained.{Numbered}
use Rattle.uring_model.specs.Strange.{nothing_seen, has_other_number, first_strange}

-- Each turn over p entries is followed by at most p takes before the next one; `left` may still follow.
abbrev pub TakesWithinTurns : ℕ → List Move → Type 0
TakesWithinTurns left [] = Unit {0}
TakesWithinTurns left (Turned p ∷ ms) = TakesWithinTurns p ms
TakesWithinTurns left (Took t ∷ ms) = (0 < left) × TakesWithinTurns (left - 1) ms
TakesWithinTurns left (Posted c ∷ ms) = TakesWithinTurns left ms
TakesWithinTurns left (Quieted n ∷ ms) = TakesWithinTurns left ms

-- An entry has a loan exactly where its job lends, and the loan has its number.
pub record HasOwnLoan (lends : ℕ → Bool) (t : Taken) : Type 0 where
  pub lent : lends t.entry.user_data ≡ is_some t.loan
  pub number : has_other_number t.entry.user_data t.loan ≡ false

-- An idle partner over entries that ask what the jobs ask, each with its own loan, posts nothing strange, if each quiet job is
-- linked.
abbrev pub NoPostIsStrange : Type 0
NoPostIsStrange =
    (lends : ℕ → Bool) (jobs : List Job) (files : Files) (choices : List ℕ) (ms : List Move) (ahead : List Taken) (b : PartnerState)
    → quiets_are_linked jobs ≡ true → map job_of (took ms ++ ahead) ≡ last_unlinked jobs → Numbered 0 (took ms ++ ahead) → Steps false (idle files choices) ms b
    → All (HasOwnLoan lends) (took ms) → TakesWithinTurns 0 ms
    → first_strange lends (quiets_of jobs) nothing_seen (log_of ms) ≡ None

-- Each post answers an entry that was taken: what holds of every answer that isn't a quiet end to an entry of which something
-- holds, holds of each post, where that holds of each entry.
abbrev pub PostsAnswer : Type 0
PostsAnswer =
    (asks : Taken → Bool) (answers : Completion → Bool) (files : Files) (choices : List ℕ) (ms : List Move) (b : PartnerState)
    → ((now : Files) (c : Cursor) → asks c.item.taken ≡ true → is_quiet_end now c ≡ false → answers (completion_of c.item.taken (answer_to now c)) ≡ true)
    → Steps false (idle files choices) ms b
    → All (λ t. asks t ≡ true) (took ms) → All (λ c. answers c ≡ true) (posted ms)

-- Each quiet end is of a quiet entry that was taken: what holds of the number of each such entry holds of each quiet end.
abbrev pub QuietsAnswer : Type 0
QuietsAnswer =
    (ends : ℕ → Bool) (files : Files) (choices : List ℕ) (ms : List Move) (b : PartnerState)
    → Steps false (idle files choices) ms b
    → All (λ t. (job_of t).quiet ≡ true → ends t.entry.user_data ≡ true) (took ms) → All (λ n. ends n ≡ true) (quieted ms)
