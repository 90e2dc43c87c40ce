-- Which jobs are answered at a place of a log, and posts that nothing asked for.
use Rattle.std.specs.Prelude.{ℕ, ◌+◌, Bool, false, ◌&&◌, ◌||◌, not, if◌then◌else◌, cond, nat_lt, nat_eq, is_some, is_none, List, [], ◌∷◌, drop, Option, Some, None}
use Rattle.std.specs.List.{list_any}
use Rattle.uring_base.specs.declared.buffer.Loan.{Loan}
use Rattle.uring_base.specs.declared.events.LogEvent.{LogEvent}
use Rattle.uring_base.specs.declared.events.LogEvent.TheVariants.{Turn, Take, Post, Quiet}

-- What is known at a place of a log: the takes before it; the takes before the last turn before it and that turn's
-- number, which is how many jobs were started; and the jobs that a final post before it ended.
pub record Seen : Type 0 where
  pub taken : ℕ
  pub started : ℕ
  pub ended : List ℕ

-- what is known before the first event
abbrev pub nothing_seen : Seen
nothing_seen = record { taken = 0; started = 0; ended = [] }

-- what is known after one more event
abbrev pub seen_after : Seen → LogEvent → Seen
seen_after seen (Turn p) = record seen { started = seen.taken + p }
seen_after seen (Take job entry) = record seen { taken = seen.taken + 1 }
seen_after seen (Post job result fin loan) = record seen { ended = cond fin (job ∷ seen.ended) seen.ended }
seen_after seen (Quiet job) = seen

-- what is known after these events
abbrev pub all_seen : Seen → List LogEvent → Seen
all_seen seen [] = seen
all_seen seen (event ∷ log) = all_seen (seen_after seen event) log

-- the jobs that a final post of the log ended, the latest first
abbrev pub ended_in : List LogEvent → List ℕ
ended_in log = (all_seen nothing_seen log).ended

-- Job j was ended by a final post, or it is quiet and the next one is answered. `quiets` says which jobs are quiet, from j on.
abbrev pub answered_from : List Bool → ℕ → List ℕ → Bool
answered_from [] j ended = list_any (nat_eq j) ended
answered_from (quiet ∷ quiets) j ended = list_any (nat_eq j) ended || (quiet && answered_from quiets (j + 1) ended)

-- the same, where `quiets` is of all jobs
abbrev pub is_answered : List Bool → List ℕ → ℕ → Bool
is_answered quiets ended j = answered_from (drop j quiets) j ended

-- a loan came, and with another number
abbrev pub has_other_number : ℕ → Option Loan → Bool
has_other_number job None = false
has_other_number job (Some loan) = not (nat_eq loan.number job)

-- A final post of a job that lends a buffer brings a loan, and no other post does.
abbrev pub has_wrong_loan : Bool → Bool → Option Loan → Bool
has_wrong_loan lends fin loan = if lends && fin then is_none loan else is_some loan

-- The job wasn't started, or is answered, or the loan isn't its own. `lends` says which jobs lend a buffer, and `quiets` which
-- are quiet.
abbrev pub is_strange : (ℕ → Bool) → List Bool → Seen → ℕ → Bool → Option Loan → Bool
is_strange lends quiets seen job fin loan =
    not (nat_lt job seen.started) || is_answered quiets seen.ended job || has_other_number job loan || has_wrong_loan (lends job) fin loan

-- the job of the first strange post
abbrev pub first_strange : (ℕ → Bool) → List Bool → Seen → List LogEvent → Option ℕ
first_strange lends quiets seen [] = None
first_strange lends quiets seen (Turn p ∷ log) = first_strange lends quiets (seen_after seen (Turn p)) log
first_strange lends quiets seen (Take job entry ∷ log) = first_strange lends quiets (seen_after seen (Take job entry)) log
first_strange lends quiets seen (Post job result fin loan ∷ log) =
    if is_strange lends quiets seen job fin loan then Some job else first_strange lends quiets (seen_after seen (Post job result fin loan)) log
first_strange lends quiets seen (Quiet job ∷ log) = first_strange lends quiets seen log
