-- The journal of a run of a number's jobs, and what is told of it.
use Rattle.std.specs.Prelude.{◌≡◌, ℕ, zero, suc, ◌+◌, true, if◌then◌else◌, List, [], ◌∷◌, ◌++◌, length, take, drop, ℤ, Some, unwrap_or, option_map, codes, decimal}
use Rattle.std.specs.FinMap.{get, insert}
use Rattle.std.specs.FinMap as finite
use Rattle.uring_base.specs.declared.events.Event.{Event}
use Rattle.uring_base.specs.declared.events.Event.TheVariants.{Turn, Take, Post, Quiet}
use Rattle.uring_model.specs.Machine.{Files}
use Rattle.uring_model.specs.Jobs.{model_jobs, is_success}
use Rattle.uring_model.specs.Replay.{Row, Open, Done, ReplayState, replay, IsWhole}
use Rattle.job_generator.specs.Generator.{generated}

-- so many jobs are taken, from number n on
abbrev pub takes : ℕ → ℕ → List Event
takes n zero = []
takes n (suc count) = Take n ∷ takes (n + 1) count

-- jobs settle with these results, from number n on
abbrev pub posts : ℕ → List ℤ → List Event
posts n [] = []
posts n (result ∷ results) = Post n result true ∷ posts (n + 1) results

-- a group: its turn, its takes, its posts
abbrev pub group : ℕ → List ℤ → List Event
group n results = Turn (length results) ∷ (takes n (length results) ++ posts n results)

-- groups of 64, of which the last may be smaller, and at most `left` of them
abbrev pub groups : ℕ → ℕ → List ℤ → List Event
groups zero n results = []
groups (suc left) n [] = []
groups (suc left) n (result ∷ results) = group n (take 64 (result ∷ results)) ++ groups left (n + 64) (drop 64 (result ∷ results))

-- all jobs, in groups, with these results
abbrev pub in_groups : List ℤ → List Event
in_groups results = groups (length results) 0 results

-- files 0 to 3, without bytes
abbrev pub empty_files : Files
empty_files = insert (insert (insert (insert finite.empty 0 []) 1 []) 2 []) 3 []

-- The journal of so many jobs of the generator, which replays to this end: all jobs in groups, each with its replay's result.
pub record IsJournalOf (count : ℕ) (journal : List Event) (end : ReplayState) : Type 0 where
  pub results : List ℤ
  pub counted : length results ≡ count
  pub grouped : journal ≡ in_groups results
  pub replays : replay (model_jobs (generated count)) empty_files journal ≡ Some end
  pub whole : IsWhole end

-- how many results are negative
abbrev pub negatives : List Row → ℕ
negatives [] = 0
negatives (Open job marked ∷ rows) = negatives rows
negatives (Done job r ∷ rows) = if is_success r.result then negatives rows else suc (negatives rows)

-- how many turns there are
abbrev pub turns_in : List Event → ℕ
turns_in [] = 0
turns_in (Turn p ∷ events) = suc (turns_in events)
turns_in (Take job ∷ events) = turns_in events
turns_in (Post job result fin ∷ events) = turns_in events
turns_in (Quiet job ∷ events) = turns_in events

-- how many bytes a file has, and files 0 to 3 together
abbrev pub bytes_of : Files → ℕ → ℕ
bytes_of files number = unwrap_or (option_map length (get files number)) 0

abbrev pub bytes_in : Files → ℕ
bytes_in files = bytes_of files 0 + bytes_of files 1 + bytes_of files 2 + bytes_of files 3

-- the four lines that are told of it
abbrev pub line : List ℕ → ℕ → List ℕ
line name number = name ++ codes " " ++ decimal number ++ codes "\n"

abbrev pub summary : ℕ → List Event → ReplayState → List ℕ
summary count journal end =
    line (codes "jobs") count ++ line (codes "negative") (negatives end.rows) ++ line (codes "turns") (turns_in journal) ++ line (codes "bytes") (bytes_in end.files)
