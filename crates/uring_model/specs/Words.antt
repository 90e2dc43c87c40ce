-- What the recursions on rows say of the jobs. Job i's row is the i-th of those taken.
use Rattle.std.specs.Prelude.{◌≡◌, ℕ, ◌<◌, Bool, true, false, List, [], ◌∷◌, ◌++◌, length, Some, slice_get, All, ◌↔◌, ◌≢◌}
use Rattle.uring_model.specs.Jobs.{Job, linked, is_soft}
use Rattle.uring_model.specs.Replay.{Result, Row, Open, Done, is_bad, severed, Place, may, ready, place_of, can_mark_other, mark}

-- Job j, whose row stands behind these, may settle: its predecessor, if any, has an outcome; every drained job below
-- has one; and all have, if j is drained.
pub record MaySettle (before : List Row) (job : Job) : Type 0 where
  pub predecessor : (lower : List Row) (k : Job) (m : Bool) → before ≡ lower ++ Open k m ∷ [] → linked k.link ≡ false
  pub drained : (i : ℕ) (k : Job) (m : Bool) → slice_get before i ≡ Some (Open k m) → k.drain ≡ false
  pub alone : job.drain ≡ true → (i : ℕ) (k : Job) (m : Bool) → slice_get before i ≡ Some (Open k m) → ⊥

-- a row's job
abbrev pub job_in : Row → Job
job_in (Open job m) = job
job_in (Done job r) = job

-- the next job hangs on this row's
abbrev pub IsLinkedRow : Row → Type 0
IsLinkedRow row = linked (job_in row).link ≡ true

-- A job below has a soft link and a bad outcome, and every job from it on is linked.
pub record Severs (before : List Row) : Type 0 where
  pub lower : List Row
  pub job : Job
  pub outcome : Result
  pub upper : List Row
  pub split : before ≡ lower ++ Done job outcome ∷ upper
  pub soft : is_soft job.link ≡ true
  pub bad : is_bad job outcome.result ≡ true
  pub joined : All IsLinkedRow upper

-- The places are those of the open rows that may settle, each once, in the order of their numbers.
pub record ListsReady (rows : List Row) (ps : List Place) : Type 0 where
  pub only : (k : ℕ) (p : Place) → slice_get ps k ≡ Some p → (rows ≡ p.before ++ Open p.job p.marked ∷ p.after) × MaySettle p.before p.job
  pub each : (p : Place) → rows ≡ p.before ++ Open p.job p.marked ∷ p.after → MaySettle p.before p.job → (k : ℕ) × (slice_get ps k ≡ Some p)
  pub rise : (i k : ℕ) (p q : Place) → i < k → slice_get ps i ≡ Some p → slice_get ps k ≡ Some q → length p.before < length q.before

-- t is another job than the one at this place, and is open and unmarked.
pub record CanCancel (p : Place) (t : ℕ) : Type 0 where
  pub other : t ≢ length p.before
  pub job : Job
  pub unmarked : slice_get (p.before ++ Open p.job p.marked ∷ p.after) t ≡ Some (Open job false)

-- job t is marked, where it is open, and every other row stays
pub record MarksJob (t : ℕ) (rows after : List Row) : Type 0 where
  pub marked : (job : Job) (m : Bool) → slice_get rows t ≡ Some (Open job m) → slice_get after t ≡ Some (Open job true)
  pub done : (job : Job) (r : Result) → slice_get rows t ≡ Some (Done job r) → slice_get after t ≡ Some (Done job r)
  pub others : (k : ℕ) → k ≢ t → slice_get after k ≡ slice_get rows k
  pub count : length after ≡ length rows

-- laws: each recursion holds exactly where its words do

abbrev pub MayInWords : Type 0
MayInWords = (before : List Row) (job : Job) → (may before job ≡ true) ↔ MaySettle before job

abbrev pub SeveredInWords : Type 0
SeveredInWords = (before : List Row) → (severed false before ≡ true) ↔ Severs before

abbrev pub ReadyInWords : Type 0
ReadyInWords = (rows : List Row) → ListsReady rows (ready [] rows)

abbrev pub PlaceInWords : Type 0
PlaceInWords = (rows : List Row) (j : ℕ) (p : Place) → (place_of [] rows j ≡ Some p) ↔ ((length p.before ≡ j) × (rows ≡ p.before ++ Open p.job p.marked ∷ p.after))

abbrev pub CancelInWords : Type 0
CancelInWords = (p : Place) (t : ℕ) → (can_mark_other p t ≡ true) ↔ CanCancel p t

abbrev pub MarkInWords : Type 0
MarkInWords = (t : ℕ) (rows : List Row) → MarksJob t rows (mark t 0 rows)
