-- What a journal means: its events are folded over the files and a row for each job taken.
use Rattle.std.specs.Prelude.{◌≡◌, ℕ, ◌+◌, zero, suc, Bool, true, false, ◌&&◌, ◌||◌, not, if◌then◌else◌, cond, nat_lt, nat_eq, List, [], ◌∷◌, ◌++◌, length, replicate, ℤ, pos, negsuc, Option, Some, None, ◌⊎◌}
use Rattle.std.specs.Ordering.{int_eq}
use Rattle.uring_base.specs.declared.events.Event.{Event}
use Rattle.uring_base.specs.declared.events.Event.TheVariants.{Turn, Take, Post, Quiet}
use Rattle.uring_model.specs.declared.jobs.Link.TheVariants.{Free}
use Rattle.uring_model.specs.Machine.{Files, ModelOp, FileAnswer, step, canceled}
use Rattle.uring_model.specs.Jobs.{Job, linked, is_soft, moves_bytes, ends_quietly}

-- what came of a job
pub record Result : Type 0 where
  pub result : ℤ
  pub buf : List ℕ

-- A job that was taken: open, and marked or not, or done with its outcome. Job j's row is the j-th.
pub data Row : Type 0 where
  Open : Job → Bool → Row
  Done : Job → Result → Row

-- the files, the rows of the jobs taken, and the jobs not taken
pub record ReplayState : Type 0 where
  pub files : Files
  pub rows : List Row
  pub rest : List Job

-- the result that a job is due at least: its buffer's length for a Read or Write
abbrev pub due : ModelOp → List ℕ → ℕ
due op buf = if moves_bytes op then length buf else 0

-- a failure, or a count that is less
abbrev pub below : ℤ → ℕ → Bool
below (pos n) least = nat_lt n least
below (negsuc n) least = true

-- whether this result of a job cuts a soft link: it is less than what is due
abbrev pub is_bad : Job → ℤ → Bool
is_bad job r = below r (due job.op job.buf)

-- whether the job after these rows has a predecessor without an outcome
abbrev pub waits : Bool → List Row → Bool
waits w [] = w
waits w (Open job m ∷ rows) = waits (linked job.link) rows
waits w (Done job r ∷ rows) = waits false rows

-- whether a job cuts the next one: it is linked, and severed itself, or has a soft link and is bad
abbrev pub cuts : Bool → Job → ℤ → Bool
cuts s job r = linked job.link && (s || (is_soft job.link && is_bad job r))

-- whether the job after these rows is severed
abbrev pub severed : Bool → List Row → Bool
severed s [] = s
severed s (Open job m ∷ rows) = severed (linked job.link && s) rows
severed s (Done job r ∷ rows) = severed (cuts s job r.result) rows

-- no drained job of these is open
abbrev pub drains_done : List Row → Bool
drains_done [] = true
drains_done (Open job m ∷ rows) = not job.drain && drains_done rows
drains_done (Done job r ∷ rows) = drains_done rows

-- no job of these is open
abbrev pub all_done : List Row → Bool
all_done [] = true
all_done (Open job m ∷ rows) = false
all_done (Done job r ∷ rows) = all_done rows

-- An open row between the rows before and after it; the job's number is how many stand before.
pub record Place : Type 0 where
  pub before : List Row
  pub job : Job
  pub marked : Bool
  pub after : List Row

-- whether an open job may settle
abbrev pub may : List Row → Job → Bool
may before job = not (waits false before) && drains_done before && (not job.drain || all_done before)

-- the list with this in front, where the test holds
abbrev pub keep_if : {A : Type 0} → Bool → A → List A → List A
keep_if b x xs = cond b (x ∷ xs) xs

-- the places that may settle, in rising order
abbrev pub ready : List Row → List Row → List Place
ready before [] = []
ready before (Open job m ∷ rows) = keep_if (may before job) (record { before = before; job = job; marked = m; after = rows }) (ready (before ++ Open job m ∷ []) rows)
ready before (Done job r ∷ rows) = ready (before ++ Done job r ∷ []) rows

-- the open row of number j
abbrev pub place_of : List Row → List Row → ℕ → Option Place
place_of before [] j = None
place_of before (Open job m ∷ rows) zero = Some (record { before = before; job = job; marked = m; after = rows })
place_of before (Done job r ∷ rows) zero = None
place_of before (Open job m ∷ rows) (suc j) = place_of (before ++ Open job m ∷ []) rows j
place_of before (Done job r ∷ rows) (suc j) = place_of (before ++ Done job r ∷ []) rows j

-- whether t is an open and unmarked job of these rows, which are numbered from n
abbrev pub can_mark : ℕ → ℕ → List Row → Bool
can_mark t n [] = false
can_mark t n (Open job m ∷ rows) = (nat_eq n t && not m) || can_mark t (n + 1) rows
can_mark t n (Done job r ∷ rows) = can_mark t (n + 1) rows

-- whether t is another job that can be canceled
abbrev pub can_mark_other : Place → ℕ → Bool
can_mark_other p t = can_mark t 0 p.before || can_mark t (length p.before + 1) p.after

-- the rows, numbered from n, with job t marked where it is open
abbrev pub mark : ℕ → ℕ → List Row → List Row
mark t n [] = []
mark t n (Open job m ∷ rows) = Open job (m || nat_eq n t) ∷ mark t (n + 1) rows
mark t n (Done job r ∷ rows) = Done job r ∷ mark t (n + 1) rows

-- the same, where an answer marks a number
abbrev pub mark_if : Option ℕ → List Row → List Row
mark_if None rows = rows
mark_if (Some t) rows = mark t 0 rows

-- what the settling of a job gives
abbrev pub settle : Files → Place → FileAnswer
settle files p = if p.marked || severed false p.before then canceled files p.job.buf else step files (can_mark_other p) p.job.op p.job.buf

-- what an answer leaves of a job
abbrev pub outcome_of : FileAnswer → Result
outcome_of a = record { result = a.result; buf = a.buf }

-- the state once the job at a place has this answer
abbrev pub settled : ReplayState → Place → FileAnswer → ReplayState
settled s p a = record { files = a.world; rows = mark_if a.marks (p.before ++ Done p.job (outcome_of a) ∷ p.after); rest = s.rest }

-- The job at a place settles where it may, and where its settling is told as `told` asks of the job and its result.
abbrev pub settle_at : ReplayState → (Job → ℤ → Bool) → Option Place → Option ReplayState
settle_at s told None = None
settle_at s told (Some p) = if may p.before p.job && told p.job (settle s.files p).result then Some (settled s p (settle s.files p)) else None

-- a post of result r tells of this result of a job
abbrev pub by_post : ℤ → Job → ℤ → Bool
by_post r job result = int_eq result r && not (ends_quietly job r)

-- a take of job j, where it is the next of those not taken
abbrev pub take_job : ReplayState → ℕ → List Job → Option ReplayState
take_job s j [] = None
take_job s j (job ∷ rest) = if nat_eq j (length s.rows) then Some (record { files = s.files; rows = s.rows ++ Open job false ∷ []; rest = rest }) else None

-- the state after an event, and none where it can't take place
abbrev pub replay_event : ReplayState → Event → Option ReplayState
replay_event s (Turn p) = Some s
replay_event s (Take j) = take_job s j s.rest
replay_event s (Post j r fin) = if fin then settle_at s (by_post r) (place_of [] s.rows j) else None
replay_event s (Quiet j) = settle_at s ends_quietly (place_of [] s.rows j)

-- go on where there is a state
abbrev pub replay_next : List Event → Option ReplayState → (List Event → ReplayState → Option ReplayState) → Option ReplayState
replay_next es None go = None
replay_next es (Some s) go = go es s

-- the state after these events
abbrev pub replay_from : List Event → ReplayState → Option ReplayState
replay_from [] s = Some s
replay_from (e ∷ es) s = replay_next es (replay_event s e) (λ _ t. replay_from es t)

-- the last job's link links nothing
abbrev pub last_unlinked : List Job → List Job
last_unlinked [] = []
last_unlinked (job ∷ []) = record job { link = Free } ∷ []
last_unlinked (job ∷ next ∷ jobs) = job ∷ last_unlinked (next ∷ jobs)

-- no job is taken
abbrev pub first_state : List Job → Files → ReplayState
first_state jobs files = record { files = files; rows = []; rest = last_unlinked jobs }

-- the state that a journal leads to, if it is one of these jobs over these files
abbrev pub replay : List Job → Files → List Event → Option ReplayState
replay jobs files journal = replay_from journal (first_state jobs files)

-- all jobs are taken and have an outcome
pub record IsWhole (s : ReplayState) : Type 0 where
  pub taken : s.rest ≡ []
  pub settled : all_done s.rows ≡ true

-- Each turn began with the ring full or all jobs pushed: c is the ring's size, n how many jobs there are, and `takes` how many
-- were taken before.
abbrev pub IsBusy : ℕ → ℕ → ℕ → List Event → Type 0
IsBusy c n takes [] = Unit {0}
IsBusy c n takes (Turn p ∷ es) = ((p ≡ c) ⊎ (takes + p ≡ n)) × IsBusy c n takes es
IsBusy c n takes (Take j ∷ es) = IsBusy c n (takes + 1) es
IsBusy c n takes (Post j r fin ∷ es) = IsBusy c n takes es
IsBusy c n takes (Quiet j ∷ es) = IsBusy c n takes es

-- the outcomes of these rows, in the order of the jobs
abbrev pub outcomes : List Row → List (Option Result)
outcomes [] = []
outcomes (Open job m ∷ rows) = None ∷ outcomes rows
outcomes (Done job r ∷ rows) = Some r ∷ outcomes rows

-- the outcomes of all jobs, and none for one that isn't taken
abbrev pub table : ReplayState → List (Option Result)
table s = outcomes s.rows ++ replicate (length s.rest) None
