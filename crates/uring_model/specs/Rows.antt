-- A replay's state as the program holds it.
use Rattle.std.specs.Prelude.{ℤ, ◌<◌, ◌^◌, Bool, false, not, cond, List, [], ◌∷◌, ◌++◌, length, map, replicate, Option, Some, None}
use Rattle.std.specs.List.{All}
use Rattle.uring_model.specs.declared.jobs.Job as jobs
use Rattle.uring_model.specs.declared.jobs.Outcome.{Outcome}
use Rattle.uring_model.specs.declared.rows.Settled.{Settled}
use Rattle.uring_model.specs.declared.rows.Row as code
use Rattle.uring_model.specs.declared.settling.Settling.{Settling}
use Rattle.uring_model.specs.declared.replayed.Replayed.{Replayed}
use Rattle.uring_model.specs.declared.replayed.Telling.{Telling}
use Rattle.uring_model.specs.declared.replayed.Telling.TheVariants.{ByPost, Quietly}
use Rattle.uring_model.specs.Machine.{Files, FileAnswer}
use Rattle.uring_model.specs.Jobs.{Job, model_job, model_jobs, buf_lent, moves_bytes, ends_quietly}
use Rattle.uring_model.specs.Replay.{Row, Open, Done, Result, Place, ReplayState, by_post}

-- what came of a settled job
abbrev pub result_in : Settled → Result
result_in settled = record { result = settled.result; buf = settled.buf }

-- the row of a job, open or done
abbrev pub row_of : Job → Bool → Option Settled → Row
row_of job marked None = Open job marked
row_of job marked (Some settled) = Done job (result_in settled)

-- a row of the program
abbrev pub row_in : code.Row → Row
row_in row = row_of (model_job row.job) row.marked row.outcome

-- the rows of the program, in order
abbrev pub rows_in : List code.Row → List Row
rows_in rows = map row_in rows

-- the length of the job's buffer is a result
abbrev pub HasCount : jobs.Job → Type 0
HasCount job = length (buf_lent job.kind) < 2 ^ 31

-- so are those of all these rows' jobs
abbrev pub HasCounts : List code.Row → Type 0
HasCounts rows = All (λ row. HasCount row.job) rows

-- there is such a row, it is open, and it is unmarked
abbrev pub is_markable : Option Row → Bool
is_markable None = false
is_markable (Some (Open job m)) = not m
is_markable (Some (Done job r)) = false

-- What the program says of a job with this result: its buffer where it has one, and that it is quiet where nothing was posted.
abbrev pub outcome_told : Job → Result → Outcome
outcome_told job r = record { result = r.result; buf = cond (moves_bytes job.op) (Some r.buf) None; quiet = ends_quietly job r.result }

-- the same of these rows
abbrev pub outcomes_told : List Row → List (Option Outcome)
outcomes_told [] = []
outcomes_told (Open job m ∷ rows) = None ∷ outcomes_told rows
outcomes_told (Done job r ∷ rows) = Some (outcome_told job r) ∷ outcomes_told rows

-- the same of all jobs, and nothing for one that isn't taken
abbrev pub table_told : ReplayState → List (Option Outcome)
table_told s = outcomes_told s.rows ++ replicate (length s.rest) None

-- a settling as an answer that makes the files these
abbrev pub settling_answer : Settling → Files → FileAnswer
settling_answer s files = record { result = s.answered.result; buf = s.buf; world = files; marks = s.answered.marks }

-- the place of a row between these
abbrev pub place_between : List code.Row → code.Row → List code.Row → Place
place_between before row after = record { before = rows_in before; job = model_job row.job; marked = row.marked; after = rows_in after }

-- whether an event that tells so tells of a job's settling with this result
abbrev pub told_by : Telling → Job → ℤ → Bool
told_by (ByPost r) = by_post r
told_by Quietly = ends_quietly

-- the state that the program holds
abbrev pub state_in : Replayed → ReplayState
state_in replayed = record { files = replayed.files; rows = rows_in replayed.rows.items; rest = model_jobs replayed.rest.items }

-- the state that is left where the event took place, and none where it could not
abbrev pub state_if : Bool → Replayed → Option ReplayState
state_if went replayed = cond went (Some (state_in replayed)) None

-- the lengths of all buffers are results
pub record AreCounted (replayed : Replayed) : Type 0 where
  pub rows : HasCounts replayed.rows.items
  pub rest : All HasCount replayed.rest.items
