-- A job as the definitions see it, and what a job of the program is there.
use Rattle.uring_base.specs.declared.limits.TheConstants.{MAX_BUFFER, MAX_POSITION}
use Rattle.std.specs.Prelude.{ℕ, ◌+◌, ℤ, pos, negsuc, Bool, true, false, ◌&&◌, ◌||◌, not, nat_le, List, [], ◌∷◌, length, map}
use Rattle.uring_model.specs.declared.jobs.Link.{Link}
use Rattle.uring_model.specs.declared.jobs.Link.TheVariants.{Free, Soft, Hard}
use Rattle.uring_model.specs.declared.jobs.Job as code
use Rattle.uring_model.specs.declared.jobs.JobKind.{JobKind}
use Rattle.uring_model.specs.declared.jobs.JobKind.TheVariants as kinds
use Rattle.uring_model.specs.Machine.{ModelOp, Nop, Read, Write, Fsync, Ftruncate, Cancel, Refused}

-- what it asks, its buffer (empty where it has none), and its marks
pub record Job : Type 0 where
  pub op : ModelOp
  pub buf : List ℕ
  pub drain : Bool
  pub quiet : Bool
  pub link : Link

-- whether the next job, if any, hangs on this one
abbrev pub linked : Link → Bool
linked Free = false
linked Soft = true
linked Hard = true

-- whether a bad result cuts the next job
abbrev pub is_soft : Link → Bool
is_soft Free = false
is_soft Soft = true
is_soft Hard = false

-- a read or write, which alone has a buffer
abbrev pub moves_bytes : ModelOp → Bool
moves_bytes Nop = false
moves_bytes (Read file offset) = true
moves_bytes (Write file offset) = true
moves_bytes (Fsync file) = false
moves_bytes (Ftruncate file len) = false
moves_bytes (Cancel t) = false
moves_bytes (Refused code) = false

-- a result that isn't an error number
abbrev pub is_success : ℤ → Bool
is_success (pos n) = true
is_success (negsuc n) = false

-- with this result nothing is posted for the job
abbrev pub ends_quietly : Job → ℤ → Bool
ends_quietly job r = job.quiet && is_success r

-- whether each of these that is quiet is linked to one behind it
abbrev pub quiets_are_linked : List Job → Bool
quiets_are_linked [] = true
quiets_are_linked (job ∷ []) = not job.quiet
quiets_are_linked (job ∷ next ∷ jobs) = (not job.quiet || linked job.link) && quiets_are_linked (next ∷ jobs)

-- which of them are quiet
abbrev pub quiets_of : List Job → List Bool
quiets_of jobs = map (λ job. job.quiet) jobs

-- positions and lengths stay below 2 ^ 63, and a count fits a result
abbrev pub is_valid_at : ℕ → List ℕ → Bool
is_valid_at offset buf = nat_le (length buf) MAX_BUFFER && nat_le (offset + length buf) MAX_POSITION

-- the operation's numbers are in range
abbrev pub is_valid_op : ModelOp → List ℕ → Bool
is_valid_op Nop buf = true
is_valid_op (Read file offset) buf = is_valid_at offset buf
is_valid_op (Write file offset) buf = is_valid_at offset buf
is_valid_op (Fsync file) buf = true
is_valid_op (Ftruncate file len) buf = nat_le len MAX_POSITION
is_valid_op (Cancel t) buf = true
is_valid_op (Refused code) buf = true

-- A quiet job moves no bytes and has a link, and isn't the last one.
abbrev pub may_be_quiet : Bool → Job → Bool
may_be_quiet is_last job = not (moves_bytes job.op) && linked job.link && not is_last

-- a job's numbers are in range, and it may be quiet if it is
abbrev pub is_valid_job : Bool → Job → Bool
is_valid_job is_last job = is_valid_op job.op job.buf && (not job.quiet || may_be_quiet is_last job)

-- a job of the program

-- the operation that it asks
abbrev pub model_op : JobKind → ModelOp
model_op kinds.Nop = Nop
model_op (kinds.Read file offset buf) = Read file offset
model_op (kinds.Write file offset buf) = Write file offset
model_op (kinds.Fsync file) = Fsync file
model_op (kinds.Ftruncate file len) = Ftruncate file len
model_op (kinds.Cancel job) = Cancel job

-- the buffer that it lends, which is empty where it lends none
abbrev pub buf_lent : JobKind → List ℕ
buf_lent kinds.Nop = []
buf_lent (kinds.Read file offset buf) = buf
buf_lent (kinds.Write file offset buf) = buf
buf_lent (kinds.Fsync file) = []
buf_lent (kinds.Ftruncate file len) = []
buf_lent (kinds.Cancel job) = []

-- what it is for the definitions
abbrev pub model_job : code.Job → Job
model_job job = record { op = model_op job.kind; buf = buf_lent job.kind; drain = job.drain; quiet = job.quiet; link = job.link }

-- what a list of them is
abbrev pub model_jobs : List code.Job → List Job
model_jobs jobs = map model_job jobs
