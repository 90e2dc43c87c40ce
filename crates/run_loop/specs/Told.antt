-- What a log tells of the jobs of a run.
use Rattle.std.specs.Prelude.{ℕ, suc, ◌&&◌, Bool, true, false, if◌then◌else◌, cond, nat_eq, List, [], ◌∷◌, ℤ, pos, negsuc, Option, Some, None, is_some}
use Rattle.uring_base.specs.declared.buffer.Loan.{Loan}
use Rattle.uring_base.specs.declared.events.LogEvent.{LogEvent}
use Rattle.uring_base.specs.declared.events.LogEvent.TheVariants.{Turn, Take, Post, Quiet}
use Rattle.uring_base.specs.Loans.{loan_buf}
use Rattle.uring_model.specs.declared.jobs.JobKind.{JobKind}
use Rattle.uring_model.specs.declared.jobs.JobKind.TheVariants.{Nop, Read, Write, Fsync, Ftruncate, Cancel}
use Rattle.uring_model.specs.declared.jobs.Outcome.{Outcome}
use Rattle.run_loop.specs.declared.slot.Reply.{Reply}
use Rattle.run_loop.specs.declared.slot.Reply.TheVariants.{Plain, Buffer, Success}

-- how a job ended
pub record Ending : Type 0 where
  pub result : ℤ
  pub loan : Option Loan

-- the first final post of job j
abbrev pub first_final : ℕ → List LogEvent → Option Ending
first_final j [] = None
first_final j (Turn p ∷ log) = first_final j log
first_final j (Take job entry ∷ log) = first_final j log
first_final j (Quiet job ∷ log) = first_final j log
first_final j (Post job result fin loan ∷ log) = if fin && nat_eq job j then Some (record { result = result; loan = loan }) else first_final j log

-- how many turns stand at the end with neither a take nor a final post behind them, after `turns` earlier ones
abbrev pub idle_turns : ℕ → List LogEvent → ℕ
idle_turns turns [] = turns
idle_turns turns (Turn p ∷ log) = idle_turns (suc turns) log
idle_turns turns (Take job entry ∷ log) = idle_turns 0 log
idle_turns turns (Quiet job ∷ log) = idle_turns turns log
idle_turns turns (Post job result fin loan ∷ log) = idle_turns (if fin then 0 else turns) log

-- what a job's outcome tells, by its kind

abbrev pub reply_for : JobKind → Reply
reply_for Nop = Plain
reply_for (Read file offset buf) = Buffer
reply_for (Write file offset buf) = Buffer
reply_for (Fsync file) = Success
reply_for (Ftruncate file len) = Plain
reply_for (Cancel job) = Plain

abbrev pub lends : Reply → Bool
lends Plain = false
lends Buffer = true
lends Success = false

-- A sync tells no more than that it went well, or why not.
abbrev pub heard : Reply → ℤ → ℤ
heard Plain result = result
heard Buffer result = result
heard Success (pos n) = pos 0
heard Success (negsuc n) = negsuc n

-- the outcome of a job that ended so: its result as it is heard, and the buffer that came back
abbrev pub outcome_from : Reply → Ending → Outcome
outcome_from reply e = record { result = heard reply e.result; buf = loan_buf e.loan; quiet = false }

-- the outcome of a quiet job that nothing was posted for
abbrev pub unposted : Outcome
unposted = record { result = pos 0; buf = None; quiet = true }

-- A job's own final post tells its outcome. Where there is none, a quiet job has its outcome as soon as the next one has.
abbrev pub outcome_by : Bool → Reply → Option Ending → Bool → Option Outcome
outcome_by quiet reply (Some e) next = Some (outcome_from reply e)
outcome_by quiet reply None next = cond (quiet && next) (Some unposted) None

-- whether the first of these is there
abbrev pub first_is_some : List (Option Outcome) → Bool
first_is_some [] = false
first_is_some (o ∷ os) = is_some o
