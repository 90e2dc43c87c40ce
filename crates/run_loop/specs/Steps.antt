-- How a job's operation is begun and polled.
use Rattle.std.specs.Prelude.{◌≡◌, ℕ, ◌+◌, Bool, true, bit_or, if◌then◌else◌, List, [], ◌∷◌, Option, Some, is_some, IfSome}
use Rattle.uring_base.specs.FlagBits.{bits_in}
use Rattle.uring_base.specs.declared.flags.TheConstants.Flags.{IO_DRAIN, IO_LINK, IO_HARDLINK}
use Rattle.uring_base.specs.declared.squeue.Entry.{Entry}
use Rattle.uring_base.specs.declared.events.Taken.{Taken}
use Rattle.uring_base.specs.declared.events.Completion.{Completion}
use Rattle.ring_traits.specs.Lists.{Lists, Becomes, as_offered}
use Rattle.uring_model.specs.declared.jobs.JobKind.{JobKind}
use Rattle.uring_model.specs.declared.jobs.Link.{Link}
use Rattle.uring_model.specs.declared.jobs.Link.TheVariants.{Free, Soft, Hard}
use Rattle.rent_engine.specs.Engines.{without_skip_success, with_skip_success}
use Rattle.rent_engine.specs.declared.ops.OpPoll.{OpPoll}
use Rattle.rent_engine.specs.declared.ops.OpPoll.TheVariants as polls
use Rattle.rent_table.specs.Ops.{Ops, done_at, knows, started, taken_out}
use Rattle.rent_engine.specs.Ops.{polled}
use Rattle.run_loop.specs.Entries.{job_words, job_loan}
use Rattle.run_loop.specs.Rounds.{pushed_more}
use Rattle.run_loop.specs.Flights.{next_for, outcome_polled}
use Rattle.run_loop.specs.JobOps.{key_of, reply_of, tells_quiet, TellsFor}
use Rattle.run_loop.specs.Told.{reply_for, lends}
use Rattle.run_loop.specs.declared.job_op.JobOp.{JobOp}
use Rattle.run_loop.specs.declared.job_op.JobPoll.{JobPoll}
use Rattle.run_loop.specs.declared.job_op.JobPoll.TheVariants.{Ready, Pending}

-- the flags of a drain and of a link
abbrev pub link_bit : Link → ℕ
link_bit Free = 0
link_bit Soft = bits_in IO_LINK
link_bit Hard = bits_in IO_HARDLINK

abbrev pub mark_bits : Bool → Link → ℕ
mark_bits drain link = bit_or (if drain then bits_in IO_DRAIN else 0) (link_bit link)

-- the flags of an entry, by which nothing is posted for a quiet one that succeeds
abbrev pub skipping : Bool → ℕ → ℕ
skipping quiet flags = if quiet then with_skip_success flags else without_skip_success flags

-- the entry of job n with these flags added, as an engine starts it
abbrev pub with_marks : ℕ → JobKind → Bool → ℕ → Entry
with_marks n kind quiet bits = record (job_words n kind) { flags = skipping quiet (bit_or (job_words n kind).flags bits); user_data = n }

-- The job's entry was offered under its number, with its buffer lent, and its operation is in flight.
pub record IsBegun {R : Type 0} (large : Bool) (used : R → List Taken → List Completion → R → Type 0) (lists : R → Option Lists) (room waiting : R → ℕ) (n : ℕ) (kind : JobKind) (quiet : Bool) (bits : ℕ) (before after : R) (ops ops' : Ops) (op : JobOp) : Type 0 where
  pub uses : used before (as_offered large (with_marks n kind quiet bits) (job_loan n kind) ∷ []) [] after
  pub told : Becomes (lists before) (pushed_more (as_offered large (with_marks n kind quiet bits) (job_loan n kind) ∷ [])) (lists after)
  pub places : room before ≡ room after + 1
  pub seen : waiting after ≡ waiting before
  pub operations : ops' ≡ started n (lends (reply_for kind)) (next_for n quiet) ops
  pub key : key_of op ≡ Some n
  pub tells : TellsFor (reply_for kind) quiet op

-- what a poll of a job's operation answers, by what the engine does
abbrev pub Tells : ℕ → JobOp → OpPoll → JobPoll → Type 0
Tells n op (polls.Ready done) (Ready outcome) = outcome ≡ outcome_polled (reply_of op) done
Tells n op (polls.Ready done) (Pending op') = ⊥
Tells n op (polls.Pending k) (Ready outcome) = ⊥
Tells n op (polls.Pending k) (Pending op') = (key_of op' ≡ Some n) × (reply_of op' ≡ reply_of op) × (tells_quiet op' ≡ tells_quiet op)
Tells n op (polls.Lost k) answer = ⊥

-- A job's operation was polled, and the rings are as they were.
pub record IsPolled {R : Type 0} (lists : R → Option Lists) (room waiting : R → ℕ) (n : ℕ) (op : JobOp) (before after : R) (ops ops' : Ops) (answer : JobPoll) : Type 0 where
  pub told : lists after ≡ lists before
  pub places : room after ≡ room before
  pub seen : waiting after ≡ waiting before
  pub operations : ops' ≡ taken_out n ops
  pub tells : Tells n op (polled ops n) answer

-- The engine knows it; and where it is resolved, a buffer came back exactly where it lent one, and something was posted for it
-- where it doesn't tell that nothing was.
pub record CanBePolled (ops : Ops) (n : ℕ) (op : JobOp) : Type 0 where
  pub key : key_of op ≡ Some n
  pub known : knows ops n ≡ true
  pub brings : IfSome (done_at ops n) (λ done. lends (reply_of op) ≡ is_some done.buf)
  pub posted : IfSome (done_at ops n) (λ done. done.quiet ≡ true → tells_quiet op ≡ true)
