-- The operation of a job.
use Rattle.std.specs.Prelude.{◌≡◌, ℕ, Bool, true, false, Option, Some}
use Rattle.rent_engine.specs.OneOp.{stage_key}
use Rattle.run_loop.specs.declared.job_op.JobOp.{JobOp}
use Rattle.run_loop.specs.declared.job_op.JobOp.TheVariants as ops
use Rattle.run_loop.specs.declared.slot.Reply.{Reply}
use Rattle.run_loop.specs.declared.slot.Reply.TheVariants.{Buffer, Success}

-- the number under which it was started
abbrev pub key_of : JobOp → Option ℕ
key_of (ops.Read state) = stage_key state.op
key_of (ops.Write state) = stage_key state.op
key_of (ops.Sync state) = stage_key state.op
key_of (ops.Plain key reply) = Some key

-- what it tells of its end
abbrev pub reply_of : JobOp → Reply
reply_of (ops.Read state) = Buffer
reply_of (ops.Write state) = Buffer
reply_of (ops.Sync state) = Success
reply_of (ops.Plain key reply) = reply

-- whether it tells that nothing was posted for it
abbrev pub tells_quiet : JobOp → Bool
tells_quiet (ops.Read state) = false
tells_quiet (ops.Write state) = false
tells_quiet (ops.Sync state) = false
tells_quiet (ops.Plain key reply) = true

-- It tells what the outcome of its job is to tell, and, where the job is quiet, whether anything was posted for it.
pub record TellsFor (reply : Reply) (quiet : Bool) (op : JobOp) : Type 0 where
  pub told : reply_of op ≡ reply
  pub whether_posted : quiet ≡ true → tells_quiet op ≡ true
