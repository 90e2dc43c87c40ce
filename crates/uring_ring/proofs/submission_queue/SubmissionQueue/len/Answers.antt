use Rattle.std.proofs.Common.{arith}
use Rattle.ring_core.specs.Slots.{held-fits}
use Rattle.uring_ring.proofs.submission_queue.SubmissionQueue.len.Goals as goal

-- no more is free than fits
pub overflow_sub-result : goal.overflow_sub-result
overflow_sub-result g c = let all = (held-fits c.args.self.now.ring.now.slots).items in omega (arith, all, c.spare.ensures, c.capacity.ensures)
