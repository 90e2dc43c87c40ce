use Rattle.std.proofs.Common.{refl, arith}
use Rattle.ring_core.proofs.PutsAndTakes.{put-place, puts_none}
use Rattle.uring_ring.proofs.submission_queue.SubmissionQueue.push_multiple.Goals as goal

pub loop-entry-init : goal.loop-entry-init
loop-entry-init g c = record {
  entries = puts_none _ (put-place c.args.self.now.ring.now.slots);
  words = refl;
  room = let spare = c.spare.ensures in let fits = c.if-entries-spare.false in omega (arith, spare, fits);
}
