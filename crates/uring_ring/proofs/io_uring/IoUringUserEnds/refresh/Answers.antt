use Rattle.ring_core.proofs.Grows.{spare_grows, waiting_grows}
use Rattle.uring_ring.proofs.io_uring.IoUringUserEnds.refresh.Goals as goal

pub returns-clause-grows : goal.returns-clause-grows
returns-clause-grows g c = (spare_grows c.args.self.now.submissions.slots _ c.look.ensures.0, waiting_grows c.args.self.now.completions.slots _ c.look-2.ensures.0)
