use Rattle.ring_core.proofs.Grows.{waiting_grows}
use Rattle.uring_ring.proofs.io_uring.IoUringPartnerSide.published.Goals as goal

pub returns-clause-grows : goal.returns-clause-grows
returns-clause-grows g c = waiting_grows c.args.self.now.submissions.slots _ c.published.ensures.entries
