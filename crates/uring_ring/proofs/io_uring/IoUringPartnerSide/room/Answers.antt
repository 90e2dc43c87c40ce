use Rattle.ring_core.proofs.Grows.{spare_grows}
use Rattle.uring_ring.proofs.io_uring.IoUringPartnerSide.room.Goals as goal

pub returns-clause-grows : goal.returns-clause-grows
returns-clause-grows g c = spare_grows c.args.self.now.completions.slots _ c.room.ensures.completions
