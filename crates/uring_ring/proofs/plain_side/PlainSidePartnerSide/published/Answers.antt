use Rattle.ring_core.proofs.Grows.{waiting_grows}
use Rattle.uring_ring.proofs.plain_side.PlainSidePartnerSide.published.Goals as goal

pub returns-clause-grows : goal.returns-clause-grows
returns-clause-grows g c = waiting_grows c.args.self.now.submissions.now.ring.now.slots _ c.published.ensures.entries
