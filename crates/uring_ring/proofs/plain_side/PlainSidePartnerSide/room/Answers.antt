use Rattle.ring_core.proofs.Grows.{spare_grows}
use Rattle.uring_ring.proofs.plain_side.PlainSidePartnerSide.room.Goals as goal

pub returns-clause-grows : goal.returns-clause-grows
returns-clause-grows g c = spare_grows c.args.self.now.completions.now.ring.now.slots _ c.room.ensures.completions
