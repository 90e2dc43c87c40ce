use Rattle.uring_shared.proofs.Grows.{spare_grows}
use Rattle.uring_shared.proofs.shared_rings.SharedRingsPartnerSide.room.Goals as goal

pub returns-clause-grows : goal.returns-clause-grows
returns-clause-grows c = spare_grows c.args.self.now.completions.ring _ c.room.ensures.completions
