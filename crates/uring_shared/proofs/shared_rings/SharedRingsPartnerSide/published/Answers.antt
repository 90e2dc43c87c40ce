use Rattle.uring_shared.proofs.Grows.{waiting_grows}
use Rattle.uring_shared.proofs.shared_rings.SharedRingsPartnerSide.published.Goals as goal

pub returns-clause-grows : goal.returns-clause-grows
returns-clause-grows c = waiting_grows c.args.self.now.submissions.ring _ c.published.ensures.entries
