use Rattle.uring_shared.proofs.Grows.{spare_grows, waiting_grows}
use Rattle.uring_shared.proofs.shared_rings.SharedRingsUserEnds.refresh.Goals as goal

pub returns-clause-grows : goal.returns-clause-grows
returns-clause-grows c = (spare_grows c.args.self.now.submissions.ring _ c.look.ensures, waiting_grows c.args.self.now.completions.ring _ c.look-2.ensures)
