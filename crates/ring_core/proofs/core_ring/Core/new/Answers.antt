use Rattle.ring_core.proofs.Kept.{opens}
use Rattle.ring_core.proofs.core_ring.Core.new.Goals as goal

pub returns-clause-ok : goal.returns-clause-ok
returns-clause-ok c = opens _ c.args.start _ c.ranges.start.fits c.in_ok-new.ensures
