use Rattle.ring_core.proofs.Kept.{take_empty, take_got}
use Rattle.ring_core.proofs.core_ring.Core.take.Goals as goal

pub returns-in-Some : goal.returns-in-Some
returns-in-Some c = λ start m s. take_got start _ m s c.in-Some.value _ c.in-Some.ensures.none c.in-Some.ensures.taken

pub returns-in-None : goal.returns-in-None
returns-in-None c = λ start m s. take_empty start _ m s c.in-None.ensures.none _ c.in-None.ensures.taken
