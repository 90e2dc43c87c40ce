use Rattle.std.proofs.Common.{◌<◌, arith, sym, ◌∙◌}
use Rattle.ring_core.specs.Slots.{held_of}
use Rattle.ring_core.proofs.Kept.{put_full, put_done}
use Rattle.ring_core.proofs.core_ring.Core.put.Goals as goal

pub returns-then-spare-eq0 : goal.returns-then-spare-eq0
returns-then-spare-eq0 c = λ start m s. put_full start _ m s c.args.value (sym c.spare.ensures ∙ c.if-spare-eq0.true)

pub returns : goal.returns
returns c = λ start m s. let room : 0 < (held_of c.args.self.now.ring).spare = omega (arith, c.spare.ensures, c.if-spare-eq0.false) in put_done start _ m s c.args.value _ room c.put.ensures
