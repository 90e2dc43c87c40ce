use Rattle.std.proofs.Common.{sym, ◌∙◌, arith}
use Rattle.uring_partner.proofs.Marks.{misses_next, finds_first}
use Rattle.uring_partner.proofs.chain.find_unmarked.Goals as goal

pub returns-then-is_target : goal.returns-then-is_target
returns-then-is_target c = finds_first c.args.number c.args.pending.now.items c.loop-i.i c.index-item.result.now (omega arith) c.index-item.ensures (sym c.is_target.ensures ∙ c.if-is_target.true) c.loop-i.invariant

pub loop-i-preserved : goal.loop-i-preserved
loop-i-preserved c = misses_next c.args.number c.args.pending.now.items c.loop-i.i c.index-item.result.now (omega arith) c.index-item.ensures (sym c.is_target.ensures ∙ c.if-is_target.false) c.loop-i.invariant
