use Rattle.std.proofs.Common.{sym}
use Rattle.uring_partner.proofs.Marks.{mark_none}
use Rattle.uring_partner.proofs.chain.mark_one.Goals as goal

pub returns-in-None-clause-marked : goal.returns-in-None-clause-marked
returns-in-None-clause-marked c = sym (mark_none c.args.number c.args.pending.now.items c.in-None.ensures)
