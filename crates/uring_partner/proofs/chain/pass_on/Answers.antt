use Rattle.std.proofs.Common.{sym, subst}
use Rattle.uring_partner.specs.Marks.{IsToldCut}
use Rattle.uring_partner.proofs.Marks.{told_next}
use Rattle.uring_partner.proofs.chain.pass_on.Goals as goal

pub returns-then-place-len-clause-pending : goal.returns-then-place-len-clause-pending
returns-then-place-len-clause-pending c = λ front back e h.
    rw c.if-is_linked.true (told_next front back c.tell_cut.new.pending.items c.args.place c.args.cut (sym h) (subst (λ l. IsToldCut l c.args.place c.args.cut c.tell_cut.new.pending.items) e c.tell_cut.ensures.told))
