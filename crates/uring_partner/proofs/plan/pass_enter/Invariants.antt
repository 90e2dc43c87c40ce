use Rattle.std.specs.Prelude.{filter, nat_lt}
use Rattle.uring_partner.proofs.Lowered.{Lowered}
use Rattle.uring_partner.proofs.plan.pass_enter.Given as goal

abbrev pub invariant-loop-k : goal.invariant-loop-k
invariant-loop-k l = Lowered (filter (nat_lt 1) l.fn.plan.items) l.k-index l.k-items
