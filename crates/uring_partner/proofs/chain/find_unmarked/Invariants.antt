use Rattle.uring_partner.proofs.Marks.{Misses}
use Rattle.uring_partner.proofs.chain.find_unmarked.Given as goal

abbrev pub invariant-loop-i : goal.invariant-loop-i
invariant-loop-i l = Misses l.number l.pending.items l.i
