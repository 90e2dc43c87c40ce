use Rattle.std.proofs.Common.{◌≡◌, drop}
use Rattle.free_numbers.proofs.Joins.{JoinedFrom}
use Rattle.free_numbers.proofs.tree.join_all.Given as goal

abbrev pub invariant-loop-node : goal.invariant-loop-node
invariant-loop-node l = record {
  joined : JoinedFrom l.limit l.node l.full;
  leaves : drop l.limit l.full ≡ drop l.limit l.fn.full;
}
