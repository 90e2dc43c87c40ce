use Rattle.std.proofs.Common.{◌≡◌, ◌*◌, ◌/◌, ◌<◌, drop, set}
use Rattle.free_numbers.proofs.Joins.{JoinedBut}
use Rattle.free_numbers.proofs.tree.set_leaf.Given as goal

abbrev pub invariant-loop-node : goal.invariant-loop-node
invariant-loop-node l = record {
  within : l.node < 2 * l.limit;
  joined : JoinedBut l.limit (l.node / 2) l.full;
  leaves : drop l.limit l.full ≡ set (drop l.limit l.fn.full) l.number l.taken;
}

abbrev pub decreases-loop-node : goal.decreases-loop-node
decreases-loop-node l = l.node
