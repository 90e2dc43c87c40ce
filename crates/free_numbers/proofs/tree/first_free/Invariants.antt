use Rattle.std.proofs.Common.{◌-◌}
use Rattle.free_numbers.proofs.Rows.{IsFirstFree}
use Rattle.free_numbers.proofs.tree.first_free.Given as goal

abbrev pub invariant-loop-node : goal.invariant-loop-node
invariant-loop-node l = IsFirstFree l.full l.limit l.node

abbrev pub decreases-loop-node : goal.decreases-loop-node
decreases-loop-node l = l.limit - l.node
