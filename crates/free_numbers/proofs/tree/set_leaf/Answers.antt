use Rattle.std.proofs.Common.{◌+◌, arith}
use Rattle.std.proofs.lemmas.List.{drop-set-add}
use Rattle.free_numbers.proofs.Joins.{leaf_written}
use Rattle.free_numbers.proofs.tree.set_leaf.Goals as goal

pub loop-node-init : goal.loop-node-init
loop-node-init c = record {
  within = omega (arith, c.requires.within);
  joined = leaf_written c.args.full.now (c.args.limit + c.args.number) c.args.taken c.args.limit (omega arith) c.requires.tree.joined;
  leaves = drop-set-add c.args.limit c.args.full.now c.args.number c.args.taken;
}
