use Rattle.std.proofs.Common.{◌*◌, arith}
use Rattle.free_numbers.proofs.Rows.{root_free, left_free, right_free, leaf_found}
use Rattle.free_numbers.proofs.tree.first_free.Goals as goal

pub loop-node-init : goal.loop-node-init
loop-node-init c = root_free c.args.full.now c.args.limit c.requires.tree c.requires.some c.requires.root

pub loop-node-preserved : goal.loop-node-preserved
loop-node-preserved c = left_free c.args.full.now c.args.limit c.requires.tree c.loop-node.node (c.loop-node.node * 2) (omega arith) c.loop-node-test.true c.loop-node.invariant c.if-full-node.false

pub loop-node-preserved-then-full-node : goal.loop-node-preserved-then-full-node
loop-node-preserved-then-full-node c = right_free c.args.full.now c.args.limit c.requires.tree c.loop-node.node (c.loop-node.node * 2) (omega arith) c.loop-node-test.true c.loop-node.invariant c.if-full-node.true

pub returns : goal.returns
returns c = leaf_found c.args.full.now c.args.limit c.requires.tree c.loop-node.node c.loop-node.invariant c.loop-node-test.false
