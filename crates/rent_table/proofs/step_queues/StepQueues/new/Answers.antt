use Rattle.std.proofs.Common.{ap, arith}
use Rattle.std.specs.Prelude.{length}
use Rattle.rent_table.proofs.Listed.{lists-empty, below_empty}
use Rattle.rent_table.proofs.step_queues.StepQueues.new.Goals as goal

pub invariant_of-result : goal.invariant_of-result
invariant_of-result c = record {
  queue = below_empty c.new.result.entries 0 c.new.ensures;
  ready_one = let none = ap length c.new-2.ensures in omega (arith, none);
}

pub returns : goal.returns
returns c = lists-empty c.new.result.entries c.new.ensures
