use Rattle.std.proofs.Common.{ap, ◌∙◌, arith}
use Rattle.std.specs.Ordering.{nat_cmp}
use Rattle.std.specs.FinMap.{len, len-empty}
use Rattle.rent_table.specs.declared.ops.Flight.{Flight}
use Rattle.rent_table.proofs.Asked.{asked_empty}
use Rattle.rent_table.proofs.Matching.{matched_empty}
use Rattle.rent_table.proofs.operations.Operations.new.Goals as goal

pub invariant_of-result : goal.invariant_of-result
invariant_of-result c = record {
  matched = matched_empty c.new.result.ops c.new-2.result.next c.new.ensures c.new-2.ensures;
  idle = c.new-4.ensures.items;
  asked = asked_empty c.new.result.ops c.new-3.result.steps c.new-3.ensures;
  fits = let none = ap (λ o. len o.in_flight) c.new.ensures ∙ len-empty nat_cmp Flight in omega (arith, none);
}
