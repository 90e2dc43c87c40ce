use Rattle.std.proofs.Common.{ap, sym, ◌∙◌}
use Rattle.std.specs.Ordering.{nat_cmp}
use Rattle.std.specs.FinMap.{len, len-empty}
use Rattle.rent_table.specs.declared.ops.Flight.{Flight}
use Rattle.rent_table.proofs.Parts.{ops-empty}
use Rattle.rent_table.proofs.lifecycles.Lifecycles.new.Goals as goal

pub invariant_of-result : goal.invariant_of-result
invariant_of-result c = sym (ap (λ o. len o.in_flight) (ops-empty _ c.new.ensures) ∙ len-empty nat_cmp Flight)

pub returns : goal.returns
returns c = ops-empty _ c.new.ensures
