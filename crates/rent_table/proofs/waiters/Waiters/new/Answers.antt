use Rattle.std.proofs.Common.{ap, ◌∙◌}
use Rattle.std.specs.FinMap.{get, get-empty}
use Rattle.std.specs.Ordering.{nat_cmp}
use Rattle.rent_table.proofs.Picks.{part-empty}
use Rattle.rent_table.specs.Waiting.{next_in, next_of}
use Rattle.rent_table.proofs.Linked.{IsLinked-empty}
use Rattle.rent_table.proofs.waiters.Waiters.new.Goals as goal

pub invariant_of-result : goal.invariant_of-result
invariant_of-result c = IsLinked-empty _ _ (λ q. ap (λ m. get m q) c.new.ensures ∙ get-empty nat_cmp q) (λ q. ap (λ m. get m q) c.new-2.ensures ∙ get-empty nat_cmp q)

pub returns : goal.returns
returns c = ap next_of c.new.ensures ∙ part-empty next_in
