use Rattle.std.proofs.Common.{refl, ap}
use Rattle.std.specs.FinMap.{get}
use Rattle.rent_table.proofs.Linked.{IsLinked-same}
use Rattle.rent_table.proofs.waiters.Waiters.reserve.Goals as goal

pub invariant_of-self : goal.invariant_of-self
invariant_of-self c = IsLinked-same _ _ _ _ c.self.invariant (λ q. ap (λ m. get m q) c.reserve.ensures.entries) (λ q. refl)

pub invariant_of-self-2 : goal.invariant_of-self-2
invariant_of-self-2 c = IsLinked-same _ _ _ _ c.self.invariant (λ q. ap (λ m. get m q) c.reserve.ensures.entries) (λ q. ap (λ m. get m q) c.reserve-2.ensures.entries)
