use Rattle.std.proofs.Common.{length, ap, ◌∙◌, length-set, false, arith}
use Rattle.std.specs.FinMap.{len}
use Rattle.rent_table.proofs.Marked.{marked-left, len-left, spare-left}
use Rattle.rent_table.proofs.numbered_places.NumberedPlaces.remove.Goals as goal

pub invariant_of-self : goal.invariant_of-self
invariant_of-self g c = marked-left _ _ _ _ c.args.number c.remove.ensures.entries c.free.ensures c.self.invariant

pub returns-clause-spare : goal.returns-clause-spare
returns-clause-spare g c =
    let limit = ap length c.free.ensures ∙ length-set c.self.inside.numbers c.args.number false in
    let count = ap len c.remove.ensures.entries in
    let fewer = len-left c.self.inside.values.entries c.args.number in
    spare-left _ _ _ _ _ _ _ (ap (λ t. t.spare) c.self.view_is) c.remove.ensures.spare (omega (arith, limit)) (omega (arith, count, fewer))
