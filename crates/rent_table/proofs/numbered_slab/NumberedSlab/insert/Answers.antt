use Rattle.std.proofs.Common.{ap, ◌∙◌}
use Rattle.std.specs.FinMap as map
use Rattle.rent_table.proofs.Indexed.{picked-added, IsIndexed-added}
use Rattle.rent_table.proofs.numbered_slab.NumberedSlab.insert.Goals as goal

pub invariant_of-self : goal.invariant_of-self
invariant_of-self g c = let e = c.insert_reserved-place.ensures in IsIndexed-added _ _ _ _ c.args.number c.insert_reserved-place.result c.args.value c.in-Ok.ensures.updates.0 e.was_vacant e.updates c.self.invariant

pub returns-clause-entries : goal.returns-clause-entries
returns-clause-entries g c = let e = c.insert_reserved-place.ensures in picked-added _ _ _ _ c.args.number c.insert_reserved-place.result c.args.value c.in-Ok.ensures.updates.0 e.was_vacant e.updates c.self.invariant ∙ ap (λ t. map.insert t.entries c.args.number c.args.value) c.self.view_is
