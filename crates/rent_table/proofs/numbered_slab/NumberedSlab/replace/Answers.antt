use Rattle.std.proofs.Common.{is_some, sym, ap, ◌∙◌}
use Rattle.std.specs.FinMap as map
use Rattle.slab.proofs.SlabLemmas.{Updates-with_value}
use Rattle.slab.specs.Slab.{ContainsKey}
use Rattle.rent_table.specs.NumberedSlab.{at}
use Rattle.rent_table.proofs.Indexed.{picked-changed, no_place_of_it, no_value}
use Rattle.rent_table.proofs.numbered_slab.NumberedSlab.replace.Goals as goal

pub returns-in-Some-get_mut-clause-entries : goal.returns-in-Some-get_mut-clause-entries
returns-in-Some-get_mut-clause-entries g c =
    let here = sym c.in-Some.ensures.value in
    let present : ContainsKey c.self.inside.places c.in-Some.field-0.now = c.self.invariant.taken c.args.number c.in-Some.field-0.now here in
    picked-changed _ _ _ c.args.number c.in-Some.field-0.now c.args.value here (Updates-with_value c.self.inside.places c.in-Some.field-0.now c.args.value present) c.self.invariant ∙ ap (λ t. map.insert t.entries c.args.number c.args.value) c.self.view_is

pub returns-in_default-get_mut-clause-entries : goal.returns-in_default-get_mut-clause-entries
returns-in_default-get_mut-clause-entries g c = absurd (no_value _ (sym c.in_default-get_mut.ensures.value) (c.self.invariant.taken c.args.number c.in-Some.field-0.now (sym c.in-Some.ensures.value)))

pub returns-in_default-clause-entries : goal.returns-in_default-clause-entries
returns-in_default-clause-entries g c = absurd (no_place_of_it c.self.inside.index.entries c.self.inside.places c.args.number (ap (λ t. is_some (at t c.args.number)) c.self.view_is ∙ c.requires) (sym c.in_default.ensures.value))
