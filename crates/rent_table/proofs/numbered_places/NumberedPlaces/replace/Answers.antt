use Rattle.std.proofs.Common.{◌-◌, ◌+◌, min, is_some, length, ap, ◌∙◌}
use Rattle.std.specs.FinMap.{len}
use Rattle.rent_table.specs.NumberedSlab.{at}
use Rattle.rent_table.proofs.Picks.{len-changed}
use Rattle.rent_table.proofs.Marked.{marked-changed}
use Rattle.rent_table.proofs.numbered_places.NumberedPlaces.replace.Goals as goal

pub invariant_of-self : goal.invariant_of-self
invariant_of-self g c =
    let here = ap (λ t. is_some (at t c.args.number)) c.self.view_is ∙ c.requires in
    marked-changed _ _ c.self.inside.numbers c.self.inside.numbers c.args.number c.args.value c.replace.ensures.entries here c.self.invariant

pub returns-clause-spare : goal.returns-clause-spare
returns-clause-spare g c =
    let here = ap (λ t. is_some (at t c.args.number)) c.self.view_is ∙ c.requires in
    let count = ap len c.replace.ensures.entries ∙ len-changed c.self.inside.values.entries c.args.number c.args.value here in
    (λ i. min (c.replace.ensures.spare i) (length c.self.inside.numbers - (count i + 1))) ∙ ap (λ t. t.spare) c.self.view_is
