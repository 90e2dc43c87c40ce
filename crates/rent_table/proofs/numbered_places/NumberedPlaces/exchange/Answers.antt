use Rattle.std.proofs.Common.{◌-◌, ◌+◌, min, is_some, length, refl, ap, ◌∙◌}
use Rattle.rent_table.specs.NumberedSlab.{at}
use Rattle.rent_table.proofs.Marked.{marked-exchanged, len-exchanged}
use Rattle.rent_table.proofs.numbered_places.NumberedPlaces.exchange.Goals as goal

pub invariant_of-self : goal.invariant_of-self
invariant_of-self g c =
    marked-exchanged c.self.inside.values.entries c.exchange.new.self.entries c.self.inside.numbers c.self.inside.numbers c.args.number c.args.value (is_some (at c.self.inside.values c.args.number)) refl c.exchange.ensures.entries c.self.invariant

pub returns-clause-spare : goal.returns-clause-spare
returns-clause-spare g c =
    let count = len-exchanged c.self.inside.values.entries c.exchange.new.self.entries c.self.inside.numbers c.self.inside.numbers c.args.number c.args.value (is_some (at c.self.inside.values c.args.number)) refl c.exchange.ensures.entries in
    (λ i. min (c.exchange.ensures.spare i) (length c.self.inside.numbers - (count i + 1))) ∙ ap (λ t. t.spare) c.self.view_is
