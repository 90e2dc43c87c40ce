use Rattle.std.proofs.Common.{◌≡◌, ◌<◌, ◌≤◌, length, rules, sym, ap, ◌∙◌}
use Rattle.rent_table.specs.NumberedSlab.{at}
use Rattle.rent_table.specs.NumberedValues.{near_value}
use Rattle.rent_table.proofs.Spread.{value_near, value_far}
use Rattle.rent_table.proofs.numbered_values.NumberedValues.get.Goals as goal

pub returns-in-Some : goal.returns-in-Some
returns-in-Some g c =
    let within : c.args.number < length c.self.inside.near.items = search rules in
    let is : near_value c.self.inside.near.items c.args.number ≡ c.in-Some.value.now = search rules in
    c.as_ref.ensures.value ∙ sym is ∙ sym (value_near c.self.inside.near.items c.self.inside.far.entries c.args.number within) ∙ ap (λ t. at t c.args.number) c.self.view_is

pub returns-in-None : goal.returns-in-None
returns-in-None g c =
    let past : length c.self.inside.near.items ≤ c.args.number = search rules in
    c.get-in-None.ensures ∙ sym (value_far c.self.inside.near.items c.self.inside.far.entries c.args.number past) ∙ ap (λ t. at t c.args.number) c.self.view_is
