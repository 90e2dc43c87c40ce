use Rattle.std.proofs.Common.{◌≡◌, ◌-◌, cond, is_some, ap, ◌∙◌, rules}
use Rattle.rent_table.specs.NumberedValues.{all_values, value_at}
use Rattle.rent_table.proofs.Spread.{counted-left, no_fewer, room-left}
use Rattle.rent_table.proofs.numbered_values.NumberedValues.remove.Goals as goal

pub invariant_of-self : goal.invariant_of-self
invariant_of-self g c =
    let left : c.saturating_sub-self-inside.result ≡ c.self.inside.count - cond (is_some (value_at c.self.inside.near.items c.self.inside.far.entries c.args.number)) 1 0 = search rules in
    record {
      apart = c.take_value-removed.ensures.apart;
      counted = left ∙ counted-left (all_values c.self.inside.near.items c.self.inside.far.entries) _ c.args.number c.self.inside.count c.take_value-removed.ensures.values c.self.invariant.counted;
    }

pub returns-clause-spare : goal.returns-clause-spare
returns-clause-spare g c =
    let count = no_fewer (all_values c.self.inside.near.items c.self.inside.far.entries) _ c.args.number c.take_value-removed.ensures.values in
    room-left _ _ _ _ _ _ _ (ap (λ t. t.spare) c.self.view_is) c.take_value-removed.ensures.spare c.take_value-removed.ensures.places count
