use Rattle.std.proofs.Common.{is_some, [], refl, sym, ap, ◌∙◌}
use Rattle.rent_table.specs.NumberedValues.{all_values, value_at}
use Rattle.rent_table.proofs.Marked.{len-exchanged}
use Rattle.rent_table.proofs.Spread.{room-same}
use Rattle.rent_table.proofs.numbered_values.NumberedValues.exchange.Goals as goal

pub invariant_of-self : goal.invariant_of-self
invariant_of-self g c =
    let count = len-exchanged (all_values c.self.inside.near.items c.self.inside.far.entries) (all_values c.exchange_value.new.near.items c.exchange_value.new.far.entries) [] [] c.args.number c.args.value (is_some (value_at c.self.inside.near.items c.self.inside.far.entries c.args.number)) refl c.exchange_value.ensures.values in
    record {
      apart = c.exchange_value.ensures.apart;
      counted = c.self.invariant.counted ∙ sym count;
    }

pub returns-clause-spare : goal.returns-clause-spare
returns-clause-spare g c =
    let count = len-exchanged (all_values c.self.inside.near.items c.self.inside.far.entries) (all_values c.exchange_value.new.near.items c.exchange_value.new.far.entries) [] [] c.args.number c.args.value (is_some (value_at c.self.inside.near.items c.self.inside.far.entries c.args.number)) refl c.exchange_value.ensures.values in
    room-same _ _ _ _ _ _ _ (ap (λ t. t.spare) c.self.view_is) c.exchange_value.ensures.spare c.exchange_value.ensures.places count
