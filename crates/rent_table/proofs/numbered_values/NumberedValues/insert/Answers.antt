use Rattle.std.proofs.Common.{◌+◌, is_some, sym, ap, ◌∙◌}
use Rattle.std.specs.FinMap.{len}
use Rattle.rent_table.specs.NumberedSlab.{at}
use Rattle.rent_table.specs.NumberedValues.{all_values}
use Rattle.rent_table.proofs.Picks.{len-added}
use Rattle.rent_table.proofs.Spread.{room-added}
use Rattle.rent_table.proofs.numbered_values.NumberedValues.insert.Goals as goal

pub invariant_of-self : goal.invariant_of-self
invariant_of-self g c =
    let new = ap (λ t. is_some (at t c.args.number)) c.self.view_is ∙ ap is_some c.requires.absent in
    record {
      apart = c.put_value.ensures.apart;
      counted = ap (λ n. n + 1) c.self.invariant.counted ∙ sym (ap len c.put_value.ensures.values ∙ len-added (all_values c.self.inside.near.items c.self.inside.far.entries) c.args.number c.args.value new);
    }

pub returns-clause-spare : goal.returns-clause-spare
returns-clause-spare g c =
    let new = ap (λ t. is_some (at t c.args.number)) c.self.view_is ∙ ap is_some c.requires.absent in
    let count = ap len c.put_value.ensures.values ∙ len-added (all_values c.self.inside.near.items c.self.inside.far.entries) c.args.number c.args.value new in
    room-added _ _ _ _ _ _ _ (ap (λ t. t.spare) c.self.view_is) c.put_value.ensures.spare c.put_value.ensures.places count
