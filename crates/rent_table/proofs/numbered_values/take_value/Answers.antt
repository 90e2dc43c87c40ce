use Rattle.std.proofs.Common.{◌<◌, ◌≤◌, length, set, None, ◌≡◌, sym, ap, ◌∙◌, rules}
use Rattle.rent_table.specs.NumberedValues.{near_value}
use Rattle.rent_table.proofs.Spread.{any_default, near_changed, far_changed, value_near, value_far, apart-far}
use Rattle.rent_table.proofs.numbered_values.take_value.Goals as goal

pub returns-then-number-len-clause-value : goal.returns-then-number-len-clause-value
returns-then-number-len-clause-value g c =
    let within : c.args.number < length c.args.near.now.items = search rules in
    let was : near_value c.args.near.now.items c.args.number ≡ c.index_mut.result.now = any_default c.args.near.now.items c.args.number None c.index_mut.result.now within ∙ sym c.index_mut.ensures.value in
    c.take.ensures.value ∙ sym was ∙ sym (value_near c.args.near.now.items c.args.far.now.entries c.args.number within)

pub returns-then-number-len-clause-values : goal.returns-then-number-len-clause-values
returns-then-number-len-clause-values g c =
    let within : c.args.number < length c.args.near.now.items = search rules in
    near_changed c.args.near.now.items (set c.args.near.now.items c.args.number c.take.new.self) c.args.far.now.entries c.args.number None within (ap (set c.args.near.now.items c.args.number) c.take.ensures.after)

pub returns-else-number-len-clause-value : goal.returns-else-number-len-clause-value
returns-else-number-len-clause-value g c =
    let past : length c.args.near.now.items ≤ c.args.number = search rules in
    c.remove.ensures.value ∙ sym (value_far c.args.near.now.items c.args.far.now.entries c.args.number past)

pub returns-else-number-len-clause-values : goal.returns-else-number-len-clause-values
returns-else-number-len-clause-values g c =
    let past : length c.args.near.now.items ≤ c.args.number = search rules in
    far_changed c.args.near.now.items c.args.far.now.entries c.remove.new.self.entries c.args.number None past c.remove.ensures.entries

pub returns-else-number-len-clause-apart : goal.returns-else-number-len-clause-apart
returns-else-number-len-clause-apart g c =
    let past : length c.args.near.now.items ≤ c.args.number = search rules in
    apart-far c.args.near.now.items c.args.far.now.entries c.remove.new.self.entries c.args.number None past c.remove.ensures.entries c.requires.apart
