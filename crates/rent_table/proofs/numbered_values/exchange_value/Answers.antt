use Rattle.std.proofs.Common.{◌≡◌, ◌<◌, ◌≤◌, length, set, Some, None, is_some, not, true, cond, sym, ap, ◌∙◌, rules}
use Rattle.std.specs.FinMap.{insert}
use Rattle.rent_table.specs.NumberedValues.{all_values, near_value}
use Rattle.rent_table.proofs.Spread.{any_default, near_changed, value_near, value_far, exchanged-far, apart-exchanged}
use Rattle.rent_table.proofs.numbered_values.exchange_value.Goals as goal

pub returns-then-number-len-clause-value : goal.returns-then-number-len-clause-value
returns-then-number-len-clause-value g c =
    let past : length c.args.near.now.items ≤ c.args.number = search rules in
    c.exchange.ensures.value ∙ sym (value_far c.args.near.now.items c.args.far.now.entries c.args.number past)

pub returns-then-number-len-clause-values : goal.returns-then-number-len-clause-values
returns-then-number-len-clause-values g c =
    let past : length c.args.near.now.items ≤ c.args.number = search rules in
    exchanged-far c.args.near.now.items c.args.far.now.entries c.exchange.new.self.entries c.args.number c.args.value past c.exchange.ensures.entries

pub returns-then-number-len-clause-apart : goal.returns-then-number-len-clause-apart
returns-then-number-len-clause-apart g c =
    let past : length c.args.near.now.items ≤ c.args.number = search rules in
    apart-exchanged c.args.near.now.items c.args.far.now.entries c.exchange.new.self.entries c.args.number c.args.value past c.exchange.ensures.entries c.requires.apart

pub returns-then-is_none-clause-value : goal.returns-then-is_none-clause-value
returns-then-is_none-clause-value g c =
    let within : c.args.number < length c.args.near.now.items = search rules in
    let none : near_value c.args.near.now.items c.args.number ≡ None = search rules in
    sym (value_near c.args.near.now.items c.args.far.now.entries c.args.number within ∙ none)

pub returns-then-is_none-clause-values : goal.returns-then-is_none-clause-values
returns-then-is_none-clause-values g c =
    let within : c.args.number < length c.args.near.now.items = search rules in
    let none : near_value c.args.near.now.items c.args.number ≡ None = search rules in
    let there = ap is_some (value_near c.args.near.now.items c.args.far.now.entries c.args.number within ∙ none) in
    sym (ap (λ b. cond b (insert (all_values c.args.near.now.items c.args.far.now.entries) c.args.number c.args.value) (all_values c.args.near.now.items c.args.far.now.entries)) there)

pub returns-clause-value : goal.returns-clause-value
returns-clause-value g c =
    let within : c.args.number < length c.args.near.now.items = search rules in
    let was : near_value c.args.near.now.items c.args.number ≡ c.index_mut.result.now = any_default c.args.near.now.items c.args.number None c.index_mut.result.now within ∙ sym c.index_mut.ensures.value in
    c.replace.ensures.value ∙ sym was ∙ sym (value_near c.args.near.now.items c.args.far.now.entries c.args.number within)

pub returns-clause-values : goal.returns-clause-values
returns-clause-values g c =
    let within : c.args.number < length c.args.near.now.items = search rules in
    let some : is_some (near_value c.args.near.now.items c.args.number) ≡ true = ap is_some (any_default c.args.near.now.items c.args.number None c.index.result.now within ∙ sym c.index.ensures) ∙ c.is_none.ensures ∙ ap not c.if-is_none.false in
    let there = ap is_some (value_near c.args.near.now.items c.args.far.now.entries c.args.number within) ∙ some in
    near_changed c.args.near.now.items (set c.args.near.now.items c.args.number c.replace.new.dest) c.args.far.now.entries c.args.number (Some c.args.value) within (ap (set c.args.near.now.items c.args.number) c.replace.ensures.after)
    ∙ sym (ap (λ b. cond b (insert (all_values c.args.near.now.items c.args.far.now.entries) c.args.number c.args.value) (all_values c.args.near.now.items c.args.far.now.entries)) there)
