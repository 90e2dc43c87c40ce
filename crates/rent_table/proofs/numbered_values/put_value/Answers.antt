use Rattle.std.proofs.Common.{◌≡◌, ◌<◌, ◌≤◌, length, set, refl, Some, is_some, false, subst, T, sym, ap, ◌∙◌, rules}
use Rattle.rent_table.specs.NumberedSlab.{at}
use Rattle.rent_table.proofs.Spread.{near_changed, far_changed, value_far, apart-far}
use Rattle.rent_table.proofs.numbered_values.put_value.Goals as goal

pub insert-requires-clause-room : goal.insert-requires-clause-room
insert-requires-clause-room g c =
    let past : length c.args.near.now.items ≤ c.args.number = search rules in
    c.requires.room (value_far c.args.near.now.items c.args.far.now.entries c.args.number past ∙ search rules)

pub returns-then-number-len-clause-values : goal.returns-then-number-len-clause-values
returns-then-number-len-clause-values g c =
    let within : c.args.number < length c.args.near.now.items = search rules in
    near_changed c.args.near.now.items (set c.args.near.now.items c.args.number (Some c.args.value)) c.args.far.now.entries c.args.number (Some c.args.value) within refl

pub returns-then-contains-clause-values : goal.returns-then-contains-clause-values
returns-then-contains-clause-values g c =
    let past : length c.args.near.now.items ≤ c.args.number = search rules in
    far_changed c.args.near.now.items c.args.far.now.entries c.replace.new.self.entries c.args.number (Some c.args.value) past c.replace.ensures.entries

pub returns-then-contains-clause-apart : goal.returns-then-contains-clause-apart
returns-then-contains-clause-apart g c =
    let past : length c.args.near.now.items ≤ c.args.number = search rules in
    apart-far c.args.near.now.items c.args.far.now.entries c.replace.new.self.entries c.args.number (Some c.args.value) past c.replace.ensures.entries c.requires.apart

pub returns-else-contains-clause-values : goal.returns-else-contains-clause-values
returns-else-contains-clause-values g c =
    let past : length c.args.near.now.items ≤ c.args.number = search rules in
    far_changed c.args.near.now.items c.args.far.now.entries c.insert.new.self.entries c.args.number (Some c.args.value) past c.insert.ensures.entries

pub returns-else-contains-clause-apart : goal.returns-else-contains-clause-apart
returns-else-contains-clause-apart g c =
    let past : length c.args.near.now.items ≤ c.args.number = search rules in
    apart-far c.args.near.now.items c.args.far.now.entries c.insert.new.self.entries c.args.number (Some c.args.value) past c.insert.ensures.entries c.requires.apart

pub returns-else-contains-clause-same_spare : goal.returns-else-contains-clause-same_spare
returns-else-contains-clause-same_spare g c = λ is.
    let past : length c.args.near.now.items ≤ c.args.number = search rules in
    let none : is_some (at c.args.far.now c.args.number) ≡ false = search rules in
    absurd (subst T (sym is ∙ ap is_some (value_far c.args.near.now.items c.args.far.now.entries c.args.number past) ∙ none) tt)
