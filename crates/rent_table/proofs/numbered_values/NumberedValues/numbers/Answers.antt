use Rattle.std.proofs.Common.{◌≡◌, ◌++◌, ◌||◌, length, is_some, ap, sym, ◌∙◌, subst}
use Rattle.std.specs.List.Sorted.{IsStrictlyIncreasing}
use Rattle.rent_table.specs.Lists.{has}
use Rattle.rent_table.specs.NumberedSlab.{at}
use Rattle.rent_table.specs.NumberedValues.{near_value, AreBelow}
use Rattle.rent_table.proofs.Rising.{has-append, rising-joined}
use Rattle.rent_table.proofs.Spread.{either, from_far}
use Rattle.rent_table.proofs.numbered_values.NumberedValues.numbers.Goals as goal

pub returns-clause-each : goal.returns-clause-each
returns-clause-each g c n =
    let near = c.self.inside.near.items in
    let xs = c.in_ok-numbers.numbers.items in
    let ys = c.in_ok-far.far.items in
    let items : c.extend_from_slice.new.self.items ≡ xs ++ ys = c.in_ok-extend_from_slice.ensures.items ∙ ap (λ l. xs ++ l) c.deref-2.ensures.value in
    ap (has n) items ∙ has-append n xs ys ∙ ap (λ b. b || has n ys) (c.in_ok-numbers.ensures.each n ∙ ap (λ l. is_some (near_value l n)) c.deref.ensures.value) ∙ ap (λ b. is_some (near_value near n) || b) (c.in_ok-far.ensures.each n)
    ∙ either near c.self.inside.far.entries n c.self.invariant.apart ∙ ap (λ t. is_some (at t n)) c.self.view_is

pub returns-clause-rising : goal.returns-clause-rising
returns-clause-rising g c =
    let near = c.self.inside.near.items in
    let xs = c.in_ok-numbers.numbers.items in
    let ys = c.in_ok-far.far.items in
    let items : c.extend_from_slice.new.self.items ≡ xs ++ ys = c.in_ok-extend_from_slice.ensures.items ∙ ap (λ l. xs ++ l) c.deref-2.ensures.value in
    subst IsStrictlyIncreasing (sym items) (rising-joined xs ys (length near) c.in_ok-numbers.ensures.rising c.in_ok-far.ensures.rising (subst (λ l. AreBelow (length l) xs) c.deref.ensures.value c.in_ok-numbers.ensures.below) (from_far near c.self.inside.far.entries ys c.self.invariant.apart c.in_ok-far.ensures.each))
