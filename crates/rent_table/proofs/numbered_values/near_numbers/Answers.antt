use Rattle.std.proofs.Common.{◌≡◌, ◌+◌, ◌≤◌, ◌++◌, ◌∷◌, [], length, None, is_some, true, false, ap, sym, ◌∙◌, subst}
use Rattle.std.specs.List.Sorted.{IsStrictlyIncreasing}
use Rattle.rent_table.specs.Lists.{has}
use Rattle.rent_table.specs.NumberedValues.{near_value, AreBelow}
use Rattle.rent_table.proofs.Rising.{has-pushed, has-passed, rising-pushed, below-pushed, below-more}
use Rattle.rent_table.proofs.Spread.{any_default, all_near}
use Rattle.rent_table.proofs.numbered_values.near_numbers.Goals as goal
use Rattle.rent_table.proofs.numbered_values.near_numbers.Goals.{then-is_some+in_ok-push, else-is_some}

pub loop-number-preserved : goal.loop-number-preserved
loop-number-preserved g c =
    let i = c.loop-number.invariant in
    let xs = c.loop-number.numbers.items in
    let number = c.loop-number.number in
    let value = any_default c.args.near.now number None c.index-near-number.result c.loop-number-test.true ∙ sym c.index-near-number.is in
    elim c.if-is_some.branch [
      | then-is_some+in_ok-push w ↦
          let items : c.if-is_some.numbers.items ≡ xs ++ number ∷ [] = ap (λ v. v.items) w.numbers-is ∙ w.in_ok-push.ensures.items in
          let some : is_some (near_value c.args.near.now number) ≡ true = ap is_some value ∙ sym c.is_some.ensures ∙ w.if-is_some.true in
          record {
            each = λ n. ap (has n) items ∙ has-pushed xs number (λ q. is_some (near_value c.args.near.now q)) i.each some n;
            rising = subst IsStrictlyIncreasing (sym items) (rising-pushed xs number i.rising i.below);
            below = subst (AreBelow (number + 1)) (sym items) (below-pushed xs number i.below);
          }
      | else-is_some w ↦
          let items : c.if-is_some.numbers.items ≡ xs = ap (λ v. v.items) w.numbers-is in
          let none : is_some (near_value c.args.near.now number) ≡ false = ap is_some value ∙ sym c.is_some.ensures ∙ w.if-is_some.false in
          record {
            each = λ n. ap (has n) items ∙ has-passed xs number (λ q. is_some (near_value c.args.near.now q)) i.each none n;
            rising = subst IsStrictlyIncreasing (sym items) i.rising;
            below = subst (AreBelow (number + 1)) (sym items) (below-more xs number i.below);
          }
    ]

pub returns-clause-each : goal.returns-clause-each
returns-clause-each g c = λ n.
    let past : length c.args.near.now ≤ c.loop-number.number = search in
    c.loop-number.invariant.each n ∙ all_near c.args.near.now c.loop-number.number n past
