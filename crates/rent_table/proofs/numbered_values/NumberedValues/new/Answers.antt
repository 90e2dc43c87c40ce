use Rattle.std.proofs.Common.{length, sym, ap, ◌∙◌, arith}
use Rattle.std.specs.Ordering.{nat_cmp}
use Rattle.std.specs.FinMap.{len, len-empty}
use Rattle.rent_table.specs.NumberedValues.{all_values}
use Rattle.rent_table.proofs.numbered_values.NumberedValues.new.Goals as goal

pub invariant_of-result : goal.invariant_of-result
invariant_of-result g c =
    let none = ap length c.new.ensures.items in
    record {
      apart = λ n lt. absurd (omega (arith, lt, none));
      counted = sym (ap (λ l. len (all_values l c.new-2.result.entries)) c.new.ensures.items ∙ ap len c.new-2.ensures ∙ len-empty nat_cmp _);
    }
