use Rattle.std.proofs.Common.{◌≡◌, ◌++◌, ◌∷◌, [], length, length-append, sym, ap, ◌∙◌, arith}
use Rattle.std.specs.FinMap.{get, remove}
use Rattle.rent_table.proofs.Spread.{longer, brought_near, apart-near}
use Rattle.rent_table.proofs.numbered_values.bring_near.Goals as goal

pub loop-number-preserved : goal.loop-number-preserved
loop-number-preserved g c =
    let i = c.loop-number.invariant in
    let here : get c.loop-number.far.entries c.loop-number.number ≡ get c.loop-number.far.entries (length c.loop-number.near.items) = ap (get c.loop-number.far.entries) (sym i.longer) in
    let items : c.push_reserved.new.self.items ≡ longer c.loop-number.near.items c.loop-number.far.entries = c.push_reserved.ensures.items ∙ ap (λ o. c.loop-number.near.items ++ o ∷ []) (c.remove.ensures.value ∙ here) in
    let left : c.remove.new.self.entries ≡ remove c.loop-number.far.entries (length c.loop-number.near.items) = c.remove.ensures.entries ∙ ap (remove c.loop-number.far.entries) (sym i.longer) in
    record {
      longer = let l = ap length items ∙ length-append c.loop-number.near.items (get c.loop-number.far.entries (length c.loop-number.near.items) ∷ []) in let e = i.longer in omega (arith, l, e);
      capacity = c.push_reserved.ensures.capacity ∙ i.capacity;
      values = brought_near c.loop-number.near.items c.loop-number.far.entries c.push_reserved.new.self.items c.remove.new.self.entries items left ∙ i.values;
      apart = apart-near c.loop-number.near.items c.loop-number.far.entries c.push_reserved.new.self.items c.remove.new.self.entries items left i.apart;
      spare = let more = c.remove.ensures.spare in let was = i.spare in omega (arith, more, was);
    }
