-- One entry more.
use Rattle.std.proofs.Common.{◌≡◌, ◌+◌, ◌++◌, ◌∷◌, [], take, ap, sym, subst, ◌∙◌, add-one}
use Rattle.std.proofs.Math.Seq.{take-suc}
use Rattle.std.specs.List.{AllByRecursion}
use Rattle.uring_mixed.specs.Listing.{IsEntry, encoding}
use Rattle.uring_mixed.proofs.OneReading.{encoding_more, entries_more}
use Rattle.uring_mixed.proofs.listing.encode.Goals as goal

pub loop-item-preserved : goal.loop-item-preserved
loop-item-preserved g c =
    let front = take c.loop-item.item-index c.args.items.now in
    let more : take (c.loop-item.item-index + 1) c.args.items.now ≡ front ++ c.item-item.result ∷ [] =
    ap (λ n. take n c.args.items.now) (add-one c.loop-item.item-index)
    ∙ take-suc c.args.items.now c.loop-item.item-index c.item-item.result c.loop-item-test.true
    ∙ ap (λ x. front ++ x ∷ []) (sym c.item-item.is) in
    let put : c.put.new.bytes.items ≡ c.loop-item.bytes.items ++ g.T.Listed.form.code c.item-item.result = c.in_ok-put.ensures.ok in
    record {
      bytes_are = put ∙ ap (λ l. l ++ g.T.Listed.form.code c.item-item.result) c.loop-item.invariant.bytes_are
          ∙ sym (encoding_more g.T.Listed.form front c.item-item.result) ∙ ap (encoding g.T.Listed.form) (sym more);
      entries = subst (AllByRecursion (IsEntry g.T.Listed.form)) (sym more)
          (entries_more g.T.Listed.form front c.item-item.result c.loop-item.invariant.entries c.put.ensures.entry);
    }
