-- What the loop found is a reading, and bytes have one.
use Rattle.std.proofs.Common.{◌≡◌, ◌++◌, ◌∷◌, [], drop, Err, ap, sym, subst, ◌∙◌, rules, append-nil}
use Rattle.std.proofs.lemmas.List.{drop_all}
use Rattle.std.specs.List.{AllByRecursion}
use Rattle.uring_mixed.specs.Listing.{IsEntry, IsReading, encoding}
use Rattle.uring_mixed.proofs.OneReading.{only_reading, front_more, entries_more, fault_reads}
use Rattle.uring_mixed.proofs.listing.decode.Goals as goal

pub returns-in_err-item-clause-reading : goal.returns-in_err-item-clause-reading
returns-in_err-item-clause-reading g c =
    let answer : c.from_residual.result ≡ Err c.in_err-item.field-0.0 = search rules in
    subst (IsReading g.T.Listed.form c.args.bytes.now) (sym answer)
    (fault_reads g.T.Listed.form c.entries.items.items c.entries.place c.args.bytes.now c.in_err-item.field-0.0
    c.entries.invariant.entries c.entries.invariant.front c.entries-test.true c.in_err-item.ensures.err)

pub returns-in_err-item-clause-only : goal.returns-in_err-item-clause-only
returns-in_err-item-clause-only g c = only_reading g.T.Listed.form c.args.bytes.now _ (returns-in_err-item-clause-reading g c)

pub entries-preserved : goal.entries-preserved
entries-preserved g c =
    let stands = c.in_ok-item.ensures.ok in
    let more : c.push.new.self.items ≡ c.entries.items.items ++ c.in_ok-item.item ∷ [] = search rules in
    record {
      inside = stands.inside;
      entries = subst (AllByRecursion (IsEntry g.T.Listed.form)) (sym more)
          (entries_more g.T.Listed.form c.entries.items.items c.in_ok-item.item c.entries.invariant.entries stands.entry);
      front = ap (λ l. encoding g.T.Listed.form l ++ drop c.in_ok-item.end c.args.bytes.now) more
          ∙ front_more g.T.Listed.form c.entries.items.items c.in_ok-item.item c.entries.place c.in_ok-item.end c.args.bytes.now c.entries.invariant.front stands;
    }

pub returns-clause-reading : goal.returns-clause-reading
returns-clause-reading g c =
    let end : drop c.entries.place c.args.bytes.now ≡ [] = drop_all c.entries.place c.args.bytes.now c.entries-test.false in
    (c.entries.invariant.entries, sym (append-nil (encoding g.T.Listed.form c.entries.items.items)) ∙ ap (λ l. encoding g.T.Listed.form c.entries.items.items ++ l) (sym end) ∙ c.entries.invariant.front)

pub returns-clause-only : goal.returns-clause-only
returns-clause-only g c = only_reading g.T.Listed.form c.args.bytes.now _ (returns-clause-reading g c)
