-- The bytes of an entry hold it.
use Rattle.std.proofs.Common.{◌≡◌, ◌++◌, ◌∷◌, subst, ap, sym, ◌∙◌, rules}
use Rattle.std.specs.Prelude.{OnOk}
use Rattle.uring_mixed.specs.declared.listing.TheConstants.{SMALL_MARK, LARGE_MARK}
use Rattle.uring_mixed.specs.Listing.{IsEntry}
use Rattle.uring_mixed.specs.Forms.{entry_form, entry_code}
use Rattle.uring_mixed.proofs.Held.{small_entry, large_entry}
use Rattle.uring_mixed.proofs.entries.MixedEntryListed.put.Goals as goal

pub returns-in-Small-clause-entry : goal.returns-in-Small-clause-entry
returns-in-Small-clause-entry c =
    subst (IsEntry entry_form) (sym c.in-Small.is)
    (small_entry c.in-Small.entry c.to_bytes.result c.to_bytes.ensures.value c.to_bytes.ensures.inverse (search rules))

pub returns-in-Small-clause-ok : goal.returns-in-Small-clause-ok
returns-in-Small-clause-ok c =
    let code : SMALL_MARK ∷ c.to_bytes.result ≡ entry_code c.args.self.now = ap (λ l. SMALL_MARK ∷ l) c.to_bytes.ensures.value ∙ ap entry_code (sym c.in-Small.is) in
    subst (λ l. OnOk c.put_marked.result (c.put_marked.new.bytes.items ≡ c.args.bytes.now.items ++ l)) code c.put_marked.ensures

pub returns-in-Large-clause-entry : goal.returns-in-Large-clause-entry
returns-in-Large-clause-entry c =
    subst (IsEntry entry_form) (sym c.in-Large.is)
    (large_entry c.in-Large.large c.to_bytes-in-Large.result c.to_bytes-in-Large.ensures.value c.to_bytes-in-Large.ensures.inverse (search rules))

pub returns-in-Large-clause-ok : goal.returns-in-Large-clause-ok
returns-in-Large-clause-ok c =
    let code : LARGE_MARK ∷ c.to_bytes-in-Large.result ≡ entry_code c.args.self.now = ap (λ l. LARGE_MARK ∷ l) c.to_bytes-in-Large.ensures.value ∙ ap entry_code (sym c.in-Large.is) in
    subst (λ l. OnOk c.put_marked-in-Large.result (c.put_marked-in-Large.new.bytes.items ≡ c.args.bytes.now.items ++ l)) code c.put_marked-in-Large.ensures
