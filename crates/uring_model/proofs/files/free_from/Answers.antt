use Rattle.std.proofs.Common.{◌≡◌, true, false, is_some, ap, sym, ◌∙◌, arith}
use Rattle.std.proofs.lemmas.Grind.{common_steps}
use Rattle.std.specs.FinMap.{contains_key, from_entries, get}
use Rattle.uring_model.proofs.Keys.{get_at}
use Rattle.uring_model.proofs.FreeNumbers.{first_free, none_free, used_on, is_none}
use Rattle.uring_model.proofs.files.free_from.Goals as goal

pub returns-then-not-contains_key-clause-number : goal.returns-then-not-contains_key-clause-number
returns-then-not-contains_key-clause-number c =
    let files = from_entries c.args.files.now.entries in
    let free : contains_key files c.loop-number.number-counter ≡ false = ap is_some (get_at c.args.files.now.entries c.loop-number.number-counter) ∙ sym c.contains_key.ensures ∙ grind (arith, common_steps) in
    sym (first_free files c.loop-number.number-counter c.loop-number.invariant (omega arith) free)

pub loop-number-preserved : goal.loop-number-preserved
loop-number-preserved c =
    let files = from_entries c.args.files.now.entries in
    let used : contains_key files c.loop-number.number-counter ≡ true = ap is_some (get_at c.args.files.now.entries c.loop-number.number-counter) ∙ sym c.contains_key.ensures ∙ grind (arith, common_steps) in
    used_on files c.loop-number.number-counter c.loop-number.invariant used

pub returns-clause-number : goal.returns-clause-number
returns-clause-number c = sym (none_free (from_entries c.args.files.now.entries) c.loop-number.number-counter c.loop-number.invariant (omega arith))

pub returns-then-not-contains_key-clause-free : goal.returns-then-not-contains_key-clause-free
returns-then-not-contains_key-clause-free c =
    is_none (get (from_entries c.args.files.now.entries) c.loop-number.number-counter)
    (ap is_some (get_at c.args.files.now.entries c.loop-number.number-counter) ∙ sym c.contains_key.ensures ∙ grind (arith, common_steps))
