use Rattle.std.proofs.Common.{sym, ap, subst, ◌∙◌}
use Rattle.std.specs.Prelude.{min}
use Rattle.std.specs.FinMap as map
use Rattle.uring_model.proofs.Keys.{one_gone}
use Rattle.uring_model.specs.FreeNumber.{AllUsed}
use Rattle.uring_model.proofs.FreeNumbers.{used_remove}
use Rattle.uring_model.proofs.files.Files.remove.Goals as goal

pub returns : goal.returns
returns c = one_gone c.self.inside.by_number.entries c.remove-bytes.new.self.entries c.args.number c.remove-bytes.ensures.updates.0 ∙ ap (λ m. map.remove m c.args.number) c.self.view_is

pub invariant_of-self : goal.invariant_of-self
invariant_of-self c =
    let gone = one_gone c.self.inside.by_number.entries c.remove-bytes.new.self.entries c.args.number c.remove-bytes.ensures.updates.0 in
    let used = used_remove (map.from_entries c.self.inside.by_number.entries) c.self.inside.used c.args.number c.self.invariant in
    subst (AllUsed c.min-self-inside.result) (sym gone) (subst (λ n. AllUsed n (map.remove (map.from_entries c.self.inside.by_number.entries) c.args.number)) (sym c.min-self-inside.ensures) used)
