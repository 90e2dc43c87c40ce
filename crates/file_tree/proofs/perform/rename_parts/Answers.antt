use Rattle.std.proofs.Common.{◌≡◌, ◌+◌, Some, IfOk, OnOk, take, sym, subst, ◌∙◌}
use Rattle.file_tree.specs.Asks.{renames_in}
use Rattle.file_tree.specs.Dirs.{renames}
use Rattle.file_tree.proofs.Paths.{to_end}
use Rattle.file_tree.proofs.perform.rename_parts.Goals as goal

pub returns-in-Some-clause-result : goal.returns-in-Some-clause-result
returns-in-Some-clause-result c =
    let found = sym c.first_zero.ensures ∙ c.in-Some.is in
    let here : IfOk c.rename.result (λ r. r ≡ (renames_in c.args.tree.now c.args.part.now (Some c.in-Some.zero)).result) =
    subst (λ xs. IfOk c.rename.result (λ r. r ≡ (renames c.args.tree.now (take c.in-Some.zero c.args.part.now) xs).result)) (to_end c.args.part.now (c.in-Some.zero + 1)) c.rename.ensures.result in
    subst (λ o. IfOk c.rename.result (λ r. r ≡ (renames_in c.args.tree.now c.args.part.now o).result)) (sym found) here

pub returns-in-Some-clause-tree : goal.returns-in-Some-clause-tree
returns-in-Some-clause-tree c =
    let found = sym c.first_zero.ensures ∙ c.in-Some.is in
    let here : OnOk c.rename.result (c.rename.new.tree ≡ (renames_in c.args.tree.now c.args.part.now (Some c.in-Some.zero)).tree) =
    subst (λ xs. OnOk c.rename.result (c.rename.new.tree ≡ (renames c.args.tree.now (take c.in-Some.zero c.args.part.now) xs).tree)) (to_end c.args.part.now (c.in-Some.zero + 1)) c.rename.ensures.tree in
    subst (λ o. OnOk c.rename.result (c.rename.new.tree ≡ (renames_in c.args.tree.now c.args.part.now o).tree)) (sym found) here
