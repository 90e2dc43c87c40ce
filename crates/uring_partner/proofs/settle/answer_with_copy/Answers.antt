use Rattle.std.proofs.Common.{◌≡◌, OnOk, sym, subst, ◌∙◌}
use Rattle.uring_partner.proofs.Comes.{item_from_files, item_with, loan_from_tree}
use Rattle.uring_partner.proofs.settle.answer_with_copy.Goals as goal

pub returns-in-None-clause-item : goal.returns-in-None-clause-item
returns-in-None-clause-item c =
    subst (λ x. OnOk c.settle_on_files.result (c.settle_on_files.new.item ≡ x)) (item_from_files c.args.world.now c.args.rest.now.items c.args.item.now (sym c.asked_of.ensures ∙ c.in-None.is)) c.settle_on_files.ensures.item

pub returns-in-Some-clause-item : goal.returns-in-Some-clause-item
returns-in-Some-clause-item c =
    item_with c.settle_on_tree.result c.args.item.now c.settle_on_tree.new.loan _ _ (loan_from_tree c.args.world.now c.args.rest.now.items c.args.item.now c.in-Some.asked (sym c.asked_of.ensures ∙ c.in-Some.is)) c.settle_on_tree.ensures.loan
