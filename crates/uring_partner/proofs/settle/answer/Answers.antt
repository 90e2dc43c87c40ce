use Rattle.std.proofs.Common.{◌≡◌, IfOk, OnOk, subst}
use Rattle.uring_model.specs.declared.pending.Pending.{Pending}
use Rattle.uring_partner.specs.Settling.{with_bytes}
use Rattle.uring_partner.proofs.Among.{performed_among, on_loan}
use Rattle.uring_partner.proofs.settle.answer.Goals as goal

pub returns-clause-result : goal.returns-clause-result
returns-clause-result c =
    subst (λ y. IfOk c.perform_on_loan.result (λ answered. answered.result ≡ y.result))
    (performed_among c.args.files.now c.args.rest.now.items c.args.item.now c.args.operation c.finds_job-can_cancel.result c.if-item.false c.if-item-2.false c.requires.asks c.finds_job-can_cancel.ensures) c.perform_on_loan.ensures.result

pub returns-clause-marks : goal.returns-clause-marks
returns-clause-marks c =
    subst (λ y. IfOk c.perform_on_loan.result (λ answered. answered.marks ≡ y.marks))
    (performed_among c.args.files.now c.args.rest.now.items c.args.item.now c.args.operation c.finds_job-can_cancel.result c.if-item.false c.if-item-2.false c.requires.asks c.finds_job-can_cancel.ensures) c.perform_on_loan.ensures.marks

pub returns-clause-files : goal.returns-clause-files
returns-clause-files c =
    subst (λ y. OnOk c.perform_on_loan.result (c.perform_on_loan.new.files ≡ y.world))
    (performed_among c.args.files.now c.args.rest.now.items c.args.item.now c.args.operation c.finds_job-can_cancel.result c.if-item.false c.if-item-2.false c.requires.asks c.finds_job-can_cancel.ensures) c.perform_on_loan.ensures.files

pub returns-clause-item : goal.returns-clause-item
returns-clause-item c =
    subst (λ y. OnOk c.perform_on_loan.result (◌≡◌ {A = Pending} (record { taken = record { entry = c.args.item.now.taken.entry; big = c.args.item.now.taken.big; large = c.args.item.now.taken.large; loan = c.perform_on_loan.new.loan }; cut = c.args.item.now.cut; marked = c.args.item.now.marked }) (with_bytes c.args.item.now y.buf)))
    (performed_among c.args.files.now c.args.rest.now.items c.args.item.now c.args.operation c.finds_job-can_cancel.result c.if-item.false c.if-item-2.false c.requires.asks c.finds_job-can_cancel.ensures)
    (on_loan c.perform_on_loan.result c.args.item.now c.perform_on_loan.new.loan _ c.perform_on_loan.ensures.loan)
