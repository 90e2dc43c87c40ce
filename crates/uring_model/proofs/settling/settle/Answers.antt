use Rattle.std.proofs.Common.{◌∙◌, sym, ap, length}
use Rattle.uring_model.specs.Operations.{answer_in}
use Rattle.uring_model.proofs.Replaying.{settle_steps, answer_parts}
use Rattle.uring_model.proofs.settling.settle.Goals as goal

pub returns : goal.returns
returns c =
    let part = c.as_mut_slice.result.now in
    let e = c.in_ok-answered.ensures in
    answer_parts (answer_in c.args.files.now c.finds-can_cancel.result c.operation_of_kind-operation.result part) c.in_ok-answered.answered.result c.in_ok-buf.buf c.perform.new.part c.perform.new.files c.in_ok-answered.answered.marks (c.perform.auto.part ∙ ap length c.as_mut_slice.ensures.value) e.result e.part e.files e.marks
    ∙ settle_steps c.args.files.now c.args.before.now c.args.row.now c.args.after.now c.operation_of_kind-operation.result c.finds-can_cancel.result part c.if-row.false (sym c.is_severed.ensures ∙ c.if-is_severed.false) c.operation_of_kind-operation.ensures.op (c.as_mut_slice.ensures.value ∙ c.in_ok-buf.ensures) c.finds-can_cancel.ensures
