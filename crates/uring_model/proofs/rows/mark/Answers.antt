use Rattle.std.proofs.Common.{arith}
use Rattle.uring_model.proofs.Scanned.{marks_row, marks_past}
use Rattle.uring_model.proofs.rows.mark.Goals as goal

pub returns-then-place-len-clause-rows : goal.returns-then-place-len-clause-rows
returns-then-place-len-clause-rows c = marks_row c.in-Some.number c.args.marks c.args.rows.now.items c.index_mut.result.now c.in-Some.is (omega arith) c.index_mut.ensures.value

pub returns-else-place-len-clause-rows : goal.returns-else-place-len-clause-rows
returns-else-place-len-clause-rows c = marks_past c.in-Some.number c.args.marks c.args.rows.now.items c.in-Some.is (omega arith)
