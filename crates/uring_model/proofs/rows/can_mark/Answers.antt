use Rattle.std.proofs.Common.{◌-◌, ◌∙◌, sym, arith}
use Rattle.uring_model.specs.Rows.{rows_in}
use Rattle.uring_model.proofs.Scanned.{can_mark_below, can_mark_in, can_mark_past}
use Rattle.uring_model.proofs.rows.can_mark.Goals as goal
use Rattle.uring_model.proofs.rows.can_mark.Goals.{then-place-first-via-then-place-first, then-place-first-via-else-place-first+then-place-first-2}

pub returns-then-place-first : goal.returns-then-place-first
returns-then-place-first c = elim c.then-place-first.branch [
  | then-place-first-via-then-place-first w ↦ sym (can_mark_below c.args.number c.args.first (rows_in c.args.rows.now) (omega arith))
  | then-place-first-via-else-place-first+then-place-first-2 w ↦ sym (can_mark_past c.args.number c.args.first (c.args.number - c.args.first) c.args.rows.now (omega arith) (omega arith))
]

pub returns : goal.returns
returns c = c.is_unmarked.ensures ∙ sym (can_mark_in c.args.number c.args.first (c.args.number - c.args.first) c.args.rows.now c.index-rows-place.result (omega arith) (omega arith) c.index-rows-place.is)
