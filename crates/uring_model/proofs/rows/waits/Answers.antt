use Rattle.std.proofs.Common.{◌+◌, ◌∙◌, sym, ap, drop, arith}
use Rattle.uring_model.specs.Replay.{waits}
use Rattle.uring_model.specs.Rows.{rows_in}
use Rattle.uring_model.proofs.Scanned.{waits_from}
use Rattle.uring_model.proofs.rows.waits.Goals as goal

pub loop-row-preserved : goal.loop-row-preserved
loop-row-preserved c =
    ap (λ w. waits w (rows_in (drop (c.loop-row.row-index + 1) c.args.rows.now))) (sym (c.holds-held.ensures c.loop-row.held))
    ∙ sym (waits_from c.loop-row.held c.args.rows.now c.loop-row.row-index c.row-item.result (omega arith) c.row-item.is)
    ∙ c.loop-row.invariant
