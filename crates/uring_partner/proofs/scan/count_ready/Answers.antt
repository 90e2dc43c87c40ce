use Rattle.std.proofs.Common.{◌∙◌, arith}
use Rattle.uring_partner.proofs.Ready.{scan_step, count_skips, count_counts}
use Rattle.uring_partner.proofs.scan.count_ready.Goals as goal
use Rattle.uring_partner.proofs.scan.count_ready.Goals.{then-may_settle, else-may_settle}

pub loop-i-preserved : goal.loop-i-preserved
loop-i-preserved c =
    let s = scan_step c.args.pending.now.items c.loop-i.i _ _ c.has_link-waits.result c.both_undrained-undrained.result c.may_settle.result c.is_drained-drained.result c.index-item.result.now c.loop-i.invariant.scans (omega arith) c.index-item.ensures c.is_drained-drained.ensures c.may_settle.ensures c.has_link-waits.ensures c.both_undrained-undrained.ensures in
    record {
      scans = s.scans;
      counts = elim c.if-may_settle.branch [
        | then-may_settle w ↦ rw w.count-is (count_counts c.args.pending.now.items c.loop-i.i c.loop-i.count c.index-item.result.now s.here (s.ready ∙ w.if-may_settle.true) c.loop-i.invariant.counts)
        | else-may_settle w ↦ rw w.count-is (count_skips c.args.pending.now.items c.loop-i.i c.loop-i.count c.index-item.result.now s.here (s.ready ∙ w.if-may_settle.false) c.loop-i.invariant.counts)
      ];
      below = elim c.if-may_settle.branch [ then-may_settle w ↦ omega arith | else-may_settle w ↦ omega arith ];
    }
