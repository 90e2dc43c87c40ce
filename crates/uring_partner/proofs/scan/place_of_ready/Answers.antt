use Rattle.std.proofs.Common.{◌∙◌, arith, refl}
use Rattle.uring_partner.proofs.Ready.{scan_step, seek_skips, seek_some, seek_less, seek_found}
use Rattle.uring_partner.proofs.scan.place_of_ready.Goals as goal
use Rattle.uring_partner.proofs.scan.place_of_ready.Goals.{then-may_settle+else-left-eq0, else-may_settle}

pub loop-i-preserved : goal.loop-i-preserved
loop-i-preserved c =
    let s = scan_step c.args.pending.now.items c.loop-i.i _ _ c.has_link-waits.result c.both_undrained-undrained.result c.may_settle.result c.is_drained-drained.result c.index-item.result.now c.loop-i.invariant.scans (omega arith) c.index-item.ensures c.is_drained-drained.ensures c.may_settle.ensures c.has_link-waits.ensures c.both_undrained-undrained.ensures in
    record {
      scans = s.scans;
      seeks = elim c.if-may_settle.branch [
        | then-may_settle+else-left-eq0 w ↦ rw w.left-is (seek_less c.args.pending.now.items c.args.wanted c.loop-i.i c.loop-i.left c.index-item.result.now s.here (s.ready ∙ w.if-may_settle.true) (omega arith) c.loop-i.invariant.seeks)
        | else-may_settle w ↦ rw w.left-is (seek_skips c.args.pending.now.items c.args.wanted c.loop-i.i c.loop-i.left c.index-item.result.now s.here (s.ready ∙ w.if-may_settle.false) c.loop-i.invariant.seeks)
      ];
    }

pub unreachable-requires : goal.unreachable-requires
unreachable-requires c = seek_some c.args.pending.now.items c.args.wanted c.loop-i.i c.loop-i.left (omega arith) c.requires c.loop-i.invariant.seeks

pub returns-then-left-eq0 : goal.returns-then-left-eq0
returns-then-left-eq0 c =
    let s = scan_step c.args.pending.now.items c.loop-i.i c.loop-i.waits c.loop-i.undrained _ _ c.may_settle.result c.is_drained-drained.result c.index-item.result.now c.loop-i.invariant.scans (omega arith) c.index-item.ensures c.is_drained-drained.ensures c.may_settle.ensures refl refl in
    seek_found c.args.pending.now.items c.args.wanted c.loop-i.i c.loop-i.left c.index-item.result.now s.here (s.ready ∙ c.if-may_settle.true) c.if-left-eq0.true c.loop-i.invariant.seeks
