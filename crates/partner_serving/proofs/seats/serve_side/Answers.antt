use Rattle.std.proofs.Common.{Some, None, Ok, Err}
use Rattle.partner_serving.proofs.Rows.{round_counted, rows_none, rows_then}
use Rattle.partner_serving.proofs.seats.serve_side.Goals as goal

pub loop-init : goal.loop-init
loop-init g c = rows_none g.P.Partner.machine g.P.Partner.Plain g.P.Partner.log g.P.Partner.state g.P.Partner.plan g.P.Counts.faults g.P.Partner.errno g.Q.PartnerSide.moved c.servings_join.ensures.none c.args.side.now c.args.partner.now (g.met.Q.PartnerSide.moved_none c.args.side.now)

-- a round that isn't refused

pub loop-preserved-in-Ok-true : goal.loop-preserved-in-Ok-true
loop-preserved-in-Ok-true g c =
    let e = c.in-Ok-true.ensures in
    rows_then g.P.Partner.machine g.P.Partner.Plain g.P.Partner.log g.P.Partner.state g.P.Partner.plan g.P.Counts.faults g.P.Partner.errno g.Q.PartnerSide.moved c.servings_join.ensures.join g.met.Q.PartnerSide.moved_then _ _ _ _ _ _ None e.served.0 e.served.1 c.loop.invariant e.served.2 e.served.3
    (round_counted g.P.Partner.state g.P.Partner.plan g.P.Counts.faults g.P.Partner.errno _ _ (Ok c.in-Ok-true.field-0) e.cause e.errno e.plan e.planned e.counted)

pub loop-preserved : goal.loop-preserved
loop-preserved g c =
    let e = c.in-Ok-false.ensures in
    rows_then g.P.Partner.machine g.P.Partner.Plain g.P.Partner.log g.P.Partner.state g.P.Partner.plan g.P.Counts.faults g.P.Partner.errno g.Q.PartnerSide.moved c.servings_join.ensures.join g.met.Q.PartnerSide.moved_then _ _ _ _ _ _ None e.served.0 e.served.1 c.loop.invariant e.served.2 e.served.3
    (round_counted g.P.Partner.state g.P.Partner.plan g.P.Counts.faults g.P.Partner.errno _ _ (Ok c.in-Ok-false.field-0) e.cause e.errno e.plan e.planned e.counted)

-- the one that is refused

pub returns-in-Err : goal.returns-in-Err
returns-in-Err g c =
    let e = c.in-Err.ensures in
    rows_then g.P.Partner.machine g.P.Partner.Plain g.P.Partner.log g.P.Partner.state g.P.Partner.plan g.P.Counts.faults g.P.Partner.errno g.Q.PartnerSide.moved c.servings_join.ensures.join g.met.Q.PartnerSide.moved_then _ _ _ _ _ _ (Some c.in-Err.error) e.served.0 e.served.1 c.loop.invariant e.served.2 e.served.3
    (round_counted g.P.Partner.state g.P.Partner.plan g.P.Counts.faults g.P.Partner.errno _ _ (Err c.in-Err.error) e.cause e.errno e.plan e.planned e.counted)
