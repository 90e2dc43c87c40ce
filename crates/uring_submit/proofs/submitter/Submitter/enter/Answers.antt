use Rattle.std.proofs.Common.{Ok, Some, subst}
use Rattle.uring_submit.specs.Submits.{EntersAsAsked}
use Rattle.uring_submit.proofs.Entered.{failed_by, failed_calls}
use Rattle.uring_submit.proofs.submitter.Submitter.enter.Goals as goal

pub returns-clause-submits : goal.returns-clause-submits
returns-clause-submits g c =
    let e = c.in_ok-entries.ensures.moves in
    subst (λ d. EntersAsAsked g.P.Partner.machine g.P.Partner.log g.P.Partner.state g.Q.Rings.lists g.Q.PartnerSide.ready g.Q.PartnerSide.space g.Q.PartnerSide.moved g.P.Partner.calls (Some d) c.args.partner.now c.enter.new.self c.args.side.now c.enter.new.side (Ok c.in_ok-entries.entries)) c.call_of-call.ensures
    (record { moves = e.0; made = e.1; call = e.2; taken = e.3; full = e.4 }, c.in_ok-entries.ensures.calls)

pub returns-in_err-entries-clause-submits : goal.returns-in_err-entries-clause-submits
returns-in_err-entries-clause-submits g c =
    let e = c.in_err-entries.ensures.moves in
    subst (λ d. EntersAsAsked g.P.Partner.machine g.P.Partner.log g.P.Partner.state g.Q.Rings.lists g.Q.PartnerSide.ready g.Q.PartnerSide.space g.Q.PartnerSide.moved g.P.Partner.calls (Some d) c.args.partner.now c.enter.new.self c.args.side.now c.enter.new.side c.from_residual.result) c.call_of-call.ensures
    (failed_by g.P.Partner.machine g.P.Partner.log g.P.Partner.state g.Q.Rings.lists g.Q.PartnerSide.ready g.Q.PartnerSide.space g.Q.PartnerSide.moved c.call_of-call.result c.args.partner.now c.enter.new.self c.args.side.now c.enter.new.side e.0 c.from_residual.result c.from_residual.ensures.0 e.1 e.2, failed_calls _ c.from_residual.result c.from_residual.ensures.0 _ _ c.in_err-entries.ensures.calls)
