use Rattle.std.proofs.Common.{Some, None, Ok, Err, refl, inl, inr, ap, sym, subst, ◌∙◌}
use Rattle.std.proofs.lemmas.Result.{err_from_is_err_and}
use Rattle.partner_serving.proofs.Rows.{round_counted, rows_none, rows_then}
use Rattle.run_loop.specs.Entries.{all_taken}
use Rattle.run_loop.specs.Rounds.{is_partner_fault}
use Rattle.run_loop.specs.UserRounds.{RunEndsBy}
use Rattle.run_loop.proofs.BothLemmas.{partner_ends, run_ends}
use Rattle.run_loop.proofs.in_turn.rounds_in_turn.Goals as goal

pub rounds-init : goal.rounds-init
rounds-init g c = (
  λ first offers x. x,
  c.requires.inside,
  c.requires.settled,
  rows_none g.P.Partner.machine g.P.Partner.Plain g.P.Partner.log g.P.Partner.state g.P.Partner.plan g.P.Counts.faults g.P.Partner.errno g.Q.PartnerSide.moved c.servings_join.ensures.none c.args.side.now c.args.partner.now (g.met.Q.PartnerSide.moved_none c.args.side.now),
)

-- the partner refused

pub returns-in-Err-clause-user : goal.returns-in-Err-clause-user
returns-in-Err-clause-user g c first offers x =
    let user = c.rounds.user in
    subst (RunEndsBy g.R.UserEnds.used first user.engine.ring offers) (sym c.fault_of.ensures)
    (partner_ends g.R.UserEnds.used first user.engine.ring offers (all_taken user.todo g.R.UserEnds.offers_large) user.table.started user.table.slots.items c.in-Err.error (c.rounds.invariant.0 first offers x))

pub returns-in-Err-clause-partner : goal.returns-in-Err-clause-partner
returns-in-Err-clause-partner g c =
    let e = c.in-Err.ensures in (
      Some c.in-Err.error,
      rows_then g.P.Partner.machine g.P.Partner.Plain g.P.Partner.log g.P.Partner.state g.P.Partner.plan g.P.Counts.faults g.P.Partner.errno g.Q.PartnerSide.moved c.servings_join.ensures.join g.met.Q.PartnerSide.moved_then _ _ _ _ _ _ (Some c.in-Err.error) e.served.0 e.served.1 c.rounds.invariant.3 e.served.2 e.served.3
          (round_counted g.P.Partner.state g.P.Partner.plan g.P.Counts.faults g.P.Partner.errno _ _ (Err c.in-Err.error) e.cause e.errno e.plan e.planned e.counted),
      record { ok = tt; fault = inr (c.in-Err.error, refl, c.fault_of.ensures) },
    )

-- the partner went on

pub rounds-preserved : goal.rounds-preserved
rounds-preserved g c =
    let s = c.rounds.invariant in
    let e = c.in_default.ensures in
    let d = c.in_ok-round.ensures in (
      λ first offers x. d.rounds first offers (s.0 first offers x),
      d.inside,
      d.settled,
      rows_then g.P.Partner.machine g.P.Partner.Plain g.P.Partner.log g.P.Partner.state g.P.Partner.plan g.P.Counts.faults g.P.Partner.errno g.Q.PartnerSide.moved c.servings_join.ensures.join g.met.Q.PartnerSide.moved_then _ _ _ _ _ _ None e.served.0 e.served.1 s.3 e.served.2 e.served.3
          (round_counted g.P.Partner.state g.P.Partner.plan g.P.Counts.faults g.P.Partner.errno _ _ (Ok c.in_default.field-0) e.cause e.errno e.plan e.planned e.counted),
    )

-- the user's fault

pub returns-in_err-round-clause-user : goal.returns-in_err-round-clause-user
returns-in_err-round-clause-user g c first offers x =
    let s = c.rounds.invariant in
    let ring = c.round.new.self.engine.ring in
    let p = err_from_is_err_and c.from_residual.result c.from_residual.ensures.1 in
    rw p.1 (subst (RunEndsBy g.R.UserEnds.used first ring offers) (sym p.2) (run_ends g.R.UserEnds.used first ring offers c.in_err-round.field-0.0 (c.in_err-round.ensures.err first offers (s.0 first offers x))))

pub returns-in_err-round-clause-partner : goal.returns-in_err-round-clause-partner
returns-in_err-round-clause-partner g c =
    let s = c.rounds.invariant in
    let e = c.in_default.ensures in
    let p = err_from_is_err_and c.from_residual.result c.from_residual.ensures.1 in (
      None,
      rows_then g.P.Partner.machine g.P.Partner.Plain g.P.Partner.log g.P.Partner.state g.P.Partner.plan g.P.Counts.faults g.P.Partner.errno g.Q.PartnerSide.moved c.servings_join.ensures.join g.met.Q.PartnerSide.moved_then _ _ _ _ _ _ None e.served.0 e.served.1 s.3 e.served.2 e.served.3
          (round_counted g.P.Partner.state g.P.Partner.plan g.P.Counts.faults g.P.Partner.errno _ _ (Ok c.in_default.field-0) e.cause e.errno e.plan e.planned e.counted),
      record {
        ok = rw p.1 tt;
        fault = rw p.1 (inl (ap is_partner_fault p.2 ∙ c.in_err-round.ensures.own));
      },
    )
