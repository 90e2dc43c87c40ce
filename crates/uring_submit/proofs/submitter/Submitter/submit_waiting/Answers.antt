use Rattle.std.proofs.Common.{◌≡◌, ◌∙◌, ℕ, ℤ, [], Option, Some, Ok, sym, subst, ap, true, false}
use Rattle.ring_setup.specs.declared.parameters.Parameters.{Parameters}
use Rattle.uring_types.specs.declared.submit_args.SubmitArgs.{SubmitArgs}
use Rattle.partner_traits.specs.declared.call.EnterCall.{EnterCall}
use Rattle.partner_traits.specs.Calls.{IsCall}
use Rattle.uring_submit.specs.Decisions.{enters, waiting, wanted_call}
use Rattle.uring_submit.specs.Submits.{params_of, registered_of, Submits}
use Rattle.uring_submit.proofs.Entered.{asked_of, asks_for_all, failed, failed_calls}
use Rattle.uring_submit.proofs.Full.{full_before}
use Rattle.uring_submit.proofs.Unmoved.{unmoved}
use Rattle.uring_submit.proofs.submitter.Submitter.submit_waiting.Goals as goal

decided : (d : Option EnterCall) (call : EnterCall) (published want flags word : ℕ) (params : Parameters) (registered : Option ℤ) (args : Option SubmitArgs) → d ≡ Some call → d ≡ waiting published flags params registered want args → flags ≡ word → Some call ≡ waiting published word params registered want args
decided d call published want flags word params registered args is made same = sym is ∙ made ∙ ap (λ f. waiting published f params registered want args) same

pub returns-clause-submits : goal.returns-clause-submits
returns-clause-submits g c =
    let p = c.published-published.ensures in
    let e = c.in_ok-taken.ensures.moves in
    let at = unmoved g.Q.Rings.kept _ _ (g.met.Q.PartnerSide.moved_told _ _ [] [] p.moved) in
    let shown = c.from_bits_retain-shown.ensures tt ∙ c.sq_flags.ensures in (
      c.published-published.result,
      p.told,
      subst (λ d. Submits g.P.Partner.machine g.P.Partner.log g.P.Partner.state g.Q.Rings.lists g.Q.PartnerSide.ready g.Q.PartnerSide.space g.Q.PartnerSide.moved g.P.Partner.calls d c.published-published.result c.args.partner.now c.enter.new.self c.args.side.now c.enter.new.side (Ok c.in_ok-taken.taken)) (decided _ _ c.published-published.result c.args.want c.from_bits_retain-shown.result.0 _ (params_of c.args.self.now) (registered_of c.args.self.now) c.args.args c.in-Some.is c.decide.ensures shown) ((
        record {
          moves = e.0;
          made = record { sides = g.met.Q.PartnerSide.moved_then _ _ _ [] _ [] _ p.moved e.1.sides; logs = e.1.logs; states = e.1.states };
          call = subst (λ l. IsCall true c.in-Some.call.to_submit l e.0) at e.2;
          taken = e.3;
          full = full_before g.P.Partner.machine (g.P.Partner.state c.args.partner.now) (g.Q.PartnerSide.ready c.args.side.now) c.in-Some.call.to_submit (g.Q.PartnerSide.ready c.published-published.new.self) (g.Q.PartnerSide.space c.args.side.now) (g.Q.PartnerSide.space c.published-published.new.self) _ _ e.0 p.grows (asks_for_all (enters c.from_bits_retain-shown.result.0 (params_of c.args.self.now) c.args.want) c.in-Some.call (wanted_call c.published-published.result c.from_bits_retain-shown.result.0 (params_of c.args.self.now) (registered_of c.args.self.now) c.args.want c.args.args) (sym c.in-Some.is ∙ c.decide.ensures) ∙ asked_of (registered_of c.args.self.now) c.published-published.result c.args.want _ c.args.args ∙ p.count) p.space at e.4;
        },
        c.in_ok-taken.ensures.calls,
      )),
    )

pub returns-in_err-taken-clause-submits : goal.returns-in_err-taken-clause-submits
returns-in_err-taken-clause-submits g c =
    let p = c.published-published.ensures in
    let e = c.in_err-taken.ensures.moves in
    let at = unmoved g.Q.Rings.kept _ _ (g.met.Q.PartnerSide.moved_told _ _ [] [] p.moved) in
    let shown = c.from_bits_retain-shown.ensures tt ∙ c.sq_flags.ensures in (
      c.published-published.result,
      p.told,
      subst (λ d. Submits g.P.Partner.machine g.P.Partner.log g.P.Partner.state g.Q.Rings.lists g.Q.PartnerSide.ready g.Q.PartnerSide.space g.Q.PartnerSide.moved g.P.Partner.calls d c.published-published.result c.args.partner.now c.enter.new.self c.args.side.now c.enter.new.side c.from_residual.result) (decided _ _ c.published-published.result c.args.want c.from_bits_retain-shown.result.0 _ (params_of c.args.self.now) (registered_of c.args.self.now) c.args.args c.in-Some.is c.decide.ensures shown)
          ((
            failed g.P.Partner.machine g.P.Partner.log g.P.Partner.state g.Q.Rings.lists g.Q.PartnerSide.ready g.Q.PartnerSide.space g.Q.PartnerSide.moved c.in-Some.call c.args.partner.now c.enter.new.self c.args.side.now c.enter.new.side e.0 c.from_residual.result c.from_residual.ensures.0
                (record { sides = g.met.Q.PartnerSide.moved_then _ _ _ [] _ [] _ p.moved e.1.sides; logs = e.1.logs; states = e.1.states })
                (subst (λ l. IsCall false c.in-Some.call.to_submit l e.0) at e.2),
            failed_calls _ c.from_residual.result c.from_residual.ensures.0 _ _ c.in_err-taken.ensures.calls,
          )),
    )
