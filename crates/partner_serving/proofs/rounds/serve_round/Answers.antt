use Rattle.std.proofs.Common.{◌≡◌, min, [], refl, sym, subst, false, true, arith, inr}
use Rattle.uring_model.specs.Moves.{took, posted}
use Rattle.partner_traits.specs.Calls.{IsFullTurn}
use Rattle.partner_serving.proofs.Enters.{told_all, told_then, one_turn, at_most_one, serving_of, full_works, full_before, full_takes, full_empties, no_enter}
use Rattle.partner_serving.proofs.rounds.serve_round.Goals as goal

-- the look moves nothing

pub returns-then-not-is_due-clause-served : goal.returns-then-not-is_due-clause-served
returns-then-not-is_due-clause-served g c =
    let none : c.published-published.result ≡ 0 = c.if-not-is_due.ensures.none refl in (
      [],
      [],
      g.met.Q.PartnerSide.moved_then _ _ _ [] [] [] [] c.published-published.ensures.moved c.is_due.ensures.moved,
      no_enter g.P.Partner.machine g.P.Partner.Plain (g.P.Partner.log c.args.partner.now) (g.P.Partner.state c.args.partner.now),
      refl,
      told_all (g.P.Partner.state c.args.partner.now) (λ a. omega (arith, none, c.published-published.ensures.grows, c.published-published.ensures.count)),
    )

pub returns-then-not-is_due-clause-resting : goal.returns-then-not-is_due-clause-resting
returns-then-not-is_due-clause-resting g c = λ rests. (refl, g.met.Q.PartnerSide.moved_then _ _ _ [] [] [] [] c.published-published.ensures.moved c.is_due.ensures.moved)

-- the enter moves on from there

pub returns-in-Ok-clause-served : goal.returns-in-Ok-clause-served
returns-in-Ok-clause-served g c =
    let e = c.in-Ok.ensures.moves in
    let state = g.P.Partner.state c.args.partner.now in
    let looked = g.met.Q.PartnerSide.moved_then _ _ _ [] [] [] [] c.published-published.ensures.moved c.is_due.ensures.moved in
    let all : min c.published-published.result (g.Q.PartnerSide.ready c.is_due.new.side) ≡ c.published-published.result = omega (arith, c.published-published.ensures.count, c.is_due.ensures.ready) in
    let turn = subst (λ k. IsFullTurn g.P.Partner.machine state k (g.Q.PartnerSide.space c.is_due.new.side) (g.Q.Rings.lists c.is_due.new.side) e.0) all e.4 in
    let whole = full_before g.P.Partner.machine _ state _ _ _ _ _ _ e.0 (omega (arith, c.published-published.ensures.grows, c.published-published.ensures.count)) (omega (arith, c.published-published.ensures.space, c.is_due.ensures.space)) (g.met.Q.PartnerSide.moved_told _ _ [] [] looked) turn in (
      took e.0,
      posted e.0,
      g.met.Q.PartnerSide.moved_then _ _ _ [] _ [] _ looked e.1.sides,
      serving_of g.P.Partner.machine g.P.Partner.Plain g.P.Partner.log g.P.Partner.state _ true _ _ _ _ _ _ e.0 e.1 e.2 (λ _. full_works g.P.Partner.machine g.P.Partner.Plain c.due_turns_work.ensures state _ _ _ e.0 c.if-not-is_due.ensures.due turn),
      (one_turn _ _ e.0 e.2, whole),
      full_takes g.P.Partner.machine state _ _ _ e.0 whole,
    )

pub returns-in-Ok-clause-emptied : goal.returns-in-Ok-clause-emptied
returns-in-Ok-clause-emptied g c =
    let e = c.in-Ok.ensures.moves in
    let looked = g.met.Q.PartnerSide.moved_then _ _ _ [] [] [] [] c.published-published.ensures.moved c.is_due.ensures.moved in
    let moved = g.met.Q.PartnerSide.moved_then _ _ _ [] _ [] _ looked e.1.sides in
    let all : c.published-published.result ≡ min c.published-published.result (g.Q.PartnerSide.ready c.is_due.new.side) = omega (arith, c.published-published.ensures.count, c.is_due.ensures.ready) in
    full_empties g.P.Partner.machine _ (g.P.Partner.state c.args.partner.now) _ _ _ _ _ _ e.0 (posted e.0) all c.published-published.ensures.told (g.met.Q.PartnerSide.moved_told _ _ (took e.0) (posted e.0) moved) e.4

pub returns-in-Err-clause-served : goal.returns-in-Err-clause-served
returns-in-Err-clause-served g c =
    let e = c.in-Err.ensures.moves in
    let looked = g.met.Q.PartnerSide.moved_then _ _ _ [] [] [] [] c.published-published.ensures.moved c.is_due.ensures.moved in (
      took e.0,
      posted e.0,
      g.met.Q.PartnerSide.moved_then _ _ _ [] _ [] _ looked e.1.sides,
      serving_of g.P.Partner.machine g.P.Partner.Plain g.P.Partner.log g.P.Partner.state _ false _ _ _ _ _ _ e.0 e.1 e.2 (λ h. let bad : false ≡ true = h in cc),
      at_most_one _ _ e.0 e.2,
      tt,
    )

pub returns-in-Err-clause-failure : goal.returns-in-Err-clause-failure
returns-in-Err-clause-failure g c =
    let looked = g.met.Q.PartnerSide.moved_then _ _ _ [] [] [] [] c.published-published.ensures.moved c.is_due.ensures.moved in
    told_then (g.P.Partner.state c.args.partner.now) (λ a fails planned.
    let f = fails planned in
    inr (record { fault = f.0.fault; count = f.0.count; logs = f.0.logs; states = f.0.states }, subst (λ q. g.Q.PartnerSide.moved c.args.side.now [] [] q) (sym f.1) looked)) c.in-Err.ensures.failure
