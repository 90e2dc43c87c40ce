use Rattle.std.proofs.Common.{◌≡◌, Ok, Err, refl, ◌∙◌, subst, arith}
use Rattle.ring_setup.specs.declared.parameters.Parameters.{Parameters}
use Rattle.rent_engine.specs.Engines.{Offered}
use Rattle.rent_engine.specs.Executor.{IsRound, Cycles}
use Rattle.rent_engine.specs.Turns.{HasTurned}
use Rattle.rent_engine.proofs.Runs.{one_cycle_more, turn_ends, none_left}
use Rattle.rent_engine.proofs.executor.Executor.run.Goals as goal

pub returns-then-branch-eq0-clause-ran : goal.returns-then-branch-eq0-clause-ran
returns-then-branch-eq0-clause-ran g c =
    let none = c.if-branch-eq0.true in
    let count = c.in_ok-round.ensures.count in (
      omega arith,
      record {
        last = record { partner = c.loop-used.partner; scene = record { ring = c.loop-used.engine.ring; ops = c.loop-used.engine.ops; tasks = c.loop-used.self } };
        cycles = c.loop-used.invariant.cycles;
        round = c.in_ok-round.ensures.polled;
        partner = refl;
      },
      none_left c.round.new.self.unfinished (omega (arith, none, count)),
    )

pub returns-in_err-turn-clause-ran : goal.returns-in_err-turn-clause-ran
returns-in_err-turn-clause-ran g c =
    turn_ends (IsRound (Offered g.R.UserEnds.offers_large g.R.UserEnds.used g.R.Rings.lists g.R.UserEnds.room g.R.UserEnds.waiting) g.R.UserEnds.room g.T.OpState.key g.T.OpState.offers g.T.OpState.done g.T.OpState.polls) (HasTurned g.P.Partner.machine g.P.Partner.log g.P.Partner.state g.R.Rings.lists g.R.PartnerSide.ready g.R.PartnerSide.space g.R.PartnerSide.moved g.R.PartnerSide.flags_word g.R.UserEnds.used g.R.UserEnds.room g.R.UserEnds.waiting c.args.engine.now.params) c.args.turns c.loop-used.used
    (record { partner = c.args.partner.now; scene = record { ring = c.args.engine.now.ring; ops = c.args.engine.now.ops; tasks = c.args.self.now } })
    (record { partner = c.loop-used.partner; scene = record { ring = c.loop-used.engine.ring; ops = c.loop-used.engine.ops; tasks = c.loop-used.self } })
    (record { partner = c.turn.new.partner; scene = record { ring = c.turn.new.self.ring; ops = c.turn.new.self.ops; tasks = c.round.new.self } })
    c.in_err-turn.field-0.0 c.from_residual-in_err-turn.result (omega arith) c.loop-used.invariant.cycles
    (record {
      polled = record { ring = c.round.new.engine.ring; ops = c.round.new.engine.ops; tasks = c.round.new.self };
      round = c.in_ok-round.ensures.polled;
      unfinished = let some = c.if-branch-eq0.false in let count = c.in_ok-round.ensures.count in omega (arith, some, count);
      turn = subst (λ (q : Parameters). HasTurned g.P.Partner.machine g.P.Partner.log g.P.Partner.state g.R.Rings.lists g.R.PartnerSide.ready g.R.PartnerSide.space g.R.PartnerSide.moved g.R.PartnerSide.flags_word g.R.UserEnds.used g.R.UserEnds.room g.R.UserEnds.waiting q c.loop-used.partner c.turn.new.partner c.round.new.engine.ring c.turn.new.self.ring c.round.new.engine.ops c.turn.new.self.ops (Err c.in_err-turn.field-0.0)) (c.round.ensures.params ∙ c.loop-used.invariant.params) (c.round.new.engine.steps, c.turn.new.self.steps, c.in_err-turn.ensures.turned);
      tasks = refl;
    })
    c.from_residual-in_err-turn.ensures.1

pub loop-used-preserved : goal.loop-used-preserved
loop-used-preserved g c = record {
  cycles = one_cycle_more (IsRound (Offered g.R.UserEnds.offers_large g.R.UserEnds.used g.R.Rings.lists g.R.UserEnds.room g.R.UserEnds.waiting) g.R.UserEnds.room g.T.OpState.key g.T.OpState.offers g.T.OpState.done g.T.OpState.polls) (HasTurned g.P.Partner.machine g.P.Partner.log g.P.Partner.state g.R.Rings.lists g.R.PartnerSide.ready g.R.PartnerSide.space g.R.PartnerSide.moved g.R.PartnerSide.flags_word g.R.UserEnds.used g.R.UserEnds.room g.R.UserEnds.waiting c.args.engine.now.params) c.loop-used.used
      (record { partner = c.args.partner.now; scene = record { ring = c.args.engine.now.ring; ops = c.args.engine.now.ops; tasks = c.args.self.now } })
      (record { partner = c.loop-used.partner; scene = record { ring = c.loop-used.engine.ring; ops = c.loop-used.engine.ops; tasks = c.loop-used.self } })
      (record { partner = c.turn.new.partner; scene = record { ring = c.turn.new.self.ring; ops = c.turn.new.self.ops; tasks = c.round.new.self } })
      c.in_ok-turn.field-0 c.loop-used.invariant.cycles
      (record {
        polled = record { ring = c.round.new.engine.ring; ops = c.round.new.engine.ops; tasks = c.round.new.self };
        round = c.in_ok-round.ensures.polled;
        unfinished = let some = c.if-branch-eq0.false in let count = c.in_ok-round.ensures.count in omega (arith, some, count);
        turn = subst (λ (q : Parameters). HasTurned g.P.Partner.machine g.P.Partner.log g.P.Partner.state g.R.Rings.lists g.R.PartnerSide.ready g.R.PartnerSide.space g.R.PartnerSide.moved g.R.PartnerSide.flags_word g.R.UserEnds.used g.R.UserEnds.room g.R.UserEnds.waiting q c.loop-used.partner c.turn.new.partner c.round.new.engine.ring c.turn.new.self.ring c.round.new.engine.ops c.turn.new.self.ops (Ok c.in_ok-turn.field-0)) (c.round.ensures.params ∙ c.loop-used.invariant.params) (c.round.new.engine.steps, c.turn.new.self.steps, c.in_ok-turn.ensures.turned);
        tasks = refl;
      });
  faults = let a = c.loop-used.invariant.faults in let b = c.turn.ensures.cause.later in omega (arith, a, b);
  errno = c.in_ok-turn.ensures.errno ∙ c.loop-used.invariant.errno;
  next = c.round.ensures.next ∙ c.loop-used.invariant.next;
  params = c.turn.ensures.params ∙ c.round.ensures.params ∙ c.loop-used.invariant.params;
}

pub returns-then-branch-gt0-clause-ran : goal.returns-then-branch-gt0-clause-ran
returns-then-branch-gt0-clause-ran g c =
    let some = c.if-branch-gt0.true in
    let count = c.in_ok-round-2.ensures.count in
    let all : c.loop-used.used ≡ c.args.turns = omega arith in (
      record {
        last = record { partner = c.loop-used.partner; scene = record { ring = c.loop-used.engine.ring; ops = c.loop-used.engine.ops; tasks = c.loop-used.self } };
        cycles = subst (λ n. Cycles (IsRound (Offered g.R.UserEnds.offers_large g.R.UserEnds.used g.R.Rings.lists g.R.UserEnds.room g.R.UserEnds.waiting) g.R.UserEnds.room g.T.OpState.key g.T.OpState.offers g.T.OpState.done g.T.OpState.polls) (HasTurned g.P.Partner.machine g.P.Partner.log g.P.Partner.state g.R.Rings.lists g.R.PartnerSide.ready g.R.PartnerSide.space g.R.PartnerSide.moved g.R.PartnerSide.flags_word g.R.UserEnds.used g.R.UserEnds.room g.R.UserEnds.waiting c.args.engine.now.params) n
            (record { partner = c.args.partner.now; scene = record { ring = c.args.engine.now.ring; ops = c.args.engine.now.ops; tasks = c.args.self.now } })
            (record { partner = c.loop-used.partner; scene = record { ring = c.loop-used.engine.ring; ops = c.loop-used.engine.ops; tasks = c.loop-used.self } })) all c.loop-used.invariant.cycles;
        round = c.in_ok-round-2.ensures.polled;
        partner = refl;
      },
      omega (arith, some, count),
    )

pub returns-clause-ran : goal.returns-clause-ran
returns-clause-ran g c =
    let none = c.if-branch-gt0.false in
    let count = c.in_ok-round-2.ensures.count in
    let all : c.loop-used.used ≡ c.args.turns = omega arith in (
      omega arith,
      record {
        last = record { partner = c.loop-used.partner; scene = record { ring = c.loop-used.engine.ring; ops = c.loop-used.engine.ops; tasks = c.loop-used.self } };
        cycles = subst (λ n. Cycles (IsRound (Offered g.R.UserEnds.offers_large g.R.UserEnds.used g.R.Rings.lists g.R.UserEnds.room g.R.UserEnds.waiting) g.R.UserEnds.room g.T.OpState.key g.T.OpState.offers g.T.OpState.done g.T.OpState.polls) (HasTurned g.P.Partner.machine g.P.Partner.log g.P.Partner.state g.R.Rings.lists g.R.PartnerSide.ready g.R.PartnerSide.space g.R.PartnerSide.moved g.R.PartnerSide.flags_word g.R.UserEnds.used g.R.UserEnds.room g.R.UserEnds.waiting c.args.engine.now.params) n
            (record { partner = c.args.partner.now; scene = record { ring = c.args.engine.now.ring; ops = c.args.engine.now.ops; tasks = c.args.self.now } })
            (record { partner = c.loop-used.partner; scene = record { ring = c.loop-used.engine.ring; ops = c.loop-used.engine.ops; tasks = c.loop-used.self } })) all c.loop-used.invariant.cycles;
        round = c.in_ok-round-2.ensures.polled;
        partner = refl;
      },
      none_left c.round-2.new.self.unfinished (omega (arith, none, count)),
    )
