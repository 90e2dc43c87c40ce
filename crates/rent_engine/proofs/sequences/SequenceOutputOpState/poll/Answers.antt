use Rattle.std.proofs.Common.{◌≡◌, None, refl, subst}
use Rattle.rent_engine.specs.Engines.{Offered}
use Rattle.rent_engine.proofs.PlanLemmas.{answered}
use Rattle.rent_engine.proofs.sequences.SequenceOutputOpState.poll.Goals as goal

-- An operation that is over left the ring as it was, so what is offered is the next operation.
pub returns-in-Ready-clause-polls : goal.returns-in-Ready-clause-polls
returns-in-Ready-clause-polls g c =
    let p = c.in-Ready.ensures.polls in
    let f = c.follow.ensures.followed in
    let none : c.args.self.now.given ≡ None = cc in (
      f.0,
      subst (λ r. Offered g.R.UserEnds.offers_large g.R.UserEnds.used g.R.Rings.lists g.R.UserEnds.room g.R.UserEnds.waiting r f.0 c.follow.new.engine.ring) (c.in-Ready.ensures.ready refl).0 f.1,
      answered g.P.Plan.follows c.args.self.now c.follow.new.self c.poll.new.self c.take.new.self c.args.engine.now.ops c.poll.new.engine.ops c.follow.new.engine.ops p.0 f.0 c.in-Ready.answer c.follow.result none c.take.ensures.after p.2 f.2 c.follow.ensures.kept,
    )
