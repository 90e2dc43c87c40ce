use Rattle.std.proofs.Common.{[], refl}
use Rattle.rent_engine.specs.declared.sequences.PlanStep.TheVariants.{Gives}
use Rattle.rent_engine.proofs.OneOps.{Offered-none}
use Rattle.rent_engine.proofs.PlanLemmas.{over_is}
use Rattle.rent_engine.proofs.sequences.Sequence+P+P+Output.follow.Goals as goal

-- Where the plan gives its output, nothing is offered.
pub returns-in-Gives-clause-followed : goal.returns-in-Gives-clause-followed
returns-in-Gives-clause-followed g c = (
  [],
  Offered-none g.R.UserEnds.offers_large g.R.UserEnds.used g.R.Rings.lists g.R.UserEnds.room g.R.UserEnds.waiting g.met.R.UserEnds.used_none _ _ refl,
  record {
    plan = c.follow.new.self;
    step = Gives c.in-Gives.output;
    leads = c.in-Gives.ensures.follows;
    goes = (refl, refl, refl, over_is c.args.self.now.op c.requires, refl);
  },
)
