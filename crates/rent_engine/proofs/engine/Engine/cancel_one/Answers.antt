use Rattle.std.proofs.Common.{ap, ◌∙◌}
use Rattle.rent_table.specs.Lists.{list_at}
use Rattle.rent_engine.proofs.Canceling.{dropped_same}
use Rattle.rent_engine.proofs.engine.Engine.cancel_one.Goals as goal

-- The cancel's number had no steps, so to forget it drops none.
pub returns-clause-steps : goal.returns-clause-steps
returns-clause-steps g c = λ q. dropped_same c.args.self.now.steps c.cancel.new.self.steps c.forget.new.self.steps c.in-Ok.key q c.forget.ensures.steps c.cancel.ensures.steps (ap (list_at c.cancel.new.self.steps) c.in-Ok.ensures.key ∙ c.in-Ok.ensures.no_steps)
