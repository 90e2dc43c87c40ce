use Rattle.std.proofs.Common.{◌≡◌, Ok, refl, subst}
use Rattle.rent_table.specs.Ops.{Ops}
use Rattle.rent_table.specs.Steps.{KeptSteps}
use Rattle.rent_engine.specs.Engines.{Pumped, finals_in}
use Rattle.rent_engine.proofs.engine.Engine.turn.Goals as goal

pub returns-clause-turned : goal.returns-clause-turned
returns-clause-turned g c =
    let p = c.in_ok-report.ensures.pumped in
    let taken = c.in_ok-taken.taken in
    let finals = c.in_ok-report.report.finals in
    record {
      left = c.submit.new.self.ring;
      answer = Ok taken;
      submitted = c.in_ok-taken.ensures.submitted;
      ends = subst (λ (s : KeptSteps). (q : Pumped g.R.UserEnds.used g.R.Rings.lists g.R.UserEnds.room g.R.UserEnds.waiting c.submit.new.self.ring c.pump.new.self.ring c.args.self.now.ops c.pump.new.self.ops s c.pump.new.self.steps (Ok tt)) × ((taken ≡ taken) × (finals ≡ finals_in q.completions)))
          c.submit.ensures.steps
          (subst (λ (o : Ops). (q : Pumped g.R.UserEnds.used g.R.Rings.lists g.R.UserEnds.room g.R.UserEnds.waiting c.submit.new.self.ring c.pump.new.self.ring o c.pump.new.self.ops c.submit.new.self.steps c.pump.new.self.steps (Ok tt)) × ((taken ≡ taken) × (finals ≡ finals_in q.completions)))
          c.submit.ensures.ops (p.0, (refl, p.1.1)));
    }
