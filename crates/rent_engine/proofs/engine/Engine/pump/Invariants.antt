use Rattle.std.proofs.Common.{◌≡◌, ◌≤◌, Ok}
use Rattle.rent_engine.specs.Engines.{Pumped, finals_in}
use Rattle.rent_engine.proofs.engine.Engine.pump.Given as goal

abbrev pub invariant-reaps : goal.invariant-reaps
invariant-reaps g l = record {
  pumped : Pumped g.R.UserEnds.used g.R.Rings.lists g.R.UserEnds.room g.R.UserEnds.waiting l.fn.self.ring l.self.ring l.fn.self.ops l.self.ops l.fn.self.steps l.self.steps (Ok tt);
  finals : l.finals ≡ finals_in pumped.completions;
  spare : l.fn.self.spare ≤ l.self.spare;
  handles : l.self.handles ≡ l.fn.self.handles;
  params : l.self.params ≡ l.fn.self.params;
}

abbrev pub decreases-reaps : goal.decreases-reaps
decreases-reaps g l = g.R.UserEnds.waiting l.self.ring
