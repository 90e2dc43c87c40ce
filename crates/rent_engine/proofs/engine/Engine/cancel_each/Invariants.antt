use Rattle.std.proofs.Common.{◌≡◌, ◌+◌, ◌≤◌, ℕ, List, length, take}
use Rattle.uring_base.specs.declared.events.Taken.{Taken}
use Rattle.rent_table.specs.Lists.{list_at}
use Rattle.rent_engine.specs.Engines.{Offered}
use Rattle.rent_engine.specs.Handles.{CancelsEach}
use Rattle.rent_engine.proofs.engine.Engine.cancel_each.Given as goal

abbrev pub invariant-loop-target : goal.invariant-loop-target
invariant-loop-target g l = record {
  entries : List Taken;
  offered : Offered g.R.UserEnds.offers_large g.R.UserEnds.used g.R.Rings.lists g.R.UserEnds.room g.R.UserEnds.waiting l.fn.self.ring entries l.self.ring;
  canceled : CancelsEach (take l.target-index l.targets) l.fn.self.ops entries l.self.ops;
  count : length entries ≡ l.target-index;
  steps : (n : ℕ) → list_at l.self.steps n ≡ list_at l.fn.self.steps n;
  handles : l.self.handles ≡ l.fn.self.handles;
  spare : l.fn.self.spare ≤ l.self.spare + l.target-index;
  step_room : l.fn.self.step_room ≤ l.self.step_room;
  params : l.self.params ≡ l.fn.self.params;
}
