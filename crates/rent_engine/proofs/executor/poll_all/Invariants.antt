use Rattle.std.proofs.Common.{◌≡◌, ◌≤◌, ◌-◌}
use Rattle.std.specs.FinMap.{from_entries}
use Rattle.std.specs.HashMap.{spare}
use Rattle.rent_engine.specs.Engines.{Offered}
use Rattle.rent_engine.proofs.Executors.{IsGoing}
use Rattle.rent_engine.proofs.executor.poll_all.Given as goal

abbrev pub invariant-loop : goal.invariant-loop
invariant-loop g l = record {
  going : IsGoing (Offered g.R.UserEnds.offers_large g.R.UserEnds.used g.R.Rings.lists g.R.UserEnds.room g.R.UserEnds.waiting) g.R.UserEnds.room g.T.OpState.key g.T.OpState.offers g.T.OpState.done g.T.OpState.polls
      l.fn.unfinished.items (from_entries l.fn.outputs.entries) l.fn.engine.ring l.fn.engine.ops (l.end - l.counter) l.unfinished.items (from_entries l.outputs.entries) l.engine.ring l.engine.ops;
  few : l.counter ≤ l.end;
  room : l.end - l.counter ≤ spare l.outputs;
  params : l.engine.params ≡ l.fn.engine.params;
}
