use Rattle.std.proofs.Common.{◌≡◌, ◌≤◌}
use Rattle.rent_engine.specs.Engines.{Offered}
use Rattle.rent_engine.specs.Executor.{IsRound, Cycles}
use Rattle.rent_engine.specs.Turns.{HasTurned}
use Rattle.rent_engine.proofs.executor.Executor.run.Given as goal

abbrev pub invariant-loop-used : goal.invariant-loop-used
invariant-loop-used g l = record {
  cycles : Cycles (IsRound (Offered g.R.UserEnds.offers_large g.R.UserEnds.used g.R.Rings.lists g.R.UserEnds.room g.R.UserEnds.waiting) g.R.UserEnds.room g.T.OpState.key g.T.OpState.offers g.T.OpState.done g.T.OpState.polls)
      (HasTurned g.P.Partner.machine g.P.Partner.log g.P.Partner.state g.R.Rings.lists g.R.PartnerSide.ready g.R.PartnerSide.space g.R.PartnerSide.moved g.R.PartnerSide.flags_word g.R.UserEnds.used g.R.UserEnds.room g.R.UserEnds.waiting l.fn.engine.params)
      l.used
      (record { partner = l.fn.partner; scene = record { ring = l.fn.engine.ring; ops = l.fn.engine.ops; tasks = l.fn.self } })
      (record { partner = l.partner; scene = record { ring = l.engine.ring; ops = l.engine.ops; tasks = l.self } });
  faults : g.P.Counts.faults l.fn.partner ≤ g.P.Counts.faults l.partner;
  errno : g.P.Partner.errno l.partner ≡ g.P.Partner.errno l.fn.partner;
  next : l.self.next ≡ l.fn.self.next;
  params : l.engine.params ≡ l.fn.engine.params;
}
