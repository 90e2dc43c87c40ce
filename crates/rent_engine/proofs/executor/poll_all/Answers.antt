use Rattle.std.proofs.Common.{◌≡◌, ◌-◌, ◌+◌, suc, length, arith, subst, rules, refl, ◌∙◌}
use Rattle.std.specs.FinMap.{from_entries}
use Rattle.rent_engine.specs.Engines.{Offered}
use Rattle.rent_engine.proofs.Executors.{IsGoing, going_begins, going_on, first_undone}
use Rattle.rent_engine.proofs.executor.poll_all.Goals as goal

pub loop-init : goal.loop-init
loop-init g c = record {
  going = going_begins _ _ _ _ _ _ _ _ _ _ _ (let long : length c.args.unfinished.now.items ≡ c.len-end.result - 0 = first_of (search rules, omega arith) in long) c.requires.undone;
  few = omega arith;
  room = let room = c.requires.room in let is = c.len-end.ensures in omega (arith, room, is);
  params = refl;
}

pub poll_first-requires-clause-undone : goal.poll_first-requires-clause-undone
poll_first-requires-clause-undone g c =
    let left : c.len-end.result - c.loop.counter ≡ suc (c.len-end.result - (c.loop.counter + 1)) = omega arith in
    first_undone _ _ _ _ _ _ _ _ _ _ _ _ _ _ _
    (subst (λ n. IsGoing (Offered g.R.UserEnds.offers_large g.R.UserEnds.used g.R.Rings.lists g.R.UserEnds.room g.R.UserEnds.waiting) g.R.UserEnds.room g.T.OpState.key g.T.OpState.offers g.T.OpState.done g.T.OpState.polls
    c.args.unfinished.now.items (from_entries c.args.outputs.now.entries) c.args.engine.now.ring c.args.engine.now.ops n c.loop.unfinished.items (from_entries c.loop.outputs.entries) c.loop.engine.ring c.loop.engine.ops) left c.loop.invariant.going)

pub loop-preserved : goal.loop-preserved
loop-preserved g c =
    let left : c.len-end.result - c.loop.counter ≡ suc (c.len-end.result - (c.loop.counter + 1)) = omega arith in
    record {
      going = going_on _ _ _ _ _ _ _ _ _ _ _ _ _ _ _ _ _ _ _
          (subst (λ n. IsGoing (Offered g.R.UserEnds.offers_large g.R.UserEnds.used g.R.Rings.lists g.R.UserEnds.room g.R.UserEnds.waiting) g.R.UserEnds.room g.T.OpState.key g.T.OpState.offers g.T.OpState.done g.T.OpState.polls
          c.args.unfinished.now.items (from_entries c.args.outputs.now.entries) c.args.engine.now.ring c.args.engine.now.ops n c.loop.unfinished.items (from_entries c.loop.outputs.entries) c.loop.engine.ring c.loop.engine.ops) left c.loop.invariant.going)
          c.poll_first.ensures.polled;
      few = let a = c.loop-test.true in omega (arith, a);
      room = let a = c.loop.invariant.room in let b = c.poll_first.ensures.room in omega (arith, a, b);
      params = c.poll_first.ensures.params ∙ c.loop.invariant.params;
    }
