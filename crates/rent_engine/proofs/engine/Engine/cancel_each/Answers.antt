use Rattle.std.proofs.Common.{ℕ, List, [], ◌∷◌, ◌++◌, get_or, take, sym, subst, ◌∙◌, arith, length-append}
use Rattle.std.proofs.lemmas.List.{take_more}
use Rattle.rent_engine.specs.Engines.{offered_cancel}
use Rattle.rent_engine.specs.Handles.{CancelsEach}
use Rattle.rent_engine.proofs.Canceling.{cancels_more, Offered-more}
use Rattle.rent_engine.proofs.engine.Engine.cancel_each.Goals as goal

pub cancel_one-requires-clause-room : goal.cancel_one-requires-clause-room
cancel_one-requires-clause-room g c =
    let places = c.loop-target.invariant.offered.places in
    let count = c.loop-target.invariant.count in
    let room = c.requires.room in omega (arith, places, count, room)

pub cancel_one-requires-clause-spare : goal.cancel_one-requires-clause-spare
cancel_one-requires-clause-spare g c =
    let spare = c.loop-target.invariant.spare in
    let enough = c.requires.spare in omega (arith, spare, enough)

pub loop-target-preserved : goal.loop-target-preserved
loop-target-preserved g c =
    let i = c.loop-target.invariant in
    let at = c.loop-target.target-index in
    let targets = c.args.targets.now in
    let target = get_or targets at 0 in
    let one = c.cancel_one.ensures.one in
    let count = i.count in
    let more = length-append i.entries (offered_cancel target one.0 ∷ []) in
    let spare = i.spare in
    let used = c.cancel_one.ensures.spare in
    let step_room = i.step_room in
    let step_room' = c.cancel_one.ensures.step_room in
    record {
      entries = i.entries ++ offered_cancel target one.0 ∷ [];
      offered = Offered-more g.R.UserEnds.offers_large g.R.UserEnds.used g.R.Rings.lists g.R.UserEnds.room g.R.UserEnds.waiting g.met.R.UserEnds.used_then c.args.self.now.ring c.loop-target.self.ring c.cancel_one.new.self.ring i.entries (offered_cancel target one.0) i.offered one.2;
      canceled = subst (λ (ts : List ℕ). CancelsEach ts c.args.self.now.ops (i.entries ++ offered_cancel target one.0 ∷ []) c.cancel_one.new.self.ops) (sym (take_more targets at 0 c.loop-target-test.true))
          (cancels_more (take at targets) c.args.self.now.ops i.entries c.loop-target.self.ops target one.0 c.cancel_one.new.self.ops i.canceled one.1 one.3);
      count = omega (arith, count, more);
      steps = λ n. c.cancel_one.ensures.steps n ∙ i.steps n;
      handles = c.cancel_one.ensures.handles ∙ i.handles;
      spare = omega (arith, spare, used);
      step_room = omega (arith, step_room, step_room');
      params = c.cancel_one.ensures.params ∙ i.params;
    }
