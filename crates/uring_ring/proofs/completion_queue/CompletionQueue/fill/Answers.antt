use Rattle.std.proofs.Common.{refl, ◌∙◌, arith}
use Rattle.ring_core.specs.Slots.{held-fits}
use Rattle.uring_ring.specs.Queues.{completions_at}
use Rattle.ring_core.proofs.PutsAndTakes.{take-place, takes_none}
use Rattle.uring_ring.proofs.QueueLemmas.{fill_step}
use Rattle.uring_ring.proofs.completion_queue.CompletionQueue.fill.Goals as goal

pub loop-i-init : goal.loop-i-init
loop-i-init g c = record {
  items = refl;
  completions = takes_none _ (take-place c.args.self.now.ring.now.slots);
  words = refl;
  same_reference = refl;
  most = omega arith;
  fits = omega arith;
}

pub loop-i-preserved : goal.loop-i-preserved
loop-i-preserved g c =
    let i = c.loop-i.invariant in let steps = c.next.ensures.steps in
    let all = (held-fits c.args.self.now.ring.now.slots).waiting in
    let step = fill_step g.C.EntryMarker.made_of (completions_at c.args.self.now) _ _ c.next.result _ c.args.into.now c.loop-i.i i.completions steps.gives i.items (let most = i.most in let test = c.loop-i-test.true in omega arith) all (let fits = i.fits in let test = c.loop-i-test.true in omega arith) in record {
      items = step.0;
      completions = step.1;
      words = steps.words ∙ i.words;
      same_reference = steps.same_reference ∙ i.same_reference;
      most = i.most;
      fits = i.fits;
    }
