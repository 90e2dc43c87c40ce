use Rattle.std.proofs.Common.{◌≡◌, ◌≤◌, ◌++◌, length, map, drop, Some}
use Rattle.ring_core.specs.Slots.{with_takes}
use Rattle.uring_ring.specs.Queues.{completions_at, completion_words_at, first_received}
use Rattle.uring_ring.proofs.completion_queue.CompletionQueue.fill.Given as goal

abbrev pub invariant-loop-i : goal.invariant-loop-i
invariant-loop-i g l = record {
  items : l.into ≡ map Some (first_received g.C.EntryMarker.made_of l.i (completions_at l.initial.self)) ++ drop l.i l.initial.into;
  completions : completions_at l.self ≡ with_takes l.i (completions_at l.initial.self);
  words : completion_words_at l.self ≡ completion_words_at l.initial.self;
  same_reference : l.self.ring.ghost_name ≡ l.initial.self.ring.ghost_name;
  most : l.count ≤ (completions_at l.initial.self).waiting;
  fits : l.count ≤ length l.initial.into;
}
