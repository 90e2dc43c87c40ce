use Rattle.std.proofs.Common.{◌≡◌, ◌≤◌, length, map, take}
use Rattle.ring_core.specs.Slots.{held_of, with_puts}
use Rattle.uring_ring.specs.Sizes.{unlent}
use Rattle.uring_ring.proofs.submission_queue.SubmissionQueue.push_multiple.Given as goal

abbrev pub invariant-loop-entry : goal.invariant-loop-entry
invariant-loop-entry g l = record {
  entries : held_of l.ring.slots ≡ with_puts (map (unlent g.S.EntryMarker.entry_of g.S.EntryMarker.big_of g.S.EntryMarker.large_of) (take l.entry-index l.entries)) (held_of l.initial.ring.slots);
  words : l.ring.words ≡ l.initial.ring.words;
  room : length l.entries ≤ (held_of l.initial.ring.slots).spare;
}
