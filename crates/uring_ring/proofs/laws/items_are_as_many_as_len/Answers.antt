use Rattle.uring_ring.proofs.QueueLawProofs.{items_are_as_many_as_len, items_are_the_waiting}
use Rattle.uring_ring.proofs.laws.items_are_as_many_as_len.Goals as goal

pub returns-clause-count : goal.returns-clause-count
returns-clause-count g c = items_are_as_many_as_len g.C.EntryMarker.made_of

pub returns-clause-items : goal.returns-clause-items
returns-clause-items g c = items_are_the_waiting g.C.EntryMarker.made_of
