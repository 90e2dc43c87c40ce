use Rattle.std.proofs.Common.{◌≡◌, ◌+◌, List, [], ◌++◌, length}
use Rattle.uring_base.specs.declared.events.Taken.{Taken}
use Rattle.ring_traits.specs.Lists.{Becomes}
use Rattle.run_loop.specs.Entries.{all_taken}
use Rattle.run_loop.specs.Rounds.{pushed_more}
use Rattle.run_loop.specs.Flights.{IsSettled}
use Rattle.run_loop.proofs.round.start_some.Given as goal

-- what was offered so far
abbrev pub invariant-starts : goal.invariant-starts
invariant-starts g l =
    (ts : List Taken) × (all_taken l.initial.todo g.R.UserEnds.offers_large ≡ ts ++ all_taken l.todo g.R.UserEnds.offers_large)
    × (l.table.started + length l.todo ≡ l.initial.table.started + length l.initial.todo)
    × g.R.UserEnds.used l.initial.engine.ring ts [] l.engine.ring
    × Becomes (g.R.Rings.lists l.initial.engine.ring) (pushed_more ts) (g.R.Rings.lists l.engine.ring)
    × (g.R.UserEnds.room l.initial.engine.ring ≡ g.R.UserEnds.room l.engine.ring + length ts)
    × (l.table.started ≡ l.initial.table.started + length ts)
    × (l.table.slots.items ≡ l.initial.table.slots.items)
    × (g.R.UserEnds.waiting l.engine.ring ≡ g.R.UserEnds.waiting l.initial.engine.ring)
    × IsSettled l.engine.ops l.table.started l.table.slots.items l.table.in_flight.items l.todo

abbrev pub decreases-starts : goal.decreases-starts
decreases-starts g l = g.R.UserEnds.room l.engine.ring
