use Rattle.std.proofs.Common.{◌≡◌, ℕ, List, [], ◌++◌, length}
use Rattle.run_loop.specs.Flights.{AreOperated, AreReplied, all_polled, jobs_in_flight}
use Rattle.run_loop.proofs.FlightLemmas.{NoneLeftResolved}
use Rattle.run_loop.proofs.job_table.JobTable.poll_all.Given as goal

-- the jobs that are still to be polled, and those that were and are left
abbrev pub invariant-loop-left : goal.invariant-loop-left
invariant-loop-left g l =
    (rest : List ℕ) × (left : List ℕ) × (jobs_in_flight l.self.in_flight.items ≡ rest ++ left)
    × (length rest ≡ l.left)
    × AreOperated l.engine.ops l.self.started l.self.slots.items (rest ++ left)
    × NoneLeftResolved l.engine.ops left
    × (all_polled l.engine.ops l.self.slots.items ≡ all_polled l.initial.engine.ops l.initial.self.slots.items)
    × (g.R.Rings.lists l.engine.ring ≡ g.R.Rings.lists l.initial.engine.ring)
    × (g.R.UserEnds.room l.engine.ring ≡ g.R.UserEnds.room l.initial.engine.ring)
    × AreReplied l.self.slots.items l.self.in_flight.items
    × (l.self.started ≡ l.initial.self.started)
    × g.R.UserEnds.used l.initial.engine.ring [] [] l.engine.ring
    × (g.R.UserEnds.waiting l.engine.ring ≡ g.R.UserEnds.waiting l.initial.engine.ring)

abbrev pub decreases-loop-left : goal.decreases-loop-left
decreases-loop-left g l = l.left
