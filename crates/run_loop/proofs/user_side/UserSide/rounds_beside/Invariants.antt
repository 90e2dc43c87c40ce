use Rattle.std.proofs.Common.{◌+◌, ◌≤◌, List, length}
use Rattle.run_loop.specs.declared.entries.Offer.{Offer}
use Rattle.run_loop.specs.Entries.{all_taken}
use Rattle.run_loop.specs.Flights.{IsSettled}
use Rattle.run_loop.specs.UserRounds.{UserRounds}
use Rattle.run_loop.proofs.user_side.UserSide.rounds_beside.Given as goal

-- the rounds so far are of the run that they were of before
abbrev pub invariant-rounds : goal.invariant-rounds
invariant-rounds g l =
    ((first : _) (offers : List Offer) → UserRounds g.R.UserEnds.used first l.initial.self.engine.ring offers (all_taken l.initial.self.todo g.R.UserEnds.offers_large) l.initial.self.table.started l.initial.self.table.slots.items
    → UserRounds g.R.UserEnds.used first l.self.engine.ring offers (all_taken l.self.todo g.R.UserEnds.offers_large) l.self.table.started l.self.table.slots.items)
    × (l.self.table.started + length l.self.todo ≤ length l.self.table.slots.items)
    × IsSettled l.self.engine.ops l.self.table.started l.self.table.slots.items l.self.table.in_flight.items l.self.todo
