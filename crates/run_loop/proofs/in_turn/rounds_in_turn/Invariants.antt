use Rattle.std.proofs.Common.{◌+◌, ◌≤◌, List, None, length}
use Rattle.partner_serving.specs.Rows.{RoundsServe}
use Rattle.run_loop.specs.declared.entries.Offer.{Offer}
use Rattle.run_loop.specs.Entries.{all_taken}
use Rattle.run_loop.specs.Flights.{IsSettled}
use Rattle.run_loop.specs.UserRounds.{UserRounds}
use Rattle.run_loop.proofs.in_turn.rounds_in_turn.Given as goal

-- the rounds so far of each side
abbrev pub invariant-rounds : goal.invariant-rounds
invariant-rounds g l =
    ((first : _) (offers : List Offer) → UserRounds g.R.UserEnds.used first l.initial.user.engine.ring offers (all_taken l.initial.user.todo g.R.UserEnds.offers_large) l.initial.user.table.started l.initial.user.table.slots.items
    → UserRounds g.R.UserEnds.used first l.user.engine.ring offers (all_taken l.user.todo g.R.UserEnds.offers_large) l.user.table.started l.user.table.slots.items)
    × (l.user.table.started + length l.user.todo ≤ length l.user.table.slots.items)
    × IsSettled l.user.engine.ops l.user.table.started l.user.table.slots.items l.user.table.in_flight.items l.user.todo
    × RoundsServe g.P.Partner.machine g.P.Partner.Plain g.P.Partner.log g.P.Partner.state g.P.Partner.plan g.P.Counts.faults g.P.Partner.errno g.Q.PartnerSide.moved l.initial.side l.initial.partner l.side l.partner None
