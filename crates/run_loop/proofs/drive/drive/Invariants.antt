use Rattle.std.proofs.Common.{◌≡◌, ◌+◌, ◌-◌, ◌*◌, ◌<◌, ◌≤◌, [], length, IfSome}
use Rattle.uring_model.specs.Moves.{posted}
use Rattle.run_loop.specs.Entries.{all_taken}
use Rattle.run_loop.specs.Slots.{count_open}
use Rattle.run_loop.specs.Flights.{IsSettled}
use Rattle.run_loop.specs.Rounds.{PlacesGoOn}
use Rattle.run_loop.proofs.Running.{Running, untaken}
use Rattle.run_loop.proofs.TurnLemmas.{InTurns}
use Rattle.run_loop.proofs.drive.drive.Given as goal

-- the run so far
abbrev pub invariant-rounds : goal.invariant-rounds
invariant-rounds g l =
    (w : Running g.P.Partner.machine g.P.Partner.view g.P.Partner.Plain g.P.Partner.log g.P.Partner.state g.R.Rings.lists l.initial.partner l.partner l.engine.ring (g.R.UserEnds.room l.engine.ring) (all_taken l.todo g.R.UserEnds.offers_large) l.table.started l.table.slots.items l.initial.todo (g.R.UserEnds.entries_fit l.initial.engine.ring) l.fn.idle l.idled)
    × (l.idled < l.fn.idle)
    × (l.table.started + length l.todo ≤ length l.table.slots.items)
    × (g.P.Counts.faults l.initial.partner ≤ g.P.Counts.faults l.partner)
    × (g.P.Partner.plan l.initial.partner ≡ [] → g.P.Partner.plan l.partner ≡ [])
    × IsSettled l.engine.ops l.table.started l.table.slots.items l.table.in_flight.items l.todo
    × IfSome (g.P.Partner.state l.initial.partner) (λ _. g.P.Partner.plan l.initial.partner ≡ [] → g.P.Counts.faults l.partner ≡ g.P.Counts.faults l.initial.partner)
    × PlacesGoOn g.R.Rings.offer_place g.R.Rings.reap_place l.initial.engine.ring l.engine.ring l.table.started (length (posted w.ms))
    × (w.l.completion_capacity ≡ g.R.UserEnds.completions_fit l.initial.engine.ring)
    × IfSome (g.P.Partner.state l.initial.partner) (λ a. InTurns g.P.Partner.machine (g.R.UserEnds.entries_fit l.initial.engine.ring) (g.R.UserEnds.completions_fit l.initial.engine.ring) a w.ms (g.P.Partner.state l.partner))

-- what is open or untaken, and how many more turns may be idle
abbrev pub decreases-rounds : goal.decreases-rounds
decreases-rounds g l = (count_open l.table.slots.items + untaken (g.R.Rings.lists l.engine.ring) (length l.todo)) * (l.fn.idle + 1) + (l.fn.idle - l.idled)
