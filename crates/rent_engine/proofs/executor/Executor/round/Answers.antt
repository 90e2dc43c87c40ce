use Rattle.std.proofs.Common.{refl}
use Rattle.std.specs.FinMap.{from_entries}
use Rattle.rent_engine.specs.Engines.{Offered}
use Rattle.rent_engine.proofs.Executors.{outputs-same, round_of, round_sound, round_waits}
use Rattle.rent_engine.proofs.executor.Executor.round.Goals as goal

pub invariant_of-self-2 : goal.invariant_of-self-2
invariant_of-self-2 g c =
    let same = outputs-same c.self.inside.outputs.entries c.reserve.new.self.entries c.reserve.ensures.entries.2 in
    round_sound (Offered g.R.UserEnds.offers_large g.R.UserEnds.used g.R.Rings.lists g.R.UserEnds.room g.R.UserEnds.waiting) g.R.UserEnds.room g.T.OpState.key g.T.OpState.offers g.T.OpState.done g.T.OpState.polls
    (record { next = c.self.inside.next; unfinished = c.self.inside.unfinished.items; outputs = from_entries c.self.inside.outputs.entries }) c.args.engine.now.ring c.args.engine.now.ops (record { ring = c.poll_all.new.engine.ring; ops = c.poll_all.new.engine.ops; tasks = record { next = c.self.inside.next; unfinished = c.poll_all.new.unfinished.items; outputs = from_entries c.poll_all.new.outputs.entries } })
    (round_of (Offered g.R.UserEnds.offers_large g.R.UserEnds.used g.R.Rings.lists g.R.UserEnds.room g.R.UserEnds.waiting) g.R.UserEnds.room g.T.OpState.key g.T.OpState.offers g.T.OpState.done g.T.OpState.polls
    (record { next = c.self.inside.next; unfinished = c.self.inside.unfinished.items; outputs = from_entries c.self.inside.outputs.entries }) (record { next = c.self.inside.next; unfinished = c.self.inside.unfinished.items; outputs = from_entries c.self.inside.outputs.entries }) (from_entries c.reserve.new.self.entries) c.args.engine.now.ring c.args.engine.now.ops (record { ring = c.poll_all.new.engine.ring; ops = c.poll_all.new.engine.ops; tasks = record { next = c.self.inside.next; unfinished = c.poll_all.new.unfinished.items; outputs = from_entries c.poll_all.new.outputs.entries } })
    same refl (c.poll_all.ensures.polled c.self.inside.next))
    c.self.invariant

pub returns-clause-polled : goal.returns-clause-polled
returns-clause-polled g c =
    let same = outputs-same c.self.inside.outputs.entries c.reserve.new.self.entries c.reserve.ensures.entries.2 in
    round_of (Offered g.R.UserEnds.offers_large g.R.UserEnds.used g.R.Rings.lists g.R.UserEnds.room g.R.UserEnds.waiting) g.R.UserEnds.room g.T.OpState.key g.T.OpState.offers g.T.OpState.done g.T.OpState.polls
    (record { next = c.self.inside.next; unfinished = c.self.inside.unfinished.items; outputs = from_entries c.self.inside.outputs.entries }) c.args.self.now (from_entries c.reserve.new.self.entries) c.args.engine.now.ring c.args.engine.now.ops (record { ring = c.poll_all.new.engine.ring; ops = c.poll_all.new.engine.ops; tasks = record { next = c.self.inside.next; unfinished = c.poll_all.new.unfinished.items; outputs = from_entries c.poll_all.new.outputs.entries } })
    same c.self.view_is (c.poll_all.ensures.polled c.self.inside.next)

pub returns-clause-waits : goal.returns-clause-waits
returns-clause-waits g c =
    let same = outputs-same c.self.inside.outputs.entries c.reserve.new.self.entries c.reserve.ensures.entries.2 in
    round_waits (Offered g.R.UserEnds.offers_large g.R.UserEnds.used g.R.Rings.lists g.R.UserEnds.room g.R.UserEnds.waiting) g.R.UserEnds.room g.T.OpState.key g.T.OpState.offers g.T.OpState.done g.T.OpState.polls
    (record { next = c.self.inside.next; unfinished = c.self.inside.unfinished.items; outputs = from_entries c.self.inside.outputs.entries }) c.args.engine.now.ring c.args.engine.now.ops (record { ring = c.poll_all.new.engine.ring; ops = c.poll_all.new.engine.ops; tasks = record { next = c.self.inside.next; unfinished = c.poll_all.new.unfinished.items; outputs = from_entries c.poll_all.new.outputs.entries } })
    (round_of (Offered g.R.UserEnds.offers_large g.R.UserEnds.used g.R.Rings.lists g.R.UserEnds.room g.R.UserEnds.waiting) g.R.UserEnds.room g.T.OpState.key g.T.OpState.offers g.T.OpState.done g.T.OpState.polls
    (record { next = c.self.inside.next; unfinished = c.self.inside.unfinished.items; outputs = from_entries c.self.inside.outputs.entries }) (record { next = c.self.inside.next; unfinished = c.self.inside.unfinished.items; outputs = from_entries c.self.inside.outputs.entries }) (from_entries c.reserve.new.self.entries) c.args.engine.now.ring c.args.engine.now.ops (record { ring = c.poll_all.new.engine.ring; ops = c.poll_all.new.engine.ops; tasks = record { next = c.self.inside.next; unfinished = c.poll_all.new.unfinished.items; outputs = from_entries c.poll_all.new.outputs.entries } })
    same refl (c.poll_all.ensures.polled c.self.inside.next))
