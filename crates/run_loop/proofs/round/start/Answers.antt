use Rattle.std.proofs.Common.{[], ◌∷◌, refl, ap, subst, ◌∙◌}
use Rattle.ring_traits.specs.Lists.{as_offered}
use Rattle.rent_table.specs.Ops.{started}
use Rattle.run_loop.specs.Entries.{job_entry, job_loan, offer_of}
use Rattle.run_loop.specs.Told.{reply_for, lends}
use Rattle.run_loop.specs.Flights.{next_for, jobs_in_flight}
use Rattle.run_loop.proofs.StartLemmas.{started_next, marks_same}
use Rattle.run_loop.proofs.round.start.Goals as goal

pub returns-in-Ok-clause-operated : goal.returns-in-Ok-clause-operated
returns-in-Ok-clause-operated g c =
    let d = c.in-Ok.ensures in
    (started_next c.args.engine.now.ops c.args.table.now.started c.args.table.now.slots.items (jobs_in_flight c.args.table.now.in_flight.items) (offer_of c.args.next.number c.args.next.job) c.requires.operated c.requires.none c.requires.ahead
    c.start_job.new.engine.ops c.start.new.self.started c.start.new.self.slots.items (jobs_in_flight c.start.new.self.in_flight.items)
    (c.in_ok-op.ensures.begun.operations ∙ ap (λ n. started n (lends (reply_for c.args.next.job.kind)) (next_for n c.args.next.job.quiet) c.args.engine.now.ops) c.requires.ahead.number) d.started d.slots d.in_flight).0

-- the job's entry was offered, and memory lacked for its place among those in flight
pub returns-in-Err-clause-lacking : goal.returns-in-Err-clause-lacking
returns-in-Err-clause-lacking g c =
    let t = as_offered g.R.UserEnds.offers_large (job_entry c.args.next.number c.args.next.job) (job_loan c.args.next.number c.args.next.job.kind) in
    record { offered = t ∷ []; rest = []; reaped = []; uses = subst (λ e. g.R.UserEnds.used c.args.engine.now.ring (as_offered g.R.UserEnds.offers_large e (job_loan c.args.next.number c.args.next.job.kind) ∷ []) [] c.start_job.new.engine.ring) (marks_same c.args.next.number c.args.next.job) c.in_ok-op.ensures.begun.uses; entries = refl }
