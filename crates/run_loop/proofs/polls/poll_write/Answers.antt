use Rattle.std.proofs.Common.{[], map, ap, refl, sym, subst, ◌∙◌}
use Rattle.rent_table.specs.Ops.{flight_at, done_at}
use Rattle.rent_engine.specs.Engines.{in_size}
use Rattle.rent_fs.specs.Outputs.{moved}
use Rattle.run_loop.specs.declared.job_op.JobOp.TheVariants.{Write}
use Rattle.run_loop.proofs.PollLemmas.{asked, same_lists, same_room, moved_tells}
use Rattle.run_loop.proofs.polls.poll_write.Goals as goal

-- The operation was started, so the poll asks the engine for it; what it has of it, the job is told.
pub returns-in-Ready-clause-polled : goal.returns-in-Ready-clause-polled
returns-in-Ready-clause-polled g c n can =
    let ops = c.args.engine.now.ops in
    let p = c.poll.ensures.polls in
    let a = asked moved c.args.write.op c.poll.new.self.op n ops c.poll.new.engine.ops p.0 c.poll.result can.key p.2 in
    record {
      told = same_lists _ _ (map (in_size g.R.UserEnds.offers_large) p.0) (ap (map (in_size g.R.UserEnds.offers_large)) a.0) p.1.told;
      places = same_room _ _ p.0 a.0 p.1.places;
      seen = p.1.seen;
      operations = a.1;
      tells = moved_tells n (Write c.args.write) (flight_at ops n) (done_at ops n) c.in-Ready.count c.in-Ready.buf c.moved_outcome.result refl can.known can.brings can.posted (sym c.in-Ready.is ∙ a.2) c.moved_outcome.ensures;
    }

-- So it offers nothing.
pub returns-in-Ready-clause-uses : goal.returns-in-Ready-clause-uses
returns-in-Ready-clause-uses g c =
    let p = c.poll.ensures.polls in
    let a = asked moved c.args.write.op c.poll.new.self.op c.requires.0 c.args.engine.now.ops c.poll.new.engine.ops p.0 c.poll.result c.requires.1.key p.2 in
    subst (λ ts. g.R.UserEnds.used c.args.engine.now.ring ts [] c.poll.new.engine.ring) (ap (map (in_size g.R.UserEnds.offers_large)) a.0) p.1.uses
