use Rattle.std.proofs.Common.{◌++◌, [], refl, ap, sym, subst, ◌∙◌, arith, append-nil}
use Rattle.std.proofs.lemmas.List.{length-map}
use Rattle.rent_engine.specs.Ops.{polled}
use Rattle.run_loop.specs.Flights.{AreOperated, jobs_in_flight}
use Rattle.run_loop.specs.JobOps.{reply_of}
use Rattle.run_loop.proofs.FlightLemmas.{polled_next, all_left, none_polled, none_of}
use Rattle.run_loop.proofs.LentLemmas.{can_poll, replied_next}
use Rattle.run_loop.proofs.job_table.JobTable.poll_all.Goals as goal

pub loop-left-init : goal.loop-left-init
loop-left-init g c =
    let jobs = jobs_in_flight c.args.self.now.in_flight.items in
    let count = length-map c.args.self.now.in_flight.items (λ f. f.job) in
    let len = c.len-left.ensures in (
      jobs,
      [],
      sym (append-nil jobs),
      omega (arith, count, len),
      subst (AreOperated c.args.engine.now.ops c.args.self.now.started c.args.self.now.slots.items) (sym (append-nil jobs)) c.requires.operated,
      λ n some. refl,
      refl,
      refl,
      refl,
      c.requires.replied,
      refl,
      g.met.R.UserEnds.used_none c.args.engine.now.ring,
      refl,
    )

pub poll_one-requires-clause-polls : goal.poll_one-requires-clause-polls
poll_one-requires-clause-polls g c =
    let s = c.loop-left.invariant in
    (can_poll c.loop-left.engine.ops c.loop-left.self.started c.loop-left.self.slots.items c.loop-left.self.in_flight.items (s.0 ++ s.1) c.in-Some.flight c.pop_front.new.self.items s.2 c.in-Some.ensures.items s.4 s.9).0

pub poll_one-requires-clause-resolved : goal.poll_one-requires-clause-resolved
poll_one-requires-clause-resolved g c =
    let s = c.loop-left.invariant in
    (can_poll c.loop-left.engine.ops c.loop-left.self.started c.loop-left.self.slots.items c.loop-left.self.in_flight.items (s.0 ++ s.1) c.in-Some.flight c.pop_front.new.self.items s.2 c.in-Some.ensures.items s.4 s.9).1

pub loop-left-preserved : goal.loop-left-preserved
loop-left-preserved g c =
    let s = c.loop-left.invariant in
    let d = c.in_ok-poll_one-in-Some.ensures in
    let p = polled_next (reply_of c.in-Some.flight.op) c.loop-left.engine.ops c.loop-left.self.started c.loop-left.self.slots.items c.in-Some.flight.job s.0 s.1 (jobs_in_flight c.pop_front.new.self.items)
    (sym s.2 ∙ ap jobs_in_flight c.in-Some.ensures.items) (λ z. omega (arith, s.3, z, c.loop-left-test.true)) s.4 s.5
    (can_poll c.loop-left.engine.ops c.loop-left.self.started c.loop-left.self.slots.items c.loop-left.self.in_flight.items (s.0 ++ s.1) c.in-Some.flight c.pop_front.new.self.items s.2 c.in-Some.ensures.items s.4 s.9).1
    c.poll_one.new.engine.ops c.poll_one.new.self.started c.poll_one.new.self.slots.items (jobs_in_flight c.poll_one.new.self.in_flight.items) d.ops d.slots d.started d.in_flight in (
      p.0,
      p.1,
      p.2,
      omega (arith, p.3, s.3),
      p.4,
      p.5,
      p.6 ∙ s.6,
      d.lists ∙ s.7,
      d.room ∙ s.8,
      replied_next c.loop-left.self.slots.items c.poll_one.new.self.slots.items c.loop-left.self.in_flight.items c.in-Some.flight c.pop_front.new.self.items c.poll_one.new.self.in_flight.items (polled c.loop-left.engine.ops c.in-Some.flight.job) s.9 c.in-Some.ensures.items d.slots d.replied,
      d.started ∙ s.10,
      g.met.R.UserEnds.used_then _ _ _ [] [] [] [] s.11 d.uses,
      d.waiting ∙ s.12,
    )

pub returns-in_err-poll_one-in-Some-clause-uses : goal.returns-in_err-poll_one-in-Some-clause-uses
returns-in_err-poll_one-in-Some-clause-uses g c = g.met.R.UserEnds.used_then _ _ _ [] [] [] [] c.loop-left.invariant.11 c.poll_one.ensures.uses

pub returns-clause-slots : goal.returns-clause-slots
returns-clause-slots g c =
    let s = c.loop-left.invariant in
    let a = subst (λ x. AreOperated c.loop-left.engine.ops c.loop-left.self.started c.loop-left.self.slots.items (x ++ s.1)) (none_of s.0 (omega (arith, s.3, c.loop-left-test.false))) s.4 in
    sym (none_polled c.loop-left.engine.ops c.loop-left.self.slots.items (all_left _ _ _ s.1 a s.5)) ∙ s.6
