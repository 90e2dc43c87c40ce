use Rattle.std.proofs.Common.{◌≡◌, true, false, inl, inr, Ok, Err, is_ok, map, refl, ap, sym, subst, ◌∙◌, ◌+◌, length}
use Rattle.uring_model.specs.Moves.{took, posted}
use Rattle.uring_model.specs.declared.jobs.RunFault.TheVariants as faults
use Rattle.run_loop.specs.Entries.{all_taken}
use Rattle.run_loop.specs.Flights.{jobs_in_flight}
use Rattle.run_loop.specs.Rounds.{IsEntered, engine_fault}
use Rattle.run_loop.proofs.LandLemmas.{landed_ends, landed_settled, once_ok}
use Rattle.run_loop.proofs.RoundLemmas.{RoundEnds, turn_did, round_of, placed_round, round_places, fault_by, posts_are, turned_by}
use Rattle.run_loop.proofs.round.round.Goals as goal

pub returns-in-Err-clause-err : goal.returns-in-Err-clause-err
returns-in-Err-clause-err g c =
    let a = c.requires.calm.0 in
    let s = c.in_ok-start_some.ensures in
    let p = s.offered in
    let t = c.in-Err.ensures.turned in
    let d = turn_did _ _ _ _ _ _ g.R.Rings.kept _ _ _ _ _ g.met.R.PartnerSide.moved_told g.R.Rings.fits _ _ _ _ _ _ _ _ _ _ _ t a p.0 c.requires.calm.1 p.3 in
    let posts = map g.R.Rings.kept (posted t.submitted.enters.moves) in
    let slots = c.start_some.new.table.slots.items in
    let ends = fault_by c.start_some.new.table.started slots slots (jobs_in_flight c.start_some.new.table.in_flight.items) c.start_some.new.engine.ops c.turn.new.self.ops (took t.submitted.enters.moves) d.cs d.went.after.completions posts _ c.in-Err.fault s.settled.operated s.settled.none
    (posts_are g.R.Rings.kept a t.submitted.enters.moves d.cs d.went.after.completions c.requires.calm.2.completions d.went.posts) d.ended in
    inr (
      round_of _ _ _ _ _ _ g.R.Rings.kept _ _ _ _ _ g.met.R.PartnerSide.moved_told g.R.Rings.fits _ _ _ _ _ _ _ _ _ _ _ t a p.0 c.requires.calm.1 p.3 c.turn.new.self.ring refl c.requires.calm.2 (all_taken c.args.todo.now g.R.UserEnds.offers_large) (all_taken c.start_some.new.todo g.R.UserEnds.offers_large) p.1 p.4
          (elim s.full [ inl e ↦ inl (ap (λ l. all_taken l g.R.UserEnds.offers_large) e) | inr z ↦ inr z ]) c.start_some.new.table.started c.args.table.now.slots.items slots _
          (subst (λ e. RoundEnds c.start_some.new.table.started c.args.table.now.slots.items (took t.submitted.enters.moves) posts slots (is_ok t.answer) (Err e)) (sym c.as_run_fault.ensures)
          (subst (λ x. RoundEnds c.start_some.new.table.started x (took t.submitted.enters.moves) posts slots (is_ok t.answer) (Err (engine_fault c.in-Err.fault))) s.slots ends)),
      s.inside,
    )

pub poll_all-requires-clause-operated : goal.poll_all-requires-clause-operated
poll_all-requires-clause-operated g c =
    let a = c.requires.calm.0 in
    let s = c.in_ok-start_some.ensures in
    let p = s.offered in
    let d = turn_did _ _ _ _ _ _ g.R.Rings.kept _ _ _ _ _ g.met.R.PartnerSide.moved_told g.R.Rings.fits _ _ _ _ _ _ _ _ _ _ _ c.in-Ok.ensures.turned a p.0 c.requires.calm.1 p.3 in
    (turned_by _ _ _ _ _ _ _ _ _ _ _ d c.requires.calm.2.completions c.in-Ok.ensures.none_left c.start_some.new.table.started c.start_some.new.table.slots.items (jobs_in_flight c.start_some.new.table.in_flight.items) s.settled.operated s.settled.none).landed.operated

pub returns-then-is_err-clause-err : goal.returns-then-is_err-clause-err
returns-then-is_err-clause-err g c =
    let a = c.requires.calm.0 in
    let s = c.in_ok-start_some.ensures in
    let p = s.offered in
    inr (
      round_of _ _ _ _ _ _ g.R.Rings.kept _ _ _ _ _ g.met.R.PartnerSide.moved_told g.R.Rings.fits _ _ _ _ _ _ _ _ _ _ _ c.in-Ok.ensures.turned a p.0 c.requires.calm.1 p.3 c.poll_all.new.engine.ring c.poll_all.ensures.lists c.requires.calm.2 (all_taken c.args.todo.now g.R.UserEnds.offers_large) (all_taken c.start_some.new.todo g.R.UserEnds.offers_large) p.1 p.4
          (elim s.full [ inl e ↦ inl (ap (λ l. all_taken l g.R.UserEnds.offers_large) e) | inr z ↦ inr z ]) c.poll_all.new.self.started c.args.table.now.slots.items c.poll_all.new.self.slots.items (Err faults.NoMemory) (tt, λ bad. let e : false ≡ true = bad in cc),
      ap (λ n. n + length c.start_some.new.todo) c.poll_all.ensures.started ∙ s.inside,
    )

pub returns-clause-round : goal.returns-clause-round
returns-clause-round g c =
    let a = c.requires.calm.0 in
    let s = c.in_ok-start_some.ensures in
    let p = s.offered in
    let t = c.in-Ok.ensures.turned in
    let d = turn_did _ _ _ _ _ _ g.R.Rings.kept _ _ _ _ _ g.met.R.PartnerSide.moved_told g.R.Rings.fits _ _ _ _ _ _ _ _ _ _ _ t a p.0 c.requires.calm.1 p.3 in
    let posts = map g.R.Rings.kept (posted t.submitted.enters.moves) in
    let l = turned_by _ _ _ _ _ _ _ _ _ _ _ d c.requires.calm.2.completions c.in-Ok.ensures.none_left c.start_some.new.table.started c.start_some.new.table.slots.items (jobs_in_flight c.start_some.new.table.in_flight.items) s.settled.operated s.settled.none in
    let places = round_places _ _ _ _ _ _ g.R.Rings.kept _ _ _ _ _ g.met.R.PartnerSide.moved_told g.R.Rings.fits _ _ _ _ _ _ _ _ _ _ _ t a p.0 c.requires.calm.1 p.3 g.R.Rings.offer_place g.R.Rings.reap_place g.met.R.UserEnds.used_places g.met.R.PartnerSide.moved_places p.2 c.poll_all.new.engine.ring c.poll_all.ensures.uses c.in-Ok.report refl c.requires.calm.2.completions c.in-Ok.ensures.none_left in
    let reaps = landed_ends c.start_some.new.table.started c.start_some.new.table.slots.items (jobs_in_flight c.start_some.new.table.in_flight.items) posts c.turn.new.self.ops l.landed
    c.poll_all.new.self.started c.args.table.now.slots.items c.poll_all.new.self.slots.items c.goes_on.result c.poll_all.ensures.started (sym s.slots) (once_ok c.poll_all.result _ (sym c.if-is_err.ensures.value) c.poll_all.ensures.slots) in
    placed_round _ _ _ _ _ _ g.R.Rings.kept _ _ _ _ _ g.met.R.PartnerSide.moved_told g.R.Rings.fits _ _ _ _ _ _ _ _ _ _ _ t a p.0 c.requires.calm.1 p.3 g.R.Rings.offer_place g.R.Rings.reap_place c.poll_all.new.engine.ring c.poll_all.ensures.lists c.requires.calm.2 (all_taken c.args.todo.now g.R.UserEnds.offers_large) (all_taken c.start_some.new.todo g.R.UserEnds.offers_large) p.1 p.4
    (elim s.full [ inl e ↦ inl (ap (λ l. all_taken l g.R.UserEnds.offers_large) e) | inr z ↦ inr z ]) c.poll_all.new.self.started c.args.table.now.slots.items c.poll_all.new.self.slots.items (Ok c.goes_on.result) (reaps, subst (λ b. IsEntered (took t.submitted.enters.moves) posts (is_ok t.answer) (Ok b)) (sym c.goes_on.ensures) l.enters) places

pub returns-clause-calm : goal.returns-clause-calm
returns-clause-calm g c =
    let a = c.requires.calm.0 in
    let s = c.in_ok-start_some.ensures in
    let p = s.offered in
    let d = turn_did _ _ _ _ _ _ g.R.Rings.kept _ _ _ _ _ g.met.R.PartnerSide.moved_told g.R.Rings.fits _ _ _ _ _ _ _ _ _ _ _ c.in-Ok.ensures.turned a p.0 c.requires.calm.1 p.3 in
    let l = turned_by _ _ _ _ _ _ _ _ _ _ _ d c.requires.calm.2.completions c.in-Ok.ensures.none_left c.start_some.new.table.started c.start_some.new.table.slots.items (jobs_in_flight c.start_some.new.table.in_flight.items) s.settled.operated s.settled.none in
    (d.went.after, c.poll_all.ensures.lists ∙ d.went.told, record { pushed = d.went.pushed; completions = l.none; seen = c.poll_all.ensures.room ∙ l.seen })

pub returns-clause-settled : goal.returns-clause-settled
returns-clause-settled g c =
    let a = c.requires.calm.0 in
    let s = c.in_ok-start_some.ensures in
    let p = s.offered in
    let d = turn_did _ _ _ _ _ _ g.R.Rings.kept _ _ _ _ _ g.met.R.PartnerSide.moved_told g.R.Rings.fits _ _ _ _ _ _ _ _ _ _ _ c.in-Ok.ensures.turned a p.0 c.requires.calm.1 p.3 in
    let l = turned_by _ _ _ _ _ _ _ _ _ _ _ d c.requires.calm.2.completions c.in-Ok.ensures.none_left c.start_some.new.table.started c.start_some.new.table.slots.items (jobs_in_flight c.start_some.new.table.in_flight.items) s.settled.operated s.settled.none in
    let ok = sym c.if-is_err.ensures.value in
    landed_settled c.start_some.new.table.started c.start_some.new.table.slots.items c.start_some.new.table.in_flight.items c.start_some.new.engine.ops c.turn.new.self.ops c.start_some.new.todo _ s.settled l.landed
    c.poll_all.new.self.started c.poll_all.new.self.slots.items c.poll_all.new.self.in_flight.items c.poll_all.new.engine.ops c.poll_all.ensures.started (once_ok c.poll_all.result _ ok c.poll_all.ensures.slots)
    (once_ok c.poll_all.result _ ok c.poll_all.ensures.operated) (once_ok c.poll_all.result _ ok c.poll_all.ensures.replied) (once_ok c.poll_all.result _ ok c.poll_all.ensures.none)
