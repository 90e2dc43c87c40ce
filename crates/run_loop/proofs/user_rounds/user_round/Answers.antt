use Rattle.std.proofs.Common.{◌≡◌, ◌⊎◌, true, false, nat_lt, Err, [], ◌++◌, inl, inr, ap, append-nil, refl, sym, subst, ◌∙◌}
use Rattle.uring_model.specs.declared.jobs.RunFault.TheVariants as faults
use Rattle.rent_engine.specs.declared.fault.EngineFault.{EngineFault}
use Rattle.rent_engine.specs.declared.fault.EngineFault.TheVariants as engine
use Rattle.rent_engine.specs.Faults.{is_engine_fault}
use Rattle.run_loop.specs.Entries.{all_taken}
use Rattle.run_loop.specs.Flights.{jobs_in_flight}
use Rattle.run_loop.specs.Rounds.{ReapEnds, engine_fault, is_stranger_fault}
use Rattle.run_loop.proofs.LandLemmas.{fault_ends, landed_by, landed_ends, landed_settled, any_by_count, once_ok}
use Rattle.run_loop.proofs.UserLemmas.{offers_reaps, reaps_polls}
use Rattle.run_loop.proofs.user_rounds.user_round.Goals as goal

-- a pump's fault is want of memory or a stranger
one_of_two : (fault : EngineFault) → is_engine_fault fault ≡ false → (engine_fault fault ≡ faults.NoMemory) ⊎ (is_stranger_fault (engine_fault fault) ≡ true)
one_of_two (engine.Stranger u) e = inr refl
one_of_two (engine.Fault errno) e = cc
one_of_two engine.NoMemory e = inl refl

pub returns-in-Err-clause-err : goal.returns-in-Err-clause-err
returns-in-Err-clause-err g c =
    let s = c.in_ok-start_some.ensures in
    let p = s.offered in
    let d = c.in-Err.ensures.pumped.0 in
    let slots = c.start_some.new.table.slots.items in
    let ends = fault_ends c.start_some.new.table.started slots slots (jobs_in_flight c.start_some.new.table.in_flight.items) c.start_some.new.engine.ops c.pump.new.self.ops d.completions [] c.in-Err.fault s.settled.operated s.settled.none d.completed in
    elim (one_of_two c.in-Err.fault c.in-Err.ensures.faults) [
      | inl e ↦ inl (
        c.as_run_fault.ensures ∙ e,
        record {
          offered = p.0;
          rest = all_taken c.start_some.new.todo g.R.UserEnds.offers_large;
          reaped = d.completions;
          uses = offers_reaps g.R.UserEnds.used g.met.R.UserEnds.used_then _ _ _ _ _ p.2 d.uses;
          entries = p.1;
        },
      )
      | inr e ↦ inr (
        ap is_stranger_fault c.as_run_fault.ensures ∙ e,
        record {
          ts = p.0;
          cs = d.completions;
          uses = offers_reaps g.R.UserEnds.used g.met.R.UserEnds.used_then _ _ _ _ _ p.2 d.uses;
          offered = p.1;
          full = elim s.full [ inl e ↦ inl (ap (λ l. all_taken l g.R.UserEnds.offers_large) e) | inr z ↦ inr (c.start_some.new.engine.ring, p.2, z, d.uses) ];
          starts = p.5;
          ends = rw c.as_run_fault.ensures
              (subst (λ l. ReapEnds c.start_some.new.table.started c.args.table.now.slots.items l slots (Err (engine_fault c.in-Err.fault))) (append-nil d.completions)
              (subst (λ x. ReapEnds c.start_some.new.table.started x (d.completions ++ []) slots (Err (engine_fault c.in-Err.fault))) s.slots ends));
          reaps = tt;
        },
      )
    ]

-- memory lacked for a poll
pub returns-then-is_err-clause-err : goal.returns-then-is_err-clause-err
returns-then-is_err-clause-err g c =
    let p = c.in_ok-start_some.ensures.offered in
    let d = c.in-Ok.ensures.pumped.0 in
    let reaps = reaps_polls g.R.UserEnds.used g.met.R.UserEnds.used_then _ _ _ _ d.uses c.poll_all.ensures.uses in
    inl (
      refl,
      record {
        offered = p.0;
        rest = all_taken c.start_some.new.todo g.R.UserEnds.offers_large;
        reaped = d.completions;
        uses = offers_reaps g.R.UserEnds.used g.met.R.UserEnds.used_then _ _ _ _ _ p.2 reaps;
        entries = p.1;
      },
    )

pub poll_all-requires-clause-operated : goal.poll_all-requires-clause-operated
poll_all-requires-clause-operated g c =
    let s = c.in_ok-start_some.ensures.settled in
    (landed_by _ _ _ _ _ _ s.operated s.none c.in-Ok.ensures.pumped.0.completed).operated

pub returns-clause-round : goal.returns-clause-round
returns-clause-round g c =
    let s = c.in_ok-start_some.ensures in
    let p = s.offered in
    let d = c.in-Ok.ensures.pumped in
    let l = landed_by _ _ _ _ _ _ s.settled.operated s.settled.none d.0.completed in
    let reaps = reaps_polls g.R.UserEnds.used g.met.R.UserEnds.used_then _ _ _ _ d.0.uses c.poll_all.ensures.uses in
    record {
      ts = p.0;
      cs = d.0.completions;
      uses = offers_reaps g.R.UserEnds.used g.met.R.UserEnds.used_then _ _ _ _ _ p.2 reaps;
      offered = p.1;
      full = elim s.full [ inl e ↦ inl (ap (λ l. all_taken l g.R.UserEnds.offers_large) e) | inr z ↦ inr (c.start_some.new.engine.ring, p.2, z, reaps) ];
      starts = c.poll_all.ensures.started ∙ p.5;
      ends = landed_ends _ _ _ _ _ l c.poll_all.new.self.started c.args.table.now.slots.items c.poll_all.new.self.slots.items (nat_lt 0 c.in-Ok.report.finals) c.poll_all.ensures.started (sym s.slots) (once_ok c.poll_all.result _ (sym c.if-is_err.ensures.value) c.poll_all.ensures.slots);
      reaps = (sym (any_by_count d.0.completions c.in-Ok.report.finals d.1.1), c.poll_all.ensures.waiting ∙ c.in-Ok.ensures.none_left);
    }

pub returns-clause-settled : goal.returns-clause-settled
returns-clause-settled g c =
    let s = c.in_ok-start_some.ensures.settled in
    let l = landed_by _ _ _ _ _ _ s.operated s.none c.in-Ok.ensures.pumped.0.completed in
    let ok = sym c.if-is_err.ensures.value in
    landed_settled c.start_some.new.table.started c.start_some.new.table.slots.items c.start_some.new.table.in_flight.items c.start_some.new.engine.ops c.pump.new.self.ops c.start_some.new.todo _ s l
    c.poll_all.new.self.started c.poll_all.new.self.slots.items c.poll_all.new.self.in_flight.items c.poll_all.new.engine.ops c.poll_all.ensures.started (once_ok c.poll_all.result _ ok c.poll_all.ensures.slots)
    (once_ok c.poll_all.result _ ok c.poll_all.ensures.operated) (once_ok c.poll_all.result _ ok c.poll_all.ensures.replied) (once_ok c.poll_all.result _ ok c.poll_all.ensures.none)
