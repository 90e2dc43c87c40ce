use Rattle.std.proofs.Common.{◌≡◌, [], Ok, Err, refl, sym, ap, ◌∙◌, subst, arith}
use Rattle.std.proofs.lemmas.Result.{err_from_is_err_and}
use Rattle.ring_traits.specs.Lists.{Becomes, WhereTold, all_published}
use Rattle.rent_engine.specs.declared.fault.EngineFault.{EngineFault}
use Rattle.rent_engine.specs.Engines.{Reaped, Pumped, finals_in}
use Rattle.rent_engine.proofs.Pumping.{published_reaped, Pumps-taken, Pumps-strange, Pumped-more, Pumped-same, Pumped-lacking, finals_more}
use Rattle.rent_engine.proofs.engine.Engine.pump.Goals as goal

pub reaps-init : goal.reaps-init
reaps-init g c =
    let v = c.self.view_is in
    let r = ap (λ e. e.ring) v in
    let room = c.publish.ensures.seen.0 ∙ ap g.R.UserEnds.room r in
    let grows = c.refresh.ensures.grows.0 in
    let spare = ap (λ e. e.spare) v in
    record {
      pumped = record {
        completions = [];
        uses = subst (λ x. g.R.UserEnds.used x [] [] c.refresh.new.self) r (g.met.R.UserEnds.used_then _ _ _ [] [] [] [] c.publish.ensures.used c.refresh.ensures.used);
        told = subst (λ x. WhereTold (Reaped []) (g.R.Rings.lists x) (g.R.Rings.lists c.refresh.new.self)) r (published_reaped _ _ (subst (λ o. Becomes (g.R.Rings.lists c.self.inside.ring) all_published o) (sym c.refresh.ensures.told) c.publish.ensures.told));
        seen = c.refresh.ensures.seen;
        places = omega (arith, room, grows);
        completed = ap (λ e. e.ops) v;
        kept = ap (λ e. e.steps) v;
      };
      finals = refl;
      spare = omega (arith, spare);
      handles = ap (λ e. e.handles) v;
      params = ap (λ e. e.params) v;
    }

pub returns-in_err-reserve_step-clause-pumped : goal.returns-in_err-reserve_step-clause-pumped
returns-in_err-reserve_step-clause-pumped g c =
    let v = c.self-in-reaps.view_is in
    let p = err_from_is_err_and c.from_residual.result c.from_residual.ensures.1 in
    rw p.1 (
      subst (λ (f : EngineFault). Pumped g.R.UserEnds.used g.R.Rings.lists g.R.UserEnds.room g.R.UserEnds.waiting c.args.self.now.ring c.self-in-reaps.inside.ring c.args.self.now.ops c.reserve_step.new.self.ops c.args.self.now.steps c.reserve_step.new.self.steps (Err f))
          (sym p.2)
          (Pumped-lacking g.R.UserEnds.used g.R.Rings.lists g.R.UserEnds.room g.R.UserEnds.waiting g.met.R.UserEnds.used_then
          c.args.self.now.ring c.reaps.self.ring c.self-in-reaps.inside.ring c.args.self.now.ops c.reaps.self.ops c.reserve_step.new.self.ops c.args.self.now.steps c.reaps.self.steps c.reserve_step.new.self.steps
          c.reaps.invariant.pumped (ap (λ s. s.ring) v) (c.reserve_step.ensures.ops ∙ ap (λ s. s.ops) v) (c.reserve_step.ensures.steps ∙ ap (λ s. s.steps) v)),
      tt,
    )

pub returns-in_default-clause-pumped : goal.returns-in_default-clause-pumped
returns-in_default-clause-pumped g c =
    let i = c.reaps.invariant in
    let v = c.self-in-reaps.view_is in
    let e = c.in_default.ensures in
    let count = e.count in
    let none : g.R.UserEnds.waiting c.self-in-reaps.inside.ring ≡ g.R.UserEnds.waiting c.reap.new.self = omega (arith, count) in
    let p = Pumped-same g.R.UserEnds.used g.R.Rings.lists g.R.UserEnds.room g.R.UserEnds.waiting g.met.R.UserEnds.used_then
    c.args.self.now.ring c.reaps.self.ring c.self-in-reaps.inside.ring c.reap.new.self c.args.self.now.ops c.reaps.self.ops c.reserve_step.new.self.ops c.args.self.now.steps c.reaps.self.steps c.reserve_step.new.self.steps
    i.pumped (ap (λ s. s.ring) v) (c.reserve_step.ensures.ops ∙ ap (λ s. s.ops) v) (c.reserve_step.ensures.steps ∙ ap (λ s. s.steps) v) e.used e.told e.room none in
    (p.0, (refl, i.finals ∙ sym p.1))

pub returns-in_err-is_final-clause-pumped : goal.returns-in_err-is_final-clause-pumped
returns-in_err-is_final-clause-pumped g c =
    let v = c.self-in-reaps.view_is in
    let e = c.in-Some.ensures in
    let p = err_from_is_err_and c.from_residual-in_err-is_final.result c.from_residual-in_err-is_final.ensures.1 in
    rw p.1 (
      (Pumped-more g.R.UserEnds.used g.R.Rings.lists g.R.UserEnds.room g.R.UserEnds.waiting g.met.R.UserEnds.used_then
          c.args.self.now.ring c.reaps.self.ring c.self-in-reaps.inside.ring c.reap.new.self c.take_in.new.self.ring c.args.self.now.ops c.reaps.self.ops c.reserve_step.new.self.ops c.take_in.new.self.ops
          c.args.self.now.steps c.reaps.self.steps c.reserve_step.new.self.steps c.take_in.new.self.steps (Err p.0) c.in-Some.completion
          c.reaps.invariant.pumped (ap (λ s. s.ring) v) (c.reserve_step.ensures.ops ∙ ap (λ s. s.ops) v) (c.reserve_step.ensures.steps ∙ ap (λ s. s.steps) v) c.take_in.ensures.ring e.used e.told e.room e.count
          (Pumps-strange _ _ _ _ c.take_in.ensures.ops c.in_err-is_final.ensures.stranger (p.2 ∙ c.in_err-is_final.ensures.fault)) c.take_in.ensures.steps).0,
      tt,
    )

pub reaps-preserved : goal.reaps-preserved
reaps-preserved g c =
    let i = c.reaps.invariant in
    let v = c.self-in-reaps.view_is in
    let e = c.in-Some.ensures in
    let was = ap (λ s. s.spare) v in
    let kept = c.reserve_step.ensures.spare in
    let here = c.take_in.ensures.spare in
    let before = i.spare in
    let p = Pumped-more g.R.UserEnds.used g.R.Rings.lists g.R.UserEnds.room g.R.UserEnds.waiting g.met.R.UserEnds.used_then
    c.args.self.now.ring c.reaps.self.ring c.self-in-reaps.inside.ring c.reap.new.self c.take_in.new.self.ring c.args.self.now.ops c.reaps.self.ops c.reserve_step.new.self.ops c.take_in.new.self.ops
    c.args.self.now.steps c.reaps.self.steps c.reserve_step.new.self.steps c.take_in.new.self.steps (Ok tt) c.in-Some.completion
    i.pumped (ap (λ s. s.ring) v) (c.reserve_step.ensures.ops ∙ ap (λ s. s.ops) v) (c.reserve_step.ensures.steps ∙ ap (λ s. s.steps) v) c.take_in.ensures.ring e.used e.told e.room e.count
    (Pumps-taken _ _ _ c.take_in.ensures.ops c.in_ok-is_final.ensures.stranger) c.take_in.ensures.steps in
    record {
      pumped = p.0;
      finals = finals_more i.pumped.completions c.in-Some.completion c.reaps.finals _ c.in_ok-is_final.is_final c.in_ok-is_final.ensures.last i.finals c.one_more_if-finals.ensures ∙ ap finals_in (sym p.1);
      spare = omega (arith, was, kept, here, before);
      handles = c.take_in.ensures.handles ∙ c.reserve_step.ensures.handles ∙ ap (λ s. s.handles) v ∙ i.handles;
      params = c.take_in.ensures.params ∙ ap (λ s. s.params) v ∙ i.params;
    }
