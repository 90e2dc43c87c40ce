use Rattle.std.proofs.Common.{◌∷◌, [], ◌++◌, arith, ◌∙◌, append-nil, sym, refl, length-append}
use Rattle.std.proofs.lemmas.Result.{err_from_is_err_and}
use Rattle.uring_partner.proofs.Logged.{logs_took, logs_nil, logs_side}
use Rattle.uring_partner.proofs.Played.{held_more}
use Rattle.uring_partner.specs.Logs.{loans_held}
use Rattle.uring_partner.proofs.hostile.HostilePartner.take_all.Goals as goal

pub loop-i-init : goal.loop-i-init
loop-i-init g c = ([], refl, logs_side _ c.args.self.now.log.items _ _ (g.met.Q.PartnerSide.moved_none c.args.side.now), sym (append-nil (loans_held c.args.self.now)), omega arith, refl, refl)

pub returns-in_err-take_one : goal.returns-in_err-take_one
returns-in_err-take_one g c =
    let s = c.loop-i.invariant in
    let f = c.in_err-take_one.ensures in
    let e = logs_nil _ g.met.Q.PartnerSide.moved_then _ _ _ _ _ _ _ s.2 f.err.0 in
    let p = err_from_is_err_and c.from_residual.result c.from_residual.ensures.1 in
    record { moves = rw p.1 (s.0, e, f.err.1 ∙ s.3, omega (arith, s.1), tt); space = f.space ∙ s.5; script = f.script ∙ s.6 }

pub loop-i-preserved : goal.loop-i-preserved
loop-i-preserved g c =
    let s = c.loop-i.invariant in
    let e = c.in_ok-take_one.ensures in (
      s.0 ++ e.ok.0 ∷ [],
      simp length-append (omega arith),
      logs_took _ g.met.Q.PartnerSide.moved_then _ _ _ _ _ _ s.0 e.ok.0 s.2 e.ok.1,
      held_more _ _ _ s.0 e.ok.0 s.3 e.ok.2,
      omega (arith, s.4, e.ready),
      e.space ∙ s.5,
      e.script ∙ s.6,
    )
