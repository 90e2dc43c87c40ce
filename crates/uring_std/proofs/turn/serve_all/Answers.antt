use Rattle.std.proofs.Common.{◌∷◌, [], ◌++◌, refl, sym, ◌∙◌, arith}
use Rattle.std.proofs.lemmas.Result.{err_from_is_err_and}
use Rattle.uring_std.proofs.Served.{count_then, logs_nil, logs_side, logs_then, no_turns}
use Rattle.uring_std.proofs.turn.serve_all.Goals as goal

pub returns-then-room-eq0-clause-moves : goal.returns-then-room-eq0-clause-moves
returns-then-room-eq0-clause-moves g c =
    let s = c.loop-i.invariant in
    (s.0, logs_nil _ g.met.Q.PartnerSide.moved_then _ _ _ _ _ _ s.0 s.1 (logs_side _ c.loop-i.ledger.log.items _ _ c.room.ensures.moved), omega (arith, s.2), s.3, sym s.2)

pub returns-in_err-serve_one-clause-moves : goal.returns-in_err-serve_one-clause-moves
returns-in_err-serve_one-clause-moves g c =
    let s = c.loop-i.invariant in
    let e = c.in_err-serve_one.ensures.moves in
    let p = err_from_is_err_and c.from_residual.result c.from_residual.ensures.1 in
    let looked = logs_nil _ g.met.Q.PartnerSide.moved_then _ _ _ _ _ _ s.0 s.1 (logs_side _ c.loop-i.ledger.log.items _ _ c.room.ensures.moved) in
    (s.0 ++ e.0, logs_then _ g.met.Q.PartnerSide.moved_then _ _ _ _ _ _ s.0 e.0 looked e.1, omega (arith, count_then s.0 e.0, s.2, e.2), no_turns s.0 e.0 s.3 e.3, rw p.1 tt)

pub loop-i-preserved : goal.loop-i-preserved
loop-i-preserved g c =
    let s = c.loop-i.invariant in
    let e = c.in_ok-serve_one.ensures in
    let m = e.moves in
    let looked = logs_nil _ g.met.Q.PartnerSide.moved_then _ _ _ _ _ _ s.0 s.1 (logs_side _ c.loop-i.ledger.log.items _ _ c.room.ensures.moved) in
    (s.0 ++ m.0, logs_then _ g.met.Q.PartnerSide.moved_then _ _ _ _ _ _ s.0 m.0 looked m.1, omega (arith, count_then s.0 m.0, s.2, m.4), no_turns s.0 m.0 s.3 m.3, omega (arith, s.4, c.room.ensures.ready, e.ready), e.faults.0 ∙ s.5, e.faults.1 ∙ s.6)
