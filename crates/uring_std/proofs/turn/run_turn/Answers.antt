use Rattle.std.proofs.Common.{◌∷◌, [], ◌++◌, refl, sym, ◌∙◌, arith, inl, inr, append-nil, subst, List, ◌≡◌, ◌≤◌, length}
use Rattle.std.proofs.lemmas.Result.{err_from_is_err_and}
use Rattle.uring_model.specs.Moves.{Turned}
use Rattle.uring_std.proofs.Served.{first_part, logs_nil, logs_then, one_turn, turn_takes}
use Rattle.uring_std.proofs.turn.run_turn.Goals as goal

pub returns-in_err-end_waiting-clause-moves : goal.returns-in_err-end_waiting-clause-moves
returns-in_err-end_waiting-clause-moves g c =
    let b = c.in_ok-turn.ensures in
    let w = c.in_err-end_waiting.ensures.moves in
    let p = err_from_is_err_and c.from_residual-in_err-end_waiting.result c.from_residual-in_err-end_waiting.ensures.1 in
    let all = logs_then _ g.met.Q.PartnerSide.moved_then _ _ _ _ _ _ (Turned c.in_ok-turn.turn ∷ []) w.0 b.ok w.1 in
    (Turned c.in_ok-turn.turn ∷ w.0, all, rw p.1 (inr (first_part c.args.to_submit c.in_ok-turn.turn _ w.0 b.fits.0 b.told w.2 w.3)), rw p.1 tt)

pub returns-in_err-taken-clause-moves : goal.returns-in_err-taken-clause-moves
returns-in_err-taken-clause-moves g c =
    let b = c.in_ok-turn.ensures in
    let w = c.in_ok-end_waiting.ensures.moves in
    let s = c.in_err-taken.ensures.moves in
    let p = err_from_is_err_and c.from_residual-in_err-taken.result c.from_residual-in_err-taken.ensures.1 in
    let all = logs_then _ g.met.Q.PartnerSide.moved_then _ _ _ _ _ _ (Turned c.in_ok-turn.turn ∷ []) (w.0 ++ s.0) b.ok (logs_then _ g.met.Q.PartnerSide.moved_then _ _ _ _ _ _ w.0 s.0 w.1 s.1) in
    (Turned c.in_ok-turn.turn ∷ (w.0 ++ s.0), all, rw p.1 (inr (one_turn c.args.to_submit c.in_ok-turn.turn _ w.0 s.0 b.fits.0 b.told w.2 w.3 s.3 s.2)), rw p.1 tt)

pub returns-clause-moves : goal.returns-clause-moves
returns-clause-moves g c =
    let b = c.in_ok-turn.ensures in
    let w = c.in_ok-end_waiting.ensures.moves in
    let s = c.in_ok-taken.ensures.moves in
    let all = logs_then _ g.met.Q.PartnerSide.moved_then _ _ _ _ _ _ (Turned c.in_ok-turn.turn ∷ []) (w.0 ++ s.0) b.ok (logs_then _ g.met.Q.PartnerSide.moved_then _ _ _ _ _ _ w.0 s.0 w.1 s.1) in
    (Turned c.in_ok-turn.turn ∷ (w.0 ++ s.0), all, one_turn c.args.to_submit c.in_ok-turn.turn _ w.0 s.0 b.fits.0 b.told w.2 w.3 s.3 s.2, turn_takes c.in_ok-turn.turn c.in_ok-taken.taken w.0 s.0 w.2 s.4)
