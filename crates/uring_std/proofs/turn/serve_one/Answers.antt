use Rattle.std.proofs.Common.{◌∷◌, [], refl, arith}
use Rattle.std.proofs.lemmas.Result.{err_from_is_err_and}
use Rattle.uring_model.specs.Moves.{Took}
use Rattle.uring_std.proofs.Served.{end_begins_none, end_takes_none, logs_nil, logs_then, one_taken}
use Rattle.uring_std.proofs.turn.serve_one.Goals as goal

pub returns-in_err-end_entry-clause-moves : goal.returns-in_err-end_entry-clause-moves
returns-in_err-end_entry-clause-moves g c =
    let p = err_from_is_err_and c.from_residual-in_err-end_entry.result c.from_residual-in_err-end_entry.ensures.1 in
    (Took c.in_ok-taken.taken ∷ [], logs_nil _ g.met.Q.PartnerSide.moved_then _ _ _ _ _ _ _ c.in_ok-taken.ensures.ok c.in_err-end_entry.ensures.err.0, omega arith, refl, rw p.1 tt)

pub returns-clause-moves : goal.returns-clause-moves
returns-clause-moves g c =
    let e = c.in_ok-end_entry.ensures.ok in
    let one = one_taken c.in_ok-taken.taken e.0 (end_takes_none _ _ _ _ e.2) in
    (Took c.in_ok-taken.taken ∷ e.0 ∷ [], logs_then _ g.met.Q.PartnerSide.moved_then _ _ _ _ _ _ (Took c.in_ok-taken.taken ∷ []) (e.0 ∷ []) c.in_ok-taken.ensures.ok e.1, omega (arith, one), end_begins_none _ _ _ _ e.2, one)
