use Rattle.std.proofs.Common.{◌∷◌, [], refl}
use Rattle.uring_std.proofs.Served.{end_begins_none, end_takes_none, logs_nil, logs_side, logs_then}
use Rattle.uring_std.proofs.turn.end_waiting.Goals as goal

pub returns-in_err-end_entry-in-Some-clause-moves : goal.returns-in_err-end_entry-in-Some-clause-moves
returns-in_err-end_entry-in-Some-clause-moves g c =
    let looked = logs_side _ c.args.ledger.now.log.items _ _ c.room.ensures.moved in
    ([], logs_nil _ g.met.Q.PartnerSide.moved_then _ _ _ _ _ _ [] looked c.in_err-end_entry-in-Some.ensures.err.0, refl, refl)

pub returns-in_ok-end_entry-in-Some-clause-moves : goal.returns-in_ok-end_entry-in-Some-clause-moves
returns-in_ok-end_entry-in-Some-clause-moves g c =
    let looked = logs_side _ c.args.ledger.now.log.items _ _ c.room.ensures.moved in
    let e = c.in_ok-end_entry-in-Some.ensures.ok in
    (e.0 ∷ [], logs_then _ g.met.Q.PartnerSide.moved_then _ _ _ _ _ _ [] (e.0 ∷ []) looked e.1, end_takes_none _ _ _ _ e.2, end_begins_none _ _ _ _ e.2)
