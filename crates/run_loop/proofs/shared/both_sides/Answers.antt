use Rattle.std.proofs.Common.{sym, subst}
use Rattle.uring_shared.specs.declared.seats.PartnerSeats.{PartnerSeats}
use Rattle.uring_shared.specs.Seats.{PartnerMoves}
use Rattle.uring_shared.specs.SeatLaws.{PartnerMoves-own, PartnerMoves-then}
use Rattle.partner_serving.specs.Rows.{RoundsServe}
use Rattle.partner_serving.proofs.Rows.{rows_then}
use Rattle.run_loop.proofs.shared.both_sides.Goals as goal

-- a fault on one of the threads

pub returns-in-Err-clause-own : goal.returns-in-Err-clause-own
returns-in-Err-clause-own g c =
    let t = c.on_two_threads-user.ensures.partner in
    PartnerMoves-own c.args.pair.now c.args.seats c.on_two_threads-user.result.served.seats t.ts t.cs c.requires.own t.moves

pub returns-in-Err-clause-user : goal.returns-in-Err-clause-user
returns-in-Err-clause-user g c first offers x = c.in-Err.ensures.user first offers (c.on_two_threads-user.ensures.rounds first offers x)

pub returns-in-Err-clause-partner : goal.returns-in-Err-clause-partner
returns-in-Err-clause-partner g c = (c.on_two_threads-user.result.served.ended, c.on_two_threads-user.ensures.partner, c.in-Err.ensures.ended)

-- the rounds went on in one thread

pub returns-clause-user : goal.returns-clause-user
returns-clause-user g c first offers x = c.rounds_in_turn-went.ensures.user first offers (c.in_default.ensures.user first offers (c.on_two_threads-user.ensures.rounds first offers x))

pub returns-clause-partner : goal.returns-clause-partner
returns-clause-partner g c =
    let served = c.on_two_threads-user.result.served in
    let more = c.rounds_in_turn-went.ensures.partner in
    let first = subst (λ o. RoundsServe g.P.Partner.machine g.P.Partner.Plain g.P.Partner.log g.P.Partner.state g.P.Partner.plan g.P.Counts.faults g.P.Partner.errno PartnerMoves c.args.seats c.args.partner served.seats served.partner o) c.in_default.ensures.ended.ok c.on_two_threads-user.ensures.partner in
    let moves = subst (λ (s : PartnerSeats). PartnerMoves s more.1.ts more.1.cs c.into_seats.result) c.on-side.ensures (subst (PartnerMoves c.on-side.result.seats more.1.ts more.1.cs) (sym c.into_seats.ensures) more.1.moves) in (
      more.0,
      rows_then g.P.Partner.machine g.P.Partner.Plain g.P.Partner.log g.P.Partner.state g.P.Partner.plan g.P.Counts.faults g.P.Partner.errno PartnerMoves c.servings_join.ensures.join PartnerMoves-then _ _ _ _ _ _ more.0 more.1.ts more.1.cs first moves more.1.served more.1.counted,
      more.2,
    )
