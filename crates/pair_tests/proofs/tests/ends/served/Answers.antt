use Rattle.uring_shared.specs.SeatLaws.{PartnerMoves-own}
use Rattle.pair_tests.proofs.tests.ends.served.Goals as goal

pub returns : goal.returns
returns g c =
    let row = c.serve_rounds.ensures in
    PartnerMoves-own c.args.pair.now c.args.seats c.serve_rounds.result.seats row.ts row.cs c.requires row.moves
