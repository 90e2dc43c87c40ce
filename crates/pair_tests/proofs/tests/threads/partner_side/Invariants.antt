use Rattle.uring_shared.specs.Seats.{IsPartnerOf}
use Rattle.uring_shared.specs.Sides.{partner_of}
use Rattle.pair_tests.proofs.tests.threads.partner_side.Given as goal

abbrev pub invariant-loop-look : goal.invariant-loop-look
invariant-loop-look l = IsPartnerOf l.pair (partner_of l.ends)
