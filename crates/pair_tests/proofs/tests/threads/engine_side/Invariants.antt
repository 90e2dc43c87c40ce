use Rattle.uring_shared.specs.Seats.{IsEngineOf}
use Rattle.uring_shared.specs.Sides.{engine_of}
use Rattle.pair_tests.proofs.tests.threads.engine_side.Given as goal

abbrev pub invariant-loop-look : goal.invariant-loop-look
invariant-loop-look l = IsEngineOf l.pair (engine_of l.ends)
