use Rattle.ring_shared.specs.Ends.{IsSeatOf}
use Rattle.shared_tests.proofs.tests.take_waiting.Given as goal

abbrev pub invariant-loop : goal.invariant-loop
invariant-loop g l = IsSeatOf l.ring l.take.seat
