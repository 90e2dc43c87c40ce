use Rattle.ring_shared.specs.Ends.{IsSeatOf}
use Rattle.shared_tests.proofs.tests.send_all.Given as goal

abbrev pub invariant-loop-item : goal.invariant-loop-item
invariant-loop-item g l = IsSeatOf l.ring l.send.seat
