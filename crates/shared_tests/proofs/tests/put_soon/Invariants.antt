use Rattle.ring_shared.specs.Ends.{IsSeatOf}
use Rattle.shared_tests.proofs.tests.put_soon.Given as goal

abbrev pub invariant-loop-try : goal.invariant-loop-try
invariant-loop-try l = IsSeatOf l.ring l.send.seat
