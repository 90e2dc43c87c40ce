use Rattle.std.proofs.Common.{◌≡◌, length}
use Rattle.partner_tests.proofs.tests.read_back.changed.Given as goal

abbrev pub invariant-loop-place : goal.invariant-loop-place
invariant-loop-place l = length l.left ≡ l.place
