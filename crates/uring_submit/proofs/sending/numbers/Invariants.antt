use Rattle.std.proofs.Common.{◌≡◌, take}
use Rattle.uring_submit.proofs.sending.numbers.Given as goal

abbrev pub invariant-loop-number : goal.invariant-loop-number
invariant-loop-number l = l.nums ≡ take l.number-index l.numbers
