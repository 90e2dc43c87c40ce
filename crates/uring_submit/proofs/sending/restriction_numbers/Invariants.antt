use Rattle.std.proofs.Common.{◌≡◌, map, take}
use Rattle.uring_submit.specs.Numbers.{restriction_number}
use Rattle.uring_submit.proofs.sending.restriction_numbers.Given as goal

abbrev pub invariant-loop-restriction : goal.invariant-loop-restriction
invariant-loop-restriction l = l.nums ≡ map restriction_number (take l.restriction-index l.res)
