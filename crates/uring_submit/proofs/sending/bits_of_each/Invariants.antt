use Rattle.std.proofs.Common.{◌≡◌, map, take}
use Rattle.uring_base.specs.Words.{bits_of}
use Rattle.uring_submit.proofs.sending.bits_of_each.Given as goal

abbrev pub invariant-loop-fd : goal.invariant-loop-fd
invariant-loop-fd l = l.nums ≡ map bits_of (take l.fd-index l.fds)
