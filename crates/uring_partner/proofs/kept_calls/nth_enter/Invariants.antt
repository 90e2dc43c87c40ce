use Rattle.std.proofs.Common.{◌≡◌, drop, slice_get}
use Rattle.uring_partner.specs.KeptCalls.{enters_in}
use Rattle.uring_partner.proofs.kept_calls.nth_enter.Given as goal

abbrev pub invariant-loop-i : goal.invariant-loop-i
invariant-loop-i l = slice_get (enters_in l.calls.items) l.place ≡ slice_get (enters_in (drop l.i l.calls.items)) l.left
