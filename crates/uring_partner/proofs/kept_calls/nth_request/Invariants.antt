use Rattle.std.proofs.Common.{◌≡◌, drop, slice_get}
use Rattle.uring_partner.specs.KeptCalls.{requests_in}
use Rattle.uring_partner.proofs.kept_calls.nth_request.Given as goal

abbrev pub invariant-loop-i : goal.invariant-loop-i
invariant-loop-i l = slice_get (requests_in l.calls.items) l.place ≡ slice_get (requests_in (drop l.i l.calls.items)) l.left
