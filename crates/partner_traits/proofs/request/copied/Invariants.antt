use Rattle.std.proofs.Common.{◌≡◌, take}
use Rattle.partner_traits.proofs.request.copied.Given as goal

abbrev pub invariant-loop-number : goal.invariant-loop-number
invariant-loop-number l = l.nums ≡ take l.number-index l.numbers
