use Rattle.std.proofs.Common.{◌≡◌, ◌+◌, ◌≤◌, ◌++◌, length, drop}
use Rattle.std.specs.Fmt.{decimal}
use Rattle.uring_text.proofs.digits.put_number.Given as goal

-- what is left stands before the digits that are written, and fits
abbrev pub invariant-loop-left : goal.invariant-loop-left
invariant-loop-left l = (l.at ≤ 19) × (length l.digits ≡ 20) × (length (decimal l.left) ≤ l.at + 1) × (decimal l.left ++ drop (l.at + 1) l.digits ≡ decimal l.fn.number)

abbrev pub decreases-loop-left : goal.decreases-loop-left
decreases-loop-left l = l.left
