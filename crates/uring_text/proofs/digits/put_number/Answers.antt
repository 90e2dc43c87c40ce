use Rattle.std.proofs.Common.{◌≡◌, ◌+◌, ◌-◌, ◌/◌, ◌%◌, ◌≤◌, ◌∙◌, length, drop, refl, arith, append-nil}
use Rattle.std.specs.Fmt.{decimal}
use Rattle.std.proofs.lemmas.Fmt.{length-decimal-le, decimal_nonempty}
use Rattle.std.proofs.lemmas.List.{length-set, length-drop, take_all}
use Rattle.std.proofs.Math.ListN.{set}
use Rattle.uring_text.proofs.Decimals.{digit_more, digits_last, one_fewer, where_ok}
use Rattle.uring_text.proofs.digits.put_number.Goals as goal

pub loop-left-init : goal.loop-left-init
loop-left-init c =
    let small = c.ranges.number.fits in
    (omega arith, refl, length-decimal-le 20 c.args.number (omega arith) (omega (arith, small)) (omega (arith, small)), append-nil (decimal c.args.number))

-- a number of two digits or more leaves room for one more
pub overflow_sub-at : goal.overflow_sub-at
overflow_sub-at c =
    let l = c.loop-left in
    let small = l.auto.left-fits.fits in
    let fewer = one_fewer l.left (omega (arith, c.loop-left-test.true)) small in
    let some = decimal_nonempty (l.left / 10) (omega (arith, small)) in
    omega (arith, fewer, some, l.invariant.2)

pub loop-left-preserved : goal.loop-left-preserved
loop-left-preserved c =
    let l = c.loop-left in
    let small = l.auto.left-fits.fits in
    let fewer = one_fewer l.left (omega (arith, c.loop-left-test.true)) small in
    let some = decimal_nonempty (l.left / 10) (omega (arith, small)) in
    let back : l.at - 1 + 1 ≡ l.at = omega (arith, fewer, some, l.invariant.2) in (
      omega (arith, l.invariant.0),
      length-set l.digits l.at (48 + l.left % 10) ∙ l.invariant.1,
      omega (arith, fewer, some, l.invariant.2),
      rw back (digit_more c.args.number l.left l.at (48 + l.left % 10) l.digits (omega (arith, c.loop-left-test.true)) small (omega (arith, l.invariant.0, l.invariant.1)) refl l.invariant.3),
    )

pub returns : goal.returns
returns c =
    let l = c.loop-left in
    let all = set l.digits l.at (48 + l.left) in
    let whole : length (drop l.at all) ≤ 20 - l.at = (let a = length-drop l.at all in let b = length-set l.digits l.at (48 + l.left) in omega (arith, a, b, l.invariant.1)) in
    where_ok c.extend_from_slice.result c.extend_from_slice.new.self.items c.args.out.now.items _ (decimal c.args.number)
    (take_all (20 - l.at) (drop l.at all) whole
    ∙ digits_last c.args.number l.left l.at (48 + l.left) l.digits (omega (arith, c.loop-left-test.false)) (omega (arith, l.invariant.0, l.invariant.1)) refl l.invariant.3) c.extend_from_slice.ensures.items
