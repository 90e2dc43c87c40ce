use Rattle.std.proofs.Common.{◌+◌, ◌-◌, length, arith, length-append}
use Rattle.ring_shared.specs.HeldSlots.{items_of}
use Rattle.ring_shared.proofs.ring.SendEnd.spare.Goals as goal

pub overflow_sub-result : goal.overflow_sub-result
overflow_sub-result g c = let k = c.args.self.now.sound in let m = c.args.self.now.seat.me in let a = k.loaded in let b = k.close in let d = k.fits in let small = k.size.small in
    let gap = c.gap.ensures.places m.0.start (m.0.limit - c.args.self.now.capacity) (length m.0.published + length (items_of m.1)) k.head_is k.next_is (omega arith) (omega arith) in omega arith

pub returns : goal.returns
returns g c = let k = c.args.self.now.sound in let m = c.args.self.now.seat.me in let a = k.loaded in let b = k.close in let d = k.fits in let small = k.size.small in
    let gap = c.gap.ensures.places m.0.start (m.0.limit - c.args.self.now.capacity) (length m.0.published + length (items_of m.1)) k.head_is k.next_is (omega arith) (omega arith) in
    omega (arith, length-append m.0.published (items_of m.1))
