use Rattle.std.proofs.Common.{◌+◌, ◌-◌, List, length, drop, arith}
use Rattle.ring_shared.specs.HeldSlots.{items_of}
use Rattle.ring_core.specs.Positions.{gap}
use Rattle.ring_shared.proofs.local_ring.LocalRing.spare.Goals as goal

pub overflow_sub-result : goal.overflow_sub-result
overflow_sub-result g c = let w = c.args.self.now in let k = w.sound in let m = w.seat.me in let x : List g.row.T.Denot = drop (gap w.next_take w.tail_seen) (items_of m.1) in
    let a = k.inside in let b = k.shown in let d = k.fits in let e = k.gained in let f = k.loaded in let small = k.size.small in
    let used = c.gap.ensures.places m.0.start (m.0.limit - w.capacity) (length m.0.published + length x) k.head_seen_is k.next_is (omega arith) (omega arith) in omega arith
