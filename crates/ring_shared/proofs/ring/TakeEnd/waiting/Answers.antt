use Rattle.std.proofs.Common.{ℕ, ◌-◌, List, length, arith}
use Rattle.ring_shared.specs.HeldSlots.{items_of}
use Rattle.ring_shared.proofs.ring.TakeEnd.waiting.Goals as goal

pub returns : goal.returns
returns g c = let k = c.args.self.now.sound in let m = c.args.self.now.seat.me in let a = k.within in let b = k.close in let d = k.same in let small = k.size.small in let x : List g.row.T.Denot = items_of m.1 in let q : ℕ = length m.0.seen - length x in
    let gap = c.gap.ensures.places m.0.start q (length m.0.seen) k.next_is k.tail_is (omega arith) (omega arith) in
    omega arith
