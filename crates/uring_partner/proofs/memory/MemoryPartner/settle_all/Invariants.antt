use Rattle.std.proofs.Common.{◌≤◌, ◌+◌, ℕ, List, length, map}
use Rattle.std.specs.VecDeque.{deque_len}
use Rattle.uring_partner.specs.Served.{EntryEnd, ended, posts_of}
use Rattle.uring_partner.specs.Parts.{GoesBy}
use Rattle.uring_partner.specs.Told.{state_of}
use Rattle.uring_partner.proofs.Turns.{Runs, WithRoom}
use Rattle.uring_partner.proofs.memory.MemoryPartner.settle_all.Given as goal

-- the room that the last end found was there from the start
abbrev pub invariant-loop-alloc : goal.invariant-loop-alloc
invariant-loop-alloc g l =
    (es : List EntryEnd) × (spare : ℕ)
    × GoesBy g.Q.PartnerSide.moved l.fn.self l.self l.fn.side l.side (map ended es)
    × Runs es spare (state_of l.fn.self) (state_of l.self)
    × (g.Q.PartnerSide.space l.fn.side ≤ g.Q.PartnerSide.space l.side + length (posts_of es))
    × (spare ≤ g.Q.PartnerSide.space l.side)
    × WithRoom (length (posts_of es) + spare) (g.Q.Rings.lists l.fn.side)

abbrev pub decreases-loop-alloc : goal.decreases-loop-alloc
decreases-loop-alloc g l = deque_len l.self.pending.items
