use Rattle.std.proofs.Common.{◌≡◌, ◌≤◌, ◌+◌, List, length, map}
use Rattle.uring_base.specs.declared.events.Taken.{Taken}
use Rattle.uring_model.specs.Moves.{Took}
use Rattle.uring_partner.specs.Served.{take_all}
use Rattle.uring_partner.specs.Parts.{GoesBy}
use Rattle.uring_partner.specs.Told.{state_of}
use Rattle.uring_partner.proofs.memory.MemoryPartner.take_all.Given as goal

abbrev pub invariant-loop-i : goal.invariant-loop-i
invariant-loop-i g l = (ts : List Taken) × (length ts ≡ l.i) × GoesBy g.Q.PartnerSide.moved l.fn.self l.self l.fn.side l.side (map Took ts) × (state_of l.self ≡ take_all (state_of l.fn.self) ts) × (l.count ≤ g.Q.PartnerSide.ready l.side + l.i) × (g.Q.PartnerSide.space l.side ≡ g.Q.PartnerSide.space l.fn.side)
