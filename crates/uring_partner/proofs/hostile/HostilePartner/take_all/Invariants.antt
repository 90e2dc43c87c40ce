use Rattle.std.proofs.Common.{◌≡◌, ◌≤◌, ◌+◌, ◌++◌, List, length, map}
use Rattle.uring_base.specs.declared.events.Taken.{Taken}
use Rattle.uring_model.specs.Moves.{Took}
use Rattle.uring_partner.specs.Logs.{LogsBy, loans_held, script_left}
use Rattle.uring_partner.specs.Script.{loans_of}
use Rattle.uring_partner.proofs.hostile.HostilePartner.take_all.Given as goal

abbrev pub invariant-loop-i : goal.invariant-loop-i
invariant-loop-i g l =
    (ts : List Taken) × (length ts ≡ l.i)
    × LogsBy g.Q.PartnerSide.moved l.fn.self.log.items l.self.log.items l.fn.side l.side (map Took ts)
    × (loans_held l.self ≡ loans_held l.fn.self ++ loans_of ts)
    × (l.count ≤ g.Q.PartnerSide.ready l.side + l.i)
    × (g.Q.PartnerSide.space l.side ≡ g.Q.PartnerSide.space l.fn.side)
    × (script_left l.self ≡ script_left l.fn.self)
