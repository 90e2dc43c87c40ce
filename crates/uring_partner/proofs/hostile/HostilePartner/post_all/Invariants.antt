use Rattle.std.proofs.Common.{◌-◌, ◌≤◌, ◌+◌, List, length, map, vec_len}
use Rattle.uring_base.specs.declared.events.Completion.{Completion}
use Rattle.uring_model.specs.Moves.{Posted}
use Rattle.uring_partner.specs.Logs.{LogsBy, loans_held, script_left}
use Rattle.uring_partner.specs.Script.{Plays}
use Rattle.uring_partner.proofs.hostile.HostilePartner.post_all.Given as goal

abbrev pub invariant-loop-self : goal.invariant-loop-self
invariant-loop-self g l =
    (cs : List Completion)
    × LogsBy g.Q.PartnerSide.moved l.fn.self.log.items l.self.log.items l.fn.side l.side (map Posted cs)
    × Plays (script_left l.fn.self) (loans_held l.fn.self) cs (script_left l.self) (loans_held l.self)
    × (g.Q.PartnerSide.space l.fn.side ≤ g.Q.PartnerSide.space l.side + length cs)

abbrev pub decreases-loop-self : goal.decreases-loop-self
decreases-loop-self g l = vec_len l.self.script - l.self.used
