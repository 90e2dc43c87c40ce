use Rattle.partner_serving.proofs.Enters.{due_turns}
use Rattle.partner_serving.proofs.laws.due_turns_work.Goals as goal

pub returns : goal.returns
returns g c = due_turns g.P.Partner.machine g.P.Partner.view g.P.Partner.Plain c.world_laws.ensures c.turns_are_moves.ensures.settles
