use Rattle.partner_serving.proofs.Servings.{working_turns, unbroken_turns}
use Rattle.partner_serving.proofs.laws.unbroken_turns_are_few.Goals as goal

pub returns : goal.returns
returns g c = record {
  moves = working_turns g.P.Partner.machine g.P.Partner.view g.P.Partner.Plain c.world_laws.ensures;
  few = unbroken_turns g.P.Partner.machine g.P.Partner.view g.P.Partner.Plain c.world_laws.ensures;
}
