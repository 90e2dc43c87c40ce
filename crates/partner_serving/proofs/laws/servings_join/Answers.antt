use Rattle.partner_serving.proofs.Servings.{servings_join, no_round_serves}
use Rattle.partner_serving.proofs.laws.servings_join.Goals as goal

pub returns : goal.returns
returns g c = record {
  join = servings_join g.P.Partner.machine g.P.Partner.view g.P.Partner.Plain c.world_laws.ensures c.moves_join.ensures.join;
  none = no_round_serves g.P.Partner.machine g.P.Partner.view g.P.Partner.Plain c.world_laws.ensures c.moves_join.ensures.none;
}
