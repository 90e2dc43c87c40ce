use Rattle.uring_model.proofs.Refining as refining
use Rattle.partner_traits.proofs.laws.world_laws.Goals as goal

pub returns : goal.returns
returns g c = refining.world_laws g.P.Partner.machine g.P.Partner.view g.P.Partner.Plain g.P.Partner.refines
