use Rattle.std.proofs.Common.{subst}
use Rattle.rent_table.specs.Ops.{AreApart, AreJoinsOfFlights}
use Rattle.rent_table.proofs.Parts.{apart-of, joins-of-flights}
use Rattle.rent_table.proofs.lifecycles.Lifecycles.in_flight.Goals as goal

pub returns-clause-apart : goal.returns-clause-apart
returns-clause-apart c = subst (λ k. AreApart k.ops) c.self.view_is (apart-of c.self.inside.places.entries)

pub returns-clause-joins : goal.returns-clause-joins
returns-clause-joins c = subst (λ k. AreJoinsOfFlights k.ops) c.self.view_is (joins-of-flights c.self.inside.places.entries)
