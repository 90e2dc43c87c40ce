use Rattle.std.proofs.Common.{ap, sym, ◌∙◌, Some}
use Rattle.rent_table.specs.Ops.{flight_at}
use Rattle.rent_table.proofs.Parts.{in_flight_there, done_there, nothing_there}
use Rattle.rent_table.proofs.lifecycles.Lifecycles.flight.Goals as goal

pub returns-in-Some-InFlight : goal.returns-in-Some-InFlight
returns-in-Some-InFlight c = in_flight_there c.self.inside.places.entries c.args.number _ _ (sym c.in-Some-InFlight.ensures ∙ ap Some c.in-Some-InFlight.field-0-is) ∙ ap (λ k. flight_at k.ops c.args.number) c.self.view_is

pub returns-in-Some-Done : goal.returns-in-Some-Done
returns-in-Some-Done c = done_there c.self.inside.places.entries c.args.number _ (sym c.in-Some-Done.ensures ∙ ap Some c.in-Some-Done.field-0-is) ∙ ap (λ k. flight_at k.ops c.args.number) c.self.view_is

pub returns-in-None : goal.returns-in-None
returns-in-None c = nothing_there c.self.inside.places.entries c.args.number (sym c.in-None.ensures) ∙ ap (λ k. flight_at k.ops c.args.number) c.self.view_is
