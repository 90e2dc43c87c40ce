use Rattle.std.proofs.Common.{ap, sym, ◌∙◌, Some}
use Rattle.rent_table.specs.Joins.{is_joined}
use Rattle.rent_table.proofs.Joining.{joined_in, done_joined, none_joined}
use Rattle.rent_table.proofs.lifecycles.Lifecycles.is_joined.Goals as goal

pub returns-in-Some-InFlight : goal.returns-in-Some-InFlight
returns-in-Some-InFlight c = c.has.ensures ∙ joined_in c.self.inside.places.entries c.args.number c.args.handle _ _ (sym c.in-Some-InFlight.ensures ∙ ap Some c.in-Some-InFlight.field-0-is) ∙ ap (λ k. is_joined k.ops c.args.handle c.args.number) c.self.view_is

pub returns-in-Some-Done : goal.returns-in-Some-Done
returns-in-Some-Done c = done_joined c.self.inside.places.entries c.args.number c.args.handle _ (sym c.in-Some-Done.ensures ∙ ap Some c.in-Some-Done.field-0-is) ∙ ap (λ k. is_joined k.ops c.args.handle c.args.number) c.self.view_is

pub returns-in-None : goal.returns-in-None
returns-in-None c = none_joined c.self.inside.places.entries c.args.number c.args.handle (sym c.in-None.ensures) ∙ ap (λ k. is_joined k.ops c.args.handle c.args.number) c.self.view_is
