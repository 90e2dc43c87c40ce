use Rattle.std.proofs.Common.{ap, ◌∙◌}
use Rattle.rent_table.specs.Ops.{knows}
use Rattle.rent_table.proofs.Parts.{knows-at}
use Rattle.rent_table.proofs.lifecycles.Lifecycles.knows.Goals as goal

pub returns : goal.returns
returns c = c.contains.ensures ∙ knows-at c.self.inside.places.entries c.args.number ∙ ap (λ k. knows k.ops c.args.number) c.self.view_is
