use Rattle.std.proofs.Common.{sym, ap, ◌∙◌}
use Rattle.std.specs.Option.{option_and_then}
use Rattle.slab.specs.Slab.{get}
use Rattle.rent_table.specs.NumberedSlab.{at}
use Rattle.rent_table.proofs.Picks.{get-at, nothing_at}
use Rattle.rent_table.proofs.numbered_slab.NumberedSlab.get.Goals as goal

pub returns-then-is_empty : goal.returns-then-is_empty
returns-then-is_empty g c = sym (nothing_at (get c.self.inside.places) c.self.inside.index.entries c.args.number (c.is_empty.ensures.0 c.if-is_empty.true)) ∙ ap (λ t. at t c.args.number) c.self.view_is

pub returns-in-Some : goal.returns-in-Some
returns-in-Some g c = c.get-in-Some.ensures ∙ sym (get-at (get c.self.inside.places) c.self.inside.index.entries c.args.number ∙ ap (option_and_then (get c.self.inside.places)) (sym c.in-Some.ensures.value)) ∙ ap (λ t. at t c.args.number) c.self.view_is

pub returns-in-None : goal.returns-in-None
returns-in-None g c = sym (get-at (get c.self.inside.places) c.self.inside.index.entries c.args.number ∙ ap (option_and_then (get c.self.inside.places)) (sym c.in-None.ensures.value)) ∙ ap (λ t. at t c.args.number) c.self.view_is
