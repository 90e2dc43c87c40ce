use Rattle.std.proofs.Common.{sym, ap, ◌∙◌}
use Rattle.std.specs.FinMap as map
use Rattle.std.specs.Option.{option_and_then}
use Rattle.slab.specs.Slab.{get}
use Rattle.rent_table.specs.NumberedSlab.{at}
use Rattle.rent_table.proofs.Picks.{get-at, nothing_at, nothing_out}
use Rattle.rent_table.proofs.Indexed.{picked-left, picked-absent, IsIndexed-left}
use Rattle.rent_table.proofs.numbered_slab.NumberedSlab.remove.Goals as goal

pub returns-then-is_empty-clause-value : goal.returns-then-is_empty-clause-value
returns-then-is_empty-clause-value g c = sym (nothing_at (get c.self.inside.places) c.self.inside.index.entries c.args.number (c.is_empty.ensures.0 c.if-is_empty.true)) ∙ ap (λ t. at t c.args.number) c.self.view_is

pub returns-then-is_empty-clause-entries : goal.returns-then-is_empty-clause-entries
returns-then-is_empty-clause-entries g c = nothing_out c.args.self.now.entries c.args.number (ap (λ t. at t c.args.number) (sym c.self.view_is) ∙ nothing_at (get c.self.inside.places) c.self.inside.index.entries c.args.number (c.is_empty.ensures.0 c.if-is_empty.true))

pub invariant_of-self : goal.invariant_of-self
invariant_of-self g c = IsIndexed-left _ _ _ _ c.args.number c.in-Some.place c.in-Some.ensures.updates.0 (sym c.in-Some.ensures.value) c.try_remove.ensures.updates c.self.invariant

pub returns-in-Some-clause-value : goal.returns-in-Some-clause-value
returns-in-Some-clause-value g c = c.try_remove.ensures.value ∙ sym (get-at (get c.self.inside.places) c.self.inside.index.entries c.args.number ∙ ap (option_and_then (get c.self.inside.places)) (sym c.in-Some.ensures.value)) ∙ ap (λ t. at t c.args.number) c.self.view_is

pub returns-in-Some-clause-entries : goal.returns-in-Some-clause-entries
returns-in-Some-clause-entries g c = picked-left _ _ _ _ c.args.number c.in-Some.place c.in-Some.ensures.updates.0 (sym c.in-Some.ensures.value) c.try_remove.ensures.updates c.self.invariant ∙ ap (λ t. map.remove t.entries c.args.number) c.self.view_is

pub returns-in-None-clause-value : goal.returns-in-None-clause-value
returns-in-None-clause-value g c = sym (get-at (get c.self.inside.places) c.self.inside.index.entries c.args.number ∙ ap (option_and_then (get c.self.inside.places)) (sym c.in-None.ensures.value)) ∙ ap (λ t. at t c.args.number) c.self.view_is

pub returns-in-None-clause-entries : goal.returns-in-None-clause-entries
returns-in-None-clause-entries g c = picked-absent _ _ c.self.inside.places c.args.number c.in-None.ensures.updates.0 ∙ ap (λ t. map.remove t.entries c.args.number) c.self.view_is
