use Rattle.std.proofs.Common.{◌+◌, ap, sym, ◌∙◌}
use Rattle.std.specs.FinMap.{len}
use Rattle.rent_table.specs.Kept.{ops_of}
use Rattle.rent_table.specs.Ops.{knows, started}
use Rattle.rent_table.proofs.Parts.{absent, ops-started, len-started}
use Rattle.rent_table.proofs.lifecycles.Lifecycles.start.Goals as goal

pub insert-requires-clause-absent : goal.insert-requires-clause-absent
insert-requires-clause-absent c = absent c.self.inside.places.entries c.args.number (ap (λ k. knows k.ops c.args.number) c.self.view_is ∙ c.requires.unknown)

pub invariant_of-self : goal.invariant_of-self
invariant_of-self c = ap (λ n. n + 1) c.self.invariant ∙ sym (len-started c.self.inside.places.entries c.args.number _ _ c.none.ensures (ap (λ k. knows k.ops c.args.number) c.self.view_is ∙ c.requires.unknown)) ∙ ap (λ m. len (ops_of m).in_flight) (sym c.insert.ensures.entries)

pub returns-clause-ops : goal.returns-clause-ops
returns-clause-ops c = ap ops_of c.insert.ensures.entries ∙ ops-started c.self.inside.places.entries c.args.number _ _ c.none.ensures (ap (λ k. knows k.ops c.args.number) c.self.view_is ∙ c.requires.unknown) ∙ ap (λ k. started c.args.number c.args.lent c.args.next k.ops) c.self.view_is
