use Rattle.std.proofs.Common.{ap, sym, ◌∙◌, Some, subst, T, is_some}
use Rattle.std.specs.FinMap.{len, remove}
use Rattle.std.specs.Option.{option_and_then}
use Rattle.rent_table.specs.Kept.{ops_of, done_of}
use Rattle.rent_table.specs.Ops.{flight_at, done_at}
use Rattle.rent_table.proofs.Parts.{in_flight_there, done-at, ops-taken, len-left}
use Rattle.rent_table.proofs.lifecycles.Lifecycles.take.Goals.{in-Some-Done, in-None}
use Rattle.rent_table.proofs.lifecycles.Lifecycles.take.Goals as goal

pub unreachable-requires : goal.unreachable-requires
unreachable-requires c =
    let there = in_flight_there c.self.inside.places.entries c.args.number _ _ (sym c.in-Some-InFlight.ensures.value ∙ ap Some c.in-Some-InFlight.field-0-is) in
    subst T (ap is_some (there ∙ ap (λ k. flight_at k.ops c.args.number) c.self.view_is ∙ c.requires)) tt

pub invariant_of-self : goal.invariant_of-self
invariant_of-self c = c.self.invariant ∙ sym (ap (λ m. len (ops_of m).in_flight) c.remove.ensures.entries ∙ len-left c.self.inside.places.entries c.args.number (ap (λ k. flight_at k.ops c.args.number) c.self.view_is ∙ c.requires))

pub returns-clause-value : goal.returns-clause-value
returns-clause-value c =
    let at = done-at c.self.inside.places.entries c.args.number ∙ ap (option_and_then done_of) (sym c.remove.ensures.value) in
    elim c.match-remove.branch [
      | in-Some-Done w ↦ w.result-is ∙ sym (at ∙ ap (option_and_then done_of) (w.in-Some-Done.is ∙ ap Some w.in-Some-Done.field-0-is)) ∙ ap (λ k. done_at k.ops c.args.number) c.self.view_is
      | in-None w ↦ w.result-is ∙ sym (at ∙ ap (option_and_then done_of) w.in-None.is) ∙ ap (λ k. done_at k.ops c.args.number) c.self.view_is
    ]

pub returns-clause-ops : goal.returns-clause-ops
returns-clause-ops c = ap ops_of c.remove.ensures.entries ∙ ops-taken c.self.inside.places.entries c.args.number (ap (λ k. flight_at k.ops c.args.number) c.self.view_is ∙ c.requires) ∙ ap (λ k. record k.ops { done = remove k.ops.done c.args.number }) c.self.view_is
