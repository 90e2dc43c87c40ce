use Rattle.std.proofs.Common.{ap, sym, ◌∙◌, Some, subst, T, is_some}
use Rattle.std.specs.FinMap.{get, remove}
use Rattle.std.specs.Option.{option_and_then}
use Rattle.rent_table.specs.Kept.{joins_of}
use Rattle.rent_table.specs.Ops.{flight_at}
use Rattle.rent_table.proofs.Parts.{joins-at, done_there, nothing_there, ops-bare, len-bare}
use Rattle.rent_table.proofs.lifecycles.Lifecycles.take_joins.Goals as goal

pub invariant_of-self : goal.invariant_of-self
invariant_of-self c =
    let here = ap (λ k. flight_at k.ops c.args.number) c.self.view_is ∙ c.requires in
    c.self.invariant ∙ sym (len-bare c.self.inside.places.entries c.exchange.new.self.entries c.args.number c.args.flight _ here c.none.ensures c.exchange.ensures.entries)

pub returns-clause-ops : goal.returns-clause-ops
returns-clause-ops c =
    let here = ap (λ k. flight_at k.ops c.args.number) c.self.view_is ∙ c.requires in
    ops-bare c.self.inside.places.entries c.exchange.new.self.entries c.args.number c.args.flight _ here c.none.ensures c.exchange.ensures.entries
    ∙ ap (λ k. record k.ops { joins = remove k.ops.joins c.args.number }) c.self.view_is

pub unreachable-requires : goal.unreachable-requires
unreachable-requires c =
    let here = ap (λ k. flight_at k.ops c.args.number) c.self.view_is ∙ c.requires in
    let done = done_there c.self.inside.places.entries c.args.number _ (sym c.in-Some-Done.ensures.value ∙ ap Some c.in-Some-Done.field-0-is) in
    subst T (sym (ap is_some (done ∙ here))) tt

pub unreachable-requires-in-None : goal.unreachable-requires-in-None
unreachable-requires-in-None c =
    let here = ap (λ k. flight_at k.ops c.args.number) c.self.view_is ∙ c.requires in
    subst T (sym (ap is_some (nothing_there c.self.inside.places.entries c.args.number (sym c.in-None.ensures.value) ∙ here))) tt

pub returns-clause-value : goal.returns-clause-value
returns-clause-value c =
    ap (λ k. get k.ops.joins c.args.number) (sym c.self.view_is) ∙ joins-at c.self.inside.places.entries c.args.number
    ∙ ap (option_and_then joins_of) (sym c.in-Some-InFlight.ensures.value ∙ ap Some c.in-Some-InFlight.field-0-is)
