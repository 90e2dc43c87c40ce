use Rattle.std.proofs.Common.{ap, sym, ◌∙◌, is_some}
use Rattle.std.specs.FinMap.{len, insert}
use Rattle.rent_table.specs.Kept.{ops_of}
use Rattle.rent_table.specs.Lists.{with_list}
use Rattle.rent_table.specs.Ops.{flight_at}
use Rattle.rent_table.proofs.Parts.{stands, ops-put, len-put}
use Rattle.rent_table.proofs.lifecycles.Lifecycles.put_flight.Goals as goal

pub replace-requires : goal.replace-requires
replace-requires c = stands c.self.inside.places.entries c.args.number (ap (λ k. is_some (flight_at k.ops c.args.number)) c.self.view_is ∙ c.requires)

pub invariant_of-self : goal.invariant_of-self
invariant_of-self c =
    let here = ap (λ k. is_some (flight_at k.ops c.args.number)) c.self.view_is ∙ c.requires in
    c.self.invariant ∙ sym (ap (λ m. len (ops_of m).in_flight) c.replace.ensures.entries ∙ len-put c.self.inside.places.entries c.args.number here c.args.flight c.args.joins)

pub returns-clause-ops : goal.returns-clause-ops
returns-clause-ops c =
    let here = ap (λ k. is_some (flight_at k.ops c.args.number)) c.self.view_is ∙ c.requires in
    ap ops_of c.replace.ensures.entries ∙ ops-put c.self.inside.places.entries c.args.number here c.args.flight c.args.joins
    ∙ ap (λ k. record k.ops { in_flight = insert k.ops.in_flight c.args.number c.args.flight; joins = with_list c.args.number c.args.joins k.ops.joins }) c.self.view_is
