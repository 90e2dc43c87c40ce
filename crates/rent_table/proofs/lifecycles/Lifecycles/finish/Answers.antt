use Rattle.std.proofs.Common.{ap, ◌∙◌, arith, is_some}
use Rattle.std.specs.FinMap.{len, insert, remove}
use Rattle.rent_table.specs.Kept.{ops_of}
use Rattle.rent_table.specs.Ops.{flight_at}
use Rattle.rent_table.proofs.Parts.{stands, some_in_flight, ops-finished, len-finished}
use Rattle.rent_table.proofs.lifecycles.Lifecycles.finish.Goals as goal

pub overflow_sub-self : goal.overflow_sub-self
overflow_sub-self c =
    let here = ap (λ k. is_some (flight_at k.ops c.args.number)) c.self.view_is ∙ c.requires in
    let some = some_in_flight c.self.inside.places.entries c.args.number here in
    omega (arith, some, c.self.invariant)

pub replace-requires : goal.replace-requires
replace-requires c = stands c.self.inside.places.entries c.args.number (ap (λ k. is_some (flight_at k.ops c.args.number)) c.self.view_is ∙ c.requires)

pub invariant_of-self : goal.invariant_of-self
invariant_of-self c =
    let here = ap (λ k. is_some (flight_at k.ops c.args.number)) c.self.view_is ∙ c.requires in
    let fewer = ap (λ m. len (ops_of m).in_flight) c.replace.ensures.entries in
    let one = len-finished c.self.inside.places.entries c.args.number here c.args.outcome in
    omega (arith, fewer, one, c.self.invariant)

pub returns-clause-ops : goal.returns-clause-ops
returns-clause-ops c =
    let here = ap (λ k. is_some (flight_at k.ops c.args.number)) c.self.view_is ∙ c.requires in
    ap ops_of c.replace.ensures.entries ∙ ops-finished c.self.inside.places.entries c.args.number here c.args.outcome ∙ ap (λ k. record { in_flight = remove k.ops.in_flight c.args.number; done = insert k.ops.done c.args.number c.args.outcome; joins = remove k.ops.joins c.args.number }) c.self.view_is
