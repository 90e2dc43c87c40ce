use Rattle.std.proofs.Common.{ap, ◌∙◌, arith, is_some}
use Rattle.std.specs.FinMap.{len, remove}
use Rattle.rent_table.specs.Kept.{ops_of}
use Rattle.rent_table.specs.Ops.{flight_at}
use Rattle.rent_table.proofs.Parts.{some_in_flight, ops-discarded, len-discarded}
use Rattle.rent_table.proofs.lifecycles.Lifecycles.discard.Goals as goal

pub overflow_sub-self : goal.overflow_sub-self
overflow_sub-self c =
    let here = ap (λ k. is_some (flight_at k.ops c.args.number)) c.self.view_is ∙ c.requires in
    let some = some_in_flight c.self.inside.places.entries c.args.number here in
    omega (arith, some, c.self.invariant)

pub invariant_of-self : goal.invariant_of-self
invariant_of-self c =
    let here = ap (λ k. is_some (flight_at k.ops c.args.number)) c.self.view_is ∙ c.requires in
    let fewer = ap (λ m. len (ops_of m).in_flight) c.remove.ensures.entries in
    let one = len-discarded c.self.inside.places.entries c.args.number here in
    omega (arith, fewer, one, c.self.invariant)

pub returns-clause-ops : goal.returns-clause-ops
returns-clause-ops c =
    let here = ap (λ k. is_some (flight_at k.ops c.args.number)) c.self.view_is ∙ c.requires in
    ap ops_of c.remove.ensures.entries ∙ ops-discarded c.self.inside.places.entries c.args.number here ∙ ap (λ k. record k.ops { in_flight = remove k.ops.in_flight c.args.number; joins = remove k.ops.joins c.args.number }) c.self.view_is
