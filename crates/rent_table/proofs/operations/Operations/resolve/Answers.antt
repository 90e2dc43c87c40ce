use Rattle.std.proofs.Common.{is_some, ap, ◌∙◌, arith}
use Rattle.rent_table.specs.Ops.{flight_at, with_hanging_resolved}
use Rattle.rent_table.proofs.Asked.{asked_resolved}
use Rattle.rent_table.proofs.Matching.{matched_out, len_out, still_flying}
use Rattle.rent_table.proofs.operations.Operations.resolve.Goals as goal

pub end_hanging-requires-clause-matched : goal.end_hanging-requires-clause-matched
end_hanging-requires-clause-matched c = matched_out c.self.inside.lifecycles.ops c.resolve.new.self.ops c.self.inside.waiters.next c.remove.new.self.next c.args.number c.args.flight c.args.outcome c.self.invariant.matched c.resolve.ensures.ops c.remove.ensures.next

pub end_hanging-requires-clause-room : goal.end_hanging-requires-clause-room
end_hanging-requires-clause-room c =
    let one = len_out c.self.inside.lifecycles.ops c.resolve.new.self.ops c.args.number c.args.flight c.args.outcome (ap (λ k. flight_at k.ops c.args.number) c.self.view_is ∙ c.requires) c.resolve.ensures.ops in
    let fits = c.self.invariant.fits in
    let idle = ap Rattle.std.specs.Prelude.length c.self.invariant.idle in
    let ok = c.self.inside.work.ok.0 in
    omega (arith, one, fits, idle, ok)

pub invariant_of-self : goal.invariant_of-self
invariant_of-self c =
    let one = len_out c.self.inside.lifecycles.ops c.resolve.new.self.ops c.args.number c.args.flight c.args.outcome (ap (λ k. flight_at k.ops c.args.number) c.self.view_is ∙ c.requires) c.resolve.ensures.ops in
    record {
      matched = c.end_hanging.ensures.matched;
      idle = c.end_hanging.ensures.idle;
      asked = asked_resolved c.self.inside.lifecycles.ops c.resolve.new.self.ops c.end_hanging.new.lifecycles.ops c.self.inside.steps.steps c.args.number c.args.flight c.args.outcome c.in_flight-in_flight.ensures.apart (ap (λ k. flight_at k.ops c.args.number) c.self.view_is ∙ c.requires) (c.end_hanging.ensures.ops ∙ ap (with_hanging_resolved c.args.number) c.resolve.ensures.ops) c.self.invariant.asked;
      fits =
          let fits = c.self.invariant.fits in
          let fewer = c.end_hanging.ensures.fewer in
          let capacity = c.end_hanging.ensures.capacity in
          omega (arith, one, fits, fewer, capacity);
    }

pub returns-clause-spare : goal.returns-clause-spare
returns-clause-spare c =
    let one = len_out c.self.inside.lifecycles.ops c.resolve.new.self.ops c.args.number c.args.flight c.args.outcome (ap (λ k. flight_at k.ops c.args.number) c.self.view_is ∙ c.requires) c.resolve.ensures.ops in
    let spare = ap (λ k. k.spare) c.self.view_is in
    let fewer = c.end_hanging.ensures.fewer in
    let capacity = c.end_hanging.ensures.capacity in
    let lifecycles = c.resolve.ensures.spare in
    let held_later = c.end_hanging.ensures.lifecycles_spare in
    let waiters = c.remove.ensures.spare in
    let waiters_later = c.end_hanging.ensures.waiters_spare in
    omega (arith, one, spare, fewer, capacity, lifecycles, held_later, waiters, waiters_later)

pub returns-clause-closed : goal.returns-clause-closed
returns-clause-closed c = λ n m next was.
    let x = c.end_hanging.ensures.closed n m next in
    still_flying c.self.inside.lifecycles.ops c.resolve.new.self.ops c.end_hanging.new.lifecycles.ops c.args.number m c.args.flight c.args.outcome c.resolve.ensures.ops x.0 x.1 (ap (λ k. is_some (flight_at k.ops m)) c.self.view_is ∙ was)
