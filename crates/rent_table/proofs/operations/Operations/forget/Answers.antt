use Rattle.std.proofs.Common.{ap, arith}
use Rattle.rent_table.proofs.Asked.{asked_dropped, forgotten_same}
use Rattle.rent_table.proofs.Matching.{matched_forgotten, len_forgotten}
use Rattle.rent_table.proofs.operations.Operations.forget.Goals as goal

pub invariant_of-self : goal.invariant_of-self
invariant_of-self c =
    let i = c.self.invariant in
    record {
      matched = matched_forgotten c.self.inside.lifecycles.ops c.forget-2.new.self.ops c.self.inside.waiters.next c.args.number i.matched c.forget-2.ensures.ops;
      idle = i.idle;
      asked = asked_dropped c.self.inside.lifecycles.ops c.forget-2.new.self.ops c.self.inside.steps.steps c.forget.new.self.steps c.args.number (λ q. forgotten_same c.self.inside.lifecycles.ops c.forget-2.new.self.ops c.args.number q c.forget-2.ensures.ops) c.forget.ensures.steps i.asked;
      fits =
          let same = len_forgotten c.self.inside.lifecycles.ops c.forget-2.new.self.ops c.args.number c.forget-2.ensures.ops in
          let fits = i.fits in
          omega (arith, same, fits);
    }

pub returns-clause-spare : goal.returns-clause-spare
returns-clause-spare c =
    let same = len_forgotten c.self.inside.lifecycles.ops c.forget-2.new.self.ops c.args.number c.forget-2.ensures.ops in
    let spare = ap (λ k. k.spare) c.self.view_is in
    let more = c.forget-2.ensures.spare in
    omega (arith, same, spare, more)
