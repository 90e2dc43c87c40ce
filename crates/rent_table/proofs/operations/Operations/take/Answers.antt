use Rattle.std.proofs.Common.{ap, sym, ◌∙◌, arith}
use Rattle.std.specs.FinMap.{len}
use Rattle.rent_table.specs.Ops.{next_at}
use Rattle.rent_table.proofs.Asked.{asked_dropped, taken_same}
use Rattle.rent_table.proofs.operations.Operations.take.Goals as goal

pub invariant_of-self : goal.invariant_of-self
invariant_of-self c =
    let i = c.self.invariant in
    record {
      matched = λ q. i.matched q ∙ ap (λ o. next_at o q) (sym c.take.ensures.ops);
      idle = i.idle;
      fits = let same = ap (λ o. len o.in_flight) c.take.ensures.ops in let fits = i.fits in omega (arith, same, fits);
      asked = asked_dropped c.self.inside.lifecycles.ops c.take.new.self.ops c.self.inside.steps.steps c.forget.new.self.steps c.args.number (λ q. taken_same c.self.inside.lifecycles.ops c.take.new.self.ops c.args.number q c.take.ensures.ops) c.forget.ensures.steps i.asked;
    }
