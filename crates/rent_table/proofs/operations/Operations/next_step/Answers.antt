use Rattle.rent_table.proofs.Asked.{asked_next}
use Rattle.rent_table.proofs.operations.Operations.next_step.Goals as goal

pub invariant_of-self : goal.invariant_of-self
invariant_of-self c =
    let i = c.self.invariant in
    record {
      matched = i.matched;
      idle = i.idle;
      fits = i.fits;
      asked = asked_next c.self.inside.lifecycles.ops c.self.inside.steps.steps c.next.new.self.steps c.args.number c.next.ensures.steps i.asked;
    }
