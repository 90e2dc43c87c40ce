use Rattle.std.proofs.Common.{ap, ◌∙◌}
use Rattle.std.specs.FinMap.{remove}
use Rattle.rent_table.specs.Steps.{steps_of}
use Rattle.rent_table.proofs.Listed.{lists-out, below_out}
use Rattle.rent_table.proofs.step_queues.StepQueues.forget.Goals as goal

pub invariant_of-self : goal.invariant_of-self
invariant_of-self c = record {
  queue = below_out c.self.inside.queues.entries c.remove.new.self.entries c.args.number c.self.inside.kept c.remove.ensures.entries c.self.invariant.queue;
  ready_one = c.self.invariant.ready_one;
}

pub returns-clause-steps : goal.returns-clause-steps
returns-clause-steps c = ap steps_of c.remove.ensures.entries ∙ lists-out c.self.inside.queues.entries c.args.number ∙ ap (λ q. remove q.steps c.args.number) c.self.view_is
