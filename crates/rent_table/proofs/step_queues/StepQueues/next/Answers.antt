use Rattle.std.proofs.Common.{ap, sym, ◌∙◌, arith, is_some, cond, drop, slice_get, length, length-drop}
use Rattle.std.specs.FinMap.{get, insert}
use Rattle.rent_table.specs.Lists.{list_at, with_list}
use Rattle.rent_table.proofs.Listed.{first_out, nothing_first, no_first, is_first, below_put, below_exchanged, still_there}
use Rattle.rent_table.proofs.step_queues.StepQueues.next.Goals as goal

pub replace-requires : goal.replace-requires
replace-requires c = still_there c.self.inside.queues.entries c.exchange.new.self.entries c.args.number c.in-Some.queue (sym c.in-Some.ensures.value) (c.exchange.ensures.entries ∙ ap (λ xs. cond (is_some (get c.self.inside.queues.entries c.args.number)) (insert c.self.inside.queues.entries c.args.number xs) c.self.inside.queues.entries) c.new.ensures)

pub invariant_of-self-in-Some : goal.invariant_of-self-in-Some
invariant_of-self-in-Some c =
    let m = c.self.inside.queues.entries in
    let few = c.self.invariant.queue c.args.number c.in-Some.queue (sym c.in-Some.ensures.value) in
    let rest = ap length c.pop_front-step.ensures.rest ∙ length-drop 1 c.in-Some.queue in
    record {
      queue = below_put c.exchange.new.self.entries c.replace.new.self.entries c.args.number c.self.inside.kept c.self.inside.kept c.pop_front-step.new.self (omega arith) (omega (arith, few, rest)) c.replace.ensures.entries
          (below_exchanged m c.exchange.new.self.entries c.args.number c.self.inside.kept c.in-Some.queue (sym c.in-Some.ensures.value) (c.exchange.ensures.entries ∙ ap (λ xs. cond (is_some (get c.self.inside.queues.entries c.args.number)) (insert c.self.inside.queues.entries c.args.number xs) c.self.inside.queues.entries) c.new.ensures) c.self.invariant.queue);
      ready_one = c.self.invariant.ready_one;
    }

pub returns-in-None-clause-value : goal.returns-in-None-clause-value
returns-in-None-clause-value c = no_first c.self.inside.queues.entries c.args.number (sym c.in-None.ensures.value) ∙ ap (λ q. slice_get (list_at q.steps c.args.number) 0) c.self.view_is

pub returns-in-None-clause-steps : goal.returns-in-None-clause-steps
returns-in-None-clause-steps c = nothing_first c.self.inside.queues.entries c.exchange.new.self.entries c.args.number (sym c.in-None.ensures.value) (c.exchange.ensures.entries ∙ ap (λ xs. cond (is_some (get c.self.inside.queues.entries c.args.number)) (insert c.self.inside.queues.entries c.args.number xs) c.self.inside.queues.entries) c.new.ensures) ∙ ap (λ q. with_list c.args.number (drop 1 (list_at q.steps c.args.number)) q.steps) c.self.view_is

pub returns-in-Some-clause-value : goal.returns-in-Some-clause-value
returns-in-Some-clause-value c = is_first c.self.inside.queues.entries c.args.number c.pop_front-step.result c.in-Some.queue c.pop_front-step.new.self (sym c.in-Some.ensures.value) c.pop_front-step.ensures.items c.pop_front-step.ensures.cases ∙ ap (λ q. slice_get (list_at q.steps c.args.number) 0) c.self.view_is

pub returns-in-Some-clause-steps : goal.returns-in-Some-clause-steps
returns-in-Some-clause-steps c = first_out c.self.inside.queues.entries c.exchange.new.self.entries c.replace.new.self.entries c.args.number c.in-Some.queue c.pop_front-step.new.self (sym c.in-Some.ensures.value) (c.exchange.ensures.entries ∙ ap (λ xs. cond (is_some (get c.self.inside.queues.entries c.args.number)) (insert c.self.inside.queues.entries c.args.number xs) c.self.inside.queues.entries) c.new.ensures) c.pop_front-step.ensures.rest c.replace.ensures.entries ∙ ap (λ q. with_list c.args.number (drop 1 (list_at q.steps c.args.number)) q.steps) c.self.view_is
