use Rattle.std.proofs.Common.{◌≡◌, ◌+◌, ◌++◌, ◌∷◌, [], ap, sym, ◌∙◌, arith, length, length-append, unwrap_or}
use Rattle.std.specs.FinMap.{get, insert}
use Rattle.rent_table.specs.Lists.{list_at, with_list}
use Rattle.rent_table.proofs.Listed.{one_more, absent_out, below_out, below_put, below_was}
use Rattle.rent_table.proofs.step_queues.StepQueues.keep.Goals.{in-Some, in-None}
use Rattle.rent_table.proofs.step_queues.StepQueues.keep.Goals as goal

pub insert-requires-clause-absent : goal.insert-requires-clause-absent
insert-requires-clause-absent c = absent_out c.self.inside.queues.entries c.remove.new.self.entries c.args.step.number c.remove.ensures.entries

pub invariant_of-self : goal.invariant_of-self
invariant_of-self c =
    let m = c.self.inside.queues.entries in
    let n = c.args.step.number in
    let kept = c.self.inside.kept in
    let is : c.match-remove.queue ≡ unwrap_or (get m n) [] = elim c.match-remove.branch [
      | in-Some w ↦ w.queue-is ∙ sym (ap (λ o. unwrap_or o []) (sym c.remove.ensures.value ∙ w.in-Some.is))
      | in-None w ↦ w.queue-is ∙ w.new-queue.ensures ∙ sym (ap (λ o. unwrap_or o []) (sym c.remove.ensures.value ∙ w.in-None.is))
    ] in
    let few = below_was m n kept c.match-remove.queue is c.self.invariant.queue in
    let longer = ap length (c.in-Ok.ensures.items ∙ ap (λ r. c.match-remove.queue ++ r) c.fill.ensures) ∙ length-append c.match-remove.queue (c.args.step ∷ []) in
    record {
      queue = below_put c.remove.new.self.entries c.insert.new.self.entries n kept (kept + 1) c.append.new.self (omega arith) (omega (arith, few, longer)) c.insert.ensures.entries (below_out m c.remove.new.self.entries n kept c.remove.ensures.entries c.self.invariant.queue);
      ready_one = let none = ap length c.in-Ok.ensures.other_items in omega (arith, none);
    }

pub returns : goal.returns
returns c =
    let m = c.self.inside.queues.entries in
    let n = c.args.step.number in
    let is : c.match-remove.queue ≡ unwrap_or (get m n) [] = elim c.match-remove.branch [
      | in-Some w ↦ w.queue-is ∙ sym (ap (λ o. unwrap_or o []) (sym c.remove.ensures.value ∙ w.in-Some.is))
      | in-None w ↦ w.queue-is ∙ w.new-queue.ensures ∙ sym (ap (λ o. unwrap_or o []) (sym c.remove.ensures.value ∙ w.in-None.is))
    ] in
    one_more m c.insert.new.self.entries n c.args.step c.match-remove.queue c.append.new.self is (c.in-Ok.ensures.items ∙ ap (λ r. c.match-remove.queue ++ r) c.fill.ensures) (c.insert.ensures.entries ∙ ap (λ x. insert x n c.append.new.self) c.remove.ensures.entries)
    ∙ ap (λ q. with_list n (list_at q.steps n ++ c.args.step ∷ []) q.steps) c.self.view_is
