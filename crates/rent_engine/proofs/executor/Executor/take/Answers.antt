use Rattle.std.proofs.Common.{◌≤◌, ◌==◌, sym, ap, ◌∙◌, subst}
use Rattle.std.specs.FinMap.{get}
use Rattle.std.specs.List.{list_any}
use Rattle.rent_engine.specs.Executor.{output_taken}
use Rattle.rent_engine.proofs.Executors.{output-at, outputs-removed, sound_taken, unfinished_has_none}
use Rattle.rent_engine.proofs.executor.Executor.take.Goals as goal

pub invariant_of-self : goal.invariant_of-self
invariant_of-self g c = sound_taken _ _ _ c.args.id (outputs-removed c.self.inside.outputs.entries c.remove.new.self.entries c.args.id c.remove.ensures.updates.0) c.self.invariant

pub returns-clause-value : goal.returns-clause-value
returns-clause-value g c = c.remove.ensures.value ∙ sym (output-at c.self.inside.outputs.entries c.args.id) ∙ ap (λ t. get t.outputs c.args.id) c.self.view_is

pub returns-clause-taken : goal.returns-clause-taken
returns-clause-taken g c =
    (λ i. record { next = c.self.inside.next; unfinished = c.self.inside.unfinished.items; outputs = outputs-removed c.self.inside.outputs.entries c.remove.new.self.entries c.args.id c.remove.ensures.updates.0 i })
    ∙ ap (output_taken c.args.id) c.self.view_is

pub returns-clause-never_given : goal.returns-clause-never_given
returns-clause-never_given g c = λ le.
    c.remove.ensures.value ∙ sym (output-at c.self.inside.outputs.entries c.args.id)
    ∙ c.self.invariant.to_come c.args.id (subst (λ n. n ≤ c.args.id) (ap (λ t. t.next) (sym c.self.view_is)) le)

pub returns-clause-unfinished : goal.returns-clause-unfinished
returns-clause-unfinished g c = λ is.
    c.remove.ensures.value ∙ sym (output-at c.self.inside.outputs.entries c.args.id)
    ∙ unfinished_has_none _ _ 0 c.args.id c.self.inside.unfinished.items c.self.invariant.ordered (ap (λ t. list_any (λ x. x.0 == c.args.id) t.unfinished) c.self.view_is ∙ is)
