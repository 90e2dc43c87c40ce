use Rattle.std.proofs.Common.{[], ◌∷◌, ◌++◌, sym, ◌∙◌}
use Rattle.rent_table.specs.Lists.{list_at}
use Rattle.rent_table.proofs.Asked.{asked_kept}
use Rattle.rent_table.proofs.operations.Operations.keep_step.Goals as goal

pub invariant_of-self : goal.invariant_of-self
invariant_of-self c =
    let i = c.self.invariant in
    let steps = c.self.inside.steps.steps in
    let n = c.args.step.number in
    record {
      matched = i.matched;
      idle = i.idle;
      fits = i.fits;
      asked = asked_kept c.self.inside.lifecycles.ops steps c.keep.new.self.steps n (list_at steps n ++ c.args.step ∷ []) (sym c.keeps_steps.ensures ∙ c.if-keeps_steps.true) c.keep.ensures i.asked;
    }
