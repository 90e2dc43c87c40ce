use Rattle.std.proofs.Common.{sym, ap, ◌∙◌}
use Rattle.rent_table.specs.Ops.{knows}
use Rattle.rent_table.proofs.Parts.{knows-at}
use Rattle.rent_table.proofs.lifecycles.Lifecycles.least_unknown.Goals as goal

pub returns-clause-free : goal.returns-clause-free
returns-clause-free c =
    let number = c.least_absent.result in
    ap (λ k. knows k.ops number) (sym c.self.view_is) ∙ sym (knows-at c.self.inside.places.entries number) ∙ c.least_absent.ensures.absent

pub returns-clause-least : goal.returns-clause-least
returns-clause-least c = λ n lt. ap (λ k. knows k.ops n) (sym c.self.view_is) ∙ sym (knows-at c.self.inside.places.entries n) ∙ c.least_absent.ensures.least n lt
