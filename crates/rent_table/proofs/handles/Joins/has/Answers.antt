use Rattle.std.proofs.Common.{◌||◌, ap, sym, ◌∙◌, ne_eqb}
use Rattle.rent_table.specs.JoinedHandles.{handles_in}
use Rattle.rent_table.specs.Lists.{has}
use Rattle.rent_table.proofs.Members.{has_that}
use Rattle.rent_table.proofs.handles.Joins.has.Goals as goal

pub returns-else-handle-handles : goal.returns-else-handle-handles
returns-else-handle-handles c =
    let handle = c.args.handle in
    c.contains.ensures.value ∙ sym (has_that handle c.deref.result.now) ∙ ap (has handle) c.deref.ensures.value
    ∙ sym (ap (λ b. b || has handle c.in-Some.handles.more.items) (ne_eqb handle c.in-Some.handles.first c.if-handle-handles.false))
    ∙ ap (λ o. has handle (handles_in o)) (sym c.in-Some.is) ∙ ap (has handle) c.self.view_is
