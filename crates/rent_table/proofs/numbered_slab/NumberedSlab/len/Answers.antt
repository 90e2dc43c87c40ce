use Rattle.std.proofs.Common.{sym, ap, ◌∙◌}
use Rattle.std.specs.FinMap.{len}
use Rattle.rent_table.proofs.Indexed.{len-picked}
use Rattle.rent_table.proofs.numbered_slab.NumberedSlab.len.Goals as goal

pub returns : goal.returns
returns g c = c.len.ensures.len ∙ sym (len-picked c.self.inside.index.entries c.self.inside.places c.len.ensures.unique c.self.invariant.taken) ∙ ap (λ t. len t.entries) c.self.view_is
