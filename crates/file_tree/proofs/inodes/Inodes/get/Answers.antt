use Rattle.std.proofs.Common.{sym, ap, ◌∙◌}
use Rattle.std.specs.Cmp.{nat_cmp_total}
use Rattle.std.specs.FinMap as map
use Rattle.file_tree.proofs.Keys.{get_at}
use Rattle.file_tree.proofs.inodes.Inodes.get.Goals as goal

pub returns : goal.returns
returns c = c.copied.ensures ∙ c.get.ensures.value ∙ sym (get_at nat_cmp_total map.nat_cmp-IsAntisymmetric c.self.inside.by_number.entries c.args.number) ∙ ap (λ m. map.get m c.args.number) c.self.view_is
