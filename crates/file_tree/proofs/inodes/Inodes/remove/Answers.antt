use Rattle.std.proofs.Common.{ap, ◌∙◌}
use Rattle.std.specs.Cmp.{nat_cmp_total}
use Rattle.std.specs.FinMap as map
use Rattle.file_tree.proofs.Keys.{one_gone}
use Rattle.file_tree.proofs.inodes.Inodes.remove.Goals as goal

pub returns : goal.returns
returns c = one_gone nat_cmp_total map.nat_cmp-IsAntisymmetric c.self.inside.by_number.entries c.remove-inode.new.self.entries c.args.number c.remove-inode.ensures.updates.0 ∙ ap (λ m. map.remove m c.args.number) c.self.view_is
