use Rattle.std.proofs.Common.{◌≡◌, true, false, IsSome, sym, ap, subst, ◌∙◌}
use Rattle.std.specs.Cmp.{nat_cmp_total}
use Rattle.std.specs.FinMap as map
use Rattle.file_tree.proofs.Keys.{get_at, one_put}
use Rattle.file_tree.proofs.inodes.Inodes.put.Goals as goal

pub returns-in_err-insert-clause-replaces : goal.returns-in_err-insert-clause-replaces
returns-in_err-insert-clause-replaces c = λ h. let k : false ≡ true = subst IsSome (sym (ap (λ m. map.get m c.args.number) c.self.view_is) ∙ get_at nat_cmp_total map.nat_cmp-IsAntisymmetric c.self.inside.by_number.entries c.args.number ∙ c.in_err-insert.ensures.absent) h in cc

pub returns-clause-ok : goal.returns-clause-ok
returns-clause-ok c = one_put nat_cmp_total map.nat_cmp-IsAntisymmetric c.self.inside.by_number.entries c.insert.new.self.entries c.args.number c.args.inode c.in_ok-insert.ensures.updates.0 ∙ ap (λ m. map.insert m c.args.number c.args.inode) c.self.view_is
