use Rattle.std.proofs.Common.{◌≡◌, None, IfSome, ap, subst, ◌∙◌}
use Rattle.std.specs.Cmp.{nat_cmp_total}
use Rattle.std.specs.FinMap.{nat_cmp-IsAntisymmetric, get, insert, remove}
use Rattle.file_tree.proofs.Keys.{put_out}
use Rattle.file_tree.proofs.opening.create_file.Goals as goal

-- the file that was put under a number without one is taken out again
pub returns-in-Err-clause-err : goal.returns-in-Err-clause-err
returns-in-Err-clause-err c =
    let free : get c.args.files.now c.in-Some.number ≡ None = subst (λ o. IfSome o (λ n. get c.args.files.now n ≡ None)) c.in-Some.is c.least_free.ensures.free in
    let put = c.in_ok-put.ensures.ok ∙ ap (λ m. insert m c.in-Some.number c.new.result) c.least_free.ensures.stays in
    (c.remove.ensures ∙ ap (λ m. remove m c.in-Some.number) put ∙ put_out nat_cmp_total nat_cmp-IsAntisymmetric _ c.in-Some.number c.new.result free, c.in-Err.ensures.err)
