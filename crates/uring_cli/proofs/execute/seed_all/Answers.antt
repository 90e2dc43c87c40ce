use Rattle.std.proofs.lemmas.Result.{err_from_is_err_and}
use Rattle.uring_cli.proofs.Seeding.{some_files, some_choices, on_refusal}
use Rattle.uring_cli.proofs.execute.seed_all.Goals as goal

pub returns-in_err-seed_files-clause-err : goal.returns-in_err-seed_files-clause-err
returns-in_err-seed_files-clause-err g c =
    let p = err_from_is_err_and c.from_residual.result c.from_residual.ensures.1 in
    rw p.1 (some_files _ _ _ _ _ _ _ _ c.in_err-seed_files.ensures.err)

pub returns-clause-err : goal.returns-clause-err
returns-clause-err g c =
    on_refusal c.seed_choices.result _ _ (λ part. some_choices _ _ _ _ _ _ _ c.seed_files.new.partner _ c.in_ok-seed_files.ensures.ok part) c.seed_choices.ensures.err
