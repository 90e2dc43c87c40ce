use Rattle.std.proofs.Common.{[], ap, ◌∙◌}
use Rattle.std.proofs.lemmas.Result.{err_from_is_err_and}
use Rattle.uring_cli.specs.Generated.{summary_told}
use Rattle.uring_cli.proofs.Generating.{valid_run, lacking, ran, state_is, log_is, rests}
use Rattle.uring_cli.proofs.generated.run_generated.Goals as goal

pub returns-in_err-report-clause-err : goal.returns-in_err-report-clause-err
returns-in_err-report-clause-err c =
    let run = c.in_err-report.ensures in
    let p = err_from_is_err_and c.from_residual.result c.from_residual.ensures.1 in
    rw p.1 (p.2 ∙ lacking c.in_err-report.field-0.0 c.put_empty_files.new.partner c.run_jobs.new.partner c.in-Ok-generate.jobs.items _ _
    (rests c.put_empty_files.new.partner c.in-Ok.ensures.ok)
    (run.run (valid_run c.jobs_are_valid.ensures c.args.count c.in-Ok-generate.jobs.items c.in-Ok-generate.ensures))
    (run.unplanned (c.in-Ok.ensures.plan ∙ c.requires.plan)))

pub returns-in-Ok-summary_text-clause-ok : goal.returns-in-Ok-summary_text-clause-ok
returns-in-Ok-summary_text-clause-ok c =
    let run = c.in_ok-report.ensures in
    ran c.runs_go_in_groups.ensures.order c.jobs_are_valid.ensures c.args.count c.in-Ok-generate.jobs.items c.put_empty_files.new.partner c.run_jobs.new.partner c.in_ok-report.report c.in-Ok-summary_text.text
    c.in-Ok-generate.ensures
    (state_is c.put_empty_files.new.partner _ c.in-Ok.ensures.ok)
    (log_is c.put_empty_files.new.partner [] (c.in-Ok.ensures.log ∙ c.requires.log))
    run.turns
    (run.run (valid_run c.jobs_are_valid.ensures c.args.count c.in-Ok-generate.jobs.items c.in-Ok-generate.ensures))
    (c.in-Ok-summary_text.ensures ∙ ap (summary_told c.args.count c.in_ok-report.report) c.all_bytes.ensures)
