use Rattle.std.proofs.Common.{inr, Ok, ap, sym, subst, ◌∙◌}
use Rattle.std.proofs.lemmas.Result.{err_from_is_err_and}
use Rattle.uring_text.specs.Script.{told_by}
use Rattle.uring_text.specs.Status.{status_of}
use Rattle.uring_cli.specs.Runs.{FailedRun}
use Rattle.uring_cli.proofs.Executing.{executed, failed}
use Rattle.uring_cli.proofs.execute.execute.Goals as goal

pub returns-in_err-report-clause-err : goal.returns-in_err-report-clause-err
returns-in_err-report-clause-err g c =
    let run = c.in_err-report.ensures in
    let p = err_from_is_err_and c.from_residual.result c.from_residual.ensures.1 in
    rw p.1 (subst (λ s. FailedRun g.P.Partner.machine g.P.Partner.view g.P.Partner.Plain g.P.Partner.put g.P.Partner.log g.P.Partner.state g.P.Partner.plan (told_by c.args.script) c.args.options c.args.partner.now c.run_jobs.new.partner s) (sym p.2)
    (failed g.P.Partner.machine g.P.Partner.view g.P.Partner.Plain g.P.Partner.put g.P.Partner.log g.P.Partner.state g.P.Partner.plan (told_by c.args.script) c.args.options _ c.seed_all.new.partner _ c.in_err-report.field-0.0 c.in_default.ensures.ok run.refused run.run))

pub returns-in_err-report_text-clause-err : goal.returns-in_err-report_text-clause-err
returns-in_err-report_text-clause-err g c =
    let run = c.in_ok-report.ensures in
    let p = err_from_is_err_and c.from_residual-in_err-report_text.result c.from_residual-in_err-report_text.ensures.1 in
    rw p.1 (subst (λ s. FailedRun g.P.Partner.machine g.P.Partner.view g.P.Partner.Plain g.P.Partner.put g.P.Partner.log g.P.Partner.state g.P.Partner.plan (told_by c.args.script) c.args.options c.args.partner.now c.run_jobs.new.partner s)
    (sym (p.2 ∙ ap status_of c.in_err-report_text.ensures))
    (inr (
      Ok c.in_ok-report.report,
      executed g.P.Partner.machine g.P.Partner.view g.P.Partner.Plain g.P.Partner.put g.P.Partner.log g.P.Partner.state g.P.Partner.plan (told_by c.args.script) c.args.options _ c.seed_all.new.partner _ c.in_ok-report.report c.in_default.ensures.ok run.refused run.run,
    )))

pub returns-clause-ok : goal.returns-clause-ok
returns-clause-ok g c =
    let run = c.in_ok-report.ensures in (
      c.in_ok-report.report,
      c.in_ok-report_text.ensures,
      executed g.P.Partner.machine g.P.Partner.view g.P.Partner.Plain g.P.Partner.put g.P.Partner.log g.P.Partner.state g.P.Partner.plan (told_by c.args.script) c.args.options _ c.seed_all.new.partner _ c.in_ok-report.report c.in_default.ensures.ok run.refused run.run,
    )
