use Rattle.std.proofs.Common.{inr, Ok, ap, sym, subst, ◌∙◌}
use Rattle.uring_text.specs.Script.{told_by}
use Rattle.uring_text.specs.Status.{status_of}
use Rattle.uring_cli.specs.SharedEnds.{SharedFailed}
use Rattle.uring_cli.proofs.SharedEnding.{executed_of, failed_of, some_then}
use Rattle.uring_cli.proofs.shared_call.execute_shared.Goals as goal

pub returns-in-Ok-report_text-clause-ok : goal.returns-in-Ok-report_text-clause-ok
returns-in-Ok-report_text-clause-ok g c =
    let run = c.run_shared-result.ensures in
    some_then c.run_shared-result.result.1 _ _ (λ after x. (c.in-Ok.report, c.in-Ok-report_text.ensures, x))
    (executed_of g.P.Partner.machine g.P.Partner.view g.P.Partner.Plain g.P.Partner.put g.P.Partner.log g.P.Partner.state g.P.Partner.plan (told_by c.args.script) c.args.options c.args.partner c.seed_all.new.partner c.run_shared-result.result c.in-Ok.report c.in_default.ensures.ok run.refused run.run c.in-Ok.is)

-- there is no memory for the report's text
pub returns-in-Ok-clause-err : goal.returns-in-Ok-clause-err
returns-in-Ok-clause-err g c =
    let run = c.run_shared-result.ensures in
    some_then c.run_shared-result.result.1 _ _
    (λ after x. subst (λ s. SharedFailed g.P.Partner.machine g.P.Partner.view g.P.Partner.Plain g.P.Partner.put g.P.Partner.log g.P.Partner.state g.P.Partner.plan (told_by c.args.script) c.args.options c.args.partner after s) (sym (c.from.ensures ∙ ap status_of c.in-Err-report_text.ensures)) (inr (Ok c.in-Ok.report, x)))
    (executed_of g.P.Partner.machine g.P.Partner.view g.P.Partner.Plain g.P.Partner.put g.P.Partner.log g.P.Partner.state g.P.Partner.plan (told_by c.args.script) c.args.options c.args.partner c.seed_all.new.partner c.run_shared-result.result c.in-Ok.report c.in_default.ensures.ok run.refused run.run c.in-Ok.is)

pub returns-clause-err : goal.returns-clause-err
returns-clause-err g c =
    let run = c.run_shared-result.ensures in
    some_then c.run_shared-result.result.1 _ _
    (λ after x. subst (λ s. SharedFailed g.P.Partner.machine g.P.Partner.view g.P.Partner.Plain g.P.Partner.put g.P.Partner.log g.P.Partner.state g.P.Partner.plan (told_by c.args.script) c.args.options c.args.partner after s) (sym c.from-in-Err-result.ensures) x)
    (failed_of g.P.Partner.machine g.P.Partner.view g.P.Partner.Plain g.P.Partner.put g.P.Partner.log g.P.Partner.state g.P.Partner.plan (told_by c.args.script) c.args.options c.args.partner c.seed_all.new.partner c.run_shared-result.result c.in-Err-result.fault c.in_default.ensures.ok run.refused run.run c.in-Err-result.is)
