use Rattle.std.proofs.Common.{subst, ◌∙◌}
use Rattle.uring_base.specs.Sizes.{rounded_up}
use Rattle.uring_model.specs.declared.jobs.RunFault.TheVariants as faults
use Rattle.run_loop.specs.Entries.{AllValid, AllInRange}
use Rattle.run_loop.proofs.Opened.{opened_calm, opened_holds}
use Rattle.run_loop.proofs.Says.{not_driven, not_stalled, says_fault}
use Rattle.run_loop.proofs.run.run_jobs.Goals as goal

pub returns-in_default-new-clause-run : goal.returns-in_default-new-clause-run
returns-in_default-new-clause-run g c = λ v.
    says_fault _ _ _ c.model_laws.ensures _ _ _ _ c.args.jobs.items (rounded_up c.args.sq) _ faults.NoMemory (subst AllValid c.deref.ensures.value c.in_default-first_bad_job.ensures.none) (subst AllInRange c.deref.ensures.value c.in_default-first_bad_job.ensures.in_range)
    (not_driven g.P.Partner.machine g.P.Partner.view g.P.Partner.Plain c.model_laws.ensures g.P.Partner.log g.P.Partner.state c.args.partner.now c.args.jobs.items (rounded_up c.args.sq) c.args.idle) tt (not_stalled _ _)

pub run_on-requires-clause-empty : goal.run_on-requires-clause-empty
run_on-requires-clause-empty g c = opened_calm c.in-Ok-new.ring _ _ _ c.in-Ok-new.ensures

pub run_on-requires-clause-holds : goal.run_on-requires-clause-holds
run_on-requires-clause-holds g c = opened_holds c.in-Ok-new.ring _ _ _ c.args.sq c.args.cq c.in-Ok-new.ensures (c.sq_entries-entries.ensures ∙ c.in-Ok.ensures.ok.1) (c.cq_entries-completions.ensures ∙ c.in-Ok.ensures.ok.2)
