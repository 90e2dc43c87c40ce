use Rattle.std.proofs.Common.{◌∙◌}
use Rattle.job_generator.proofs.Listed.{one_more}
use Rattle.job_generator.proofs.jobs.generate.Goals as goal

pub loop-place-preserved : goal.loop-place-preserved
loop-place-preserved c =
    c.loop-place.invariant ∙ one_more c.loop-place.place c.loop-place.x _ c.args.count c.in_ok-job.field-0 _ _ c.loop-place-test.true c.next-x.ensures c.in_ok-job.ensures c.in_ok-push.ensures.items
