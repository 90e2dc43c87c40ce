use Rattle.std.proofs.Common.{◌∙◌, sym}
use Rattle.run_loop.proofs.EntryLemmas.{none_bad, past_end, bad_step, bad_found, range_step, range_end}
use Rattle.run_loop.proofs.entries.first_bad_job.Goals as goal

pub returns-then-not-is_valid-clause-first : goal.returns-then-not-is_valid-clause-first
returns-then-not-is_valid-clause-first c =
    sym (c.loop-place.invariant.0 ∙ bad_found c.args.jobs.now c.loop-place.place c.index-jobs-place.result c.loop-place-test.true c.index-jobs-place.is (sym c.is_valid.ensures ∙ c.if-not-is_valid.true))

pub loop-place-preserved : goal.loop-place-preserved
loop-place-preserved c =
    let s = c.loop-place.invariant in (
      s.0 ∙ bad_step c.args.jobs.now c.loop-place.place c.index-jobs-place.result c.loop-place-test.true c.index-jobs-place.is (sym c.is_valid.ensures ∙ c.if-not-is_valid.false),
      range_step c.args.jobs.now c.loop-place.place c.index-jobs-place.result c.index-jobs-place.is c.keep_range.ensures s.1,
    )

pub returns-clause-first : goal.returns-clause-first
returns-clause-first c = sym (c.loop-place.invariant.0 ∙ past_end c.loop-place.place c.loop-place.place c.args.jobs.now c.loop-place-test.false)

pub returns-clause-none : goal.returns-clause-none
returns-clause-none c = none_bad 0 c.args.jobs.now (c.loop-place.invariant.0 ∙ past_end c.loop-place.place c.loop-place.place c.args.jobs.now c.loop-place-test.false)

pub returns-clause-in_range : goal.returns-clause-in_range
returns-clause-in_range c = range_end c.args.jobs.now c.loop-place.place c.loop-place-test.false c.loop-place.invariant.1
