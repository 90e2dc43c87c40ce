use Rattle.std.proofs.Common.{sym, ap, ◌∙◌}
use Rattle.run_loop.proofs.SlotLemmas.{count_of_open_slots}
use Rattle.run_loop.specs.Slots.{count_open}
use Rattle.run_loop.proofs.job_table.JobTable.new.Goals as goal

pub invariant_of-result-clause-counted : goal.invariant_of-result-clause-counted
invariant_of-result-clause-counted c = sym (ap count_open c.in_ok-all_open.ensures ∙ count_of_open_slots c.args.jobs.now)
