use Rattle.std.proofs.Common.{arith}
use Rattle.run_loop.proofs.SlotLemmas.{count_of_done}
use Rattle.run_loop.proofs.job_table.JobTable.finish.Goals as goal

pub overflow_sub-self : goal.overflow_sub-self
overflow_sub-self c = omega (arith, count_of_done c.args.self.now.slots.items c.args.place c.requires.0 c.requires.1 c.args.outcome c.requires.2, c.args.self.now.counted)

pub invariant_of-self-clause-counted : goal.invariant_of-self-clause-counted
invariant_of-self-clause-counted c = omega (arith, count_of_done c.args.self.now.slots.items c.args.place c.requires.0 c.requires.1 c.args.outcome c.requires.2, c.args.self.now.counted)
