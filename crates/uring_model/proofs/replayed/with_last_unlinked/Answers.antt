use Rattle.std.proofs.Common.{◌-◌, arith}
use Rattle.uring_model.proofs.Replaying.{unlinked}
use Rattle.uring_model.proofs.replayed.with_last_unlinked.Goals as goal

pub returns-then-count-gt0-clause-jobs : goal.returns-then-count-gt0-clause-jobs
returns-then-count-gt0-clause-jobs c = unlinked c.args.jobs.items (c.len-count.result - 1) c.index_mut.result.now (omega arith) c.index_mut.ensures.value
