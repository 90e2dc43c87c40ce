use Rattle.std.proofs.Common.{◌≡◌, drop}
use Rattle.uring_model.specs.Jobs.{model_jobs}
use Rattle.uring_model.specs.Replay.{replay, replay_from}
use Rattle.uring_model.specs.Rows.{state_in, AreCounted}
use Rattle.uring_model.proofs.replayed.replay.Given as goal

abbrev pub invariant-loop-event : goal.invariant-loop-event
invariant-loop-event l = record {
  counts : AreCounted l.replayed;
  rest : replay_from (drop l.event-index l.journal) (state_in l.replayed) ≡ replay (model_jobs l.fn.jobs.items) l.fn.files l.journal;
}
