use Rattle.std.proofs.Common.{◌≡◌, drop, false}
use Rattle.uring_model.specs.Replay.{waits}
use Rattle.uring_model.specs.Rows.{rows_in}
use Rattle.uring_model.proofs.rows.waits.Given as goal

abbrev pub invariant-loop-row : goal.invariant-loop-row
invariant-loop-row l = waits l.held (rows_in (drop l.row-index l.rows)) ≡ waits false (rows_in l.rows)
