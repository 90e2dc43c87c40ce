use Rattle.std.proofs.Common.{◌≡◌, drop}
use Rattle.uring_model.specs.Replay.{drains_done}
use Rattle.uring_model.specs.Rows.{rows_in}
use Rattle.uring_model.proofs.rows.drains_done.Given as goal

abbrev pub invariant-loop-row : goal.invariant-loop-row
invariant-loop-row l = drains_done (rows_in (drop l.row-index l.rows)) ≡ drains_done (rows_in l.rows)
