use Rattle.std.proofs.Common.{◌≡◌, drop, false}
use Rattle.uring_model.specs.Replay.{severed}
use Rattle.uring_model.specs.Rows.{rows_in}
use Rattle.uring_model.proofs.rows.is_severed.Given as goal

abbrev pub invariant-loop-row : goal.invariant-loop-row
invariant-loop-row l = severed l.cut (rows_in (drop l.row-index l.rows)) ≡ severed false (rows_in l.rows)
