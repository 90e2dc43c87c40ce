use Rattle.std.proofs.Common.{◌≡◌, ◌++◌}
use Rattle.std.specs.VecDeque.{deque_len}
use Rattle.uring_model.specs.Rows.{rows_in, outcomes_told}
use Rattle.uring_model.proofs.replayed.Replayed.into_outcomes.Given as goal

abbrev pub invariant-loop-row : goal.invariant-loop-row
invariant-loop-row l = l.outcomes.items ++ outcomes_told (rows_in l.rows.items) ≡ outcomes_told (rows_in l.fn.self.rows.items)

abbrev pub decreases-loop-row : goal.decreases-loop-row
decreases-loop-row l = deque_len l.rows
