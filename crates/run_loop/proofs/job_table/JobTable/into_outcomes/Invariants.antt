use Rattle.std.proofs.Common.{◌≡◌, ◌++◌, map}
use Rattle.std.specs.VecDeque.{deque_len}
use Rattle.run_loop.specs.declared.slot.Slot.TheVariants.{Done}
use Rattle.run_loop.specs.Slots.{count_open}
use Rattle.run_loop.proofs.job_table.JobTable.into_outcomes.Given as goal

-- the outcomes so far and the slots left are the slots
abbrev pub invariant-loop-slot : goal.invariant-loop-slot
invariant-loop-slot l = (map (λ o. Done o) l.outcomes.items ++ l.left.items ≡ l.fn.self.slots.items) × (count_open l.left.items ≡ 0)

abbrev pub decreases-loop-slot : goal.decreases-loop-slot
decreases-loop-slot l = deque_len l.left
