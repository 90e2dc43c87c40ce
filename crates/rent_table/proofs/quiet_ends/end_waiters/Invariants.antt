use Rattle.std.proofs.Common.{◌≡◌, ◌≤◌, ◌+◌, ℕ, ◌∷◌}
use Rattle.std.specs.Vec.{vec_len, vec_capacity}
use Rattle.std.specs.FinMap.{len}
use Rattle.rent_table.specs.Ops.{Ops}
use Rattle.rent_table.specs.QuietEnds.{QuietlyEnding, AreMatched}
use Rattle.rent_table.proofs.quiet_ends.end_waiters.Given as goal

abbrev pub invariant-waiting : goal.invariant-waiting
invariant-waiting l = record {
  ending : (u : ℕ) (start : Ops) → QuietlyEnding u start l.fn.lifecycles.ops (l.number ∷ l.fn.work.items) → QuietlyEnding u start l.lifecycles.ops (l.number ∷ l.work.items);
  matched : AreMatched l.lifecycles.ops l.waiters.next;
  count : vec_len l.work + len l.lifecycles.ops.in_flight ≡ vec_len l.fn.work + len l.fn.lifecycles.ops.in_flight;
  capacity : vec_capacity l.work ≡ vec_capacity l.fn.work;
  lifecycles_spare : l.fn.lifecycles.spare ≤ l.lifecycles.spare;
  waiters_spare : l.fn.waiters.spare ≤ l.waiters.spare;
}

abbrev pub decreases-waiting : goal.decreases-waiting
decreases-waiting l = len l.lifecycles.ops.in_flight
