use Rattle.std.proofs.Common.{◌≡◌, ◌≤◌, ◌+◌}
use Rattle.std.specs.Vec.{vec_len, vec_capacity}
use Rattle.std.specs.FinMap.{len}
use Rattle.rent_table.specs.QuietEnds.{QuietlyEnding, AreMatched}
use Rattle.rent_table.proofs.quiet_ends.end_hanging.Given as goal

abbrev pub invariant-working : goal.invariant-working
invariant-working l = record {
  ending : QuietlyEnding l.number l.fn.lifecycles.ops l.lifecycles.ops l.work.items;
  matched : AreMatched l.lifecycles.ops l.waiters.next;
  room : vec_len l.work + len l.lifecycles.ops.in_flight ≤ vec_capacity l.work;
  capacity : vec_capacity l.work ≡ vec_capacity l.fn.work;
  lifecycles_spare : l.fn.lifecycles.spare ≤ l.lifecycles.spare;
  waiters_spare : l.fn.waiters.spare ≤ l.waiters.spare;
}

abbrev pub decreases-working : goal.decreases-working
decreases-working l = vec_len l.work + len l.lifecycles.ops.in_flight
