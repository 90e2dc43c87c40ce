use Rattle.std.proofs.Common.{◌≤◌}
use Rattle.uring_partner.proofs.Ready.{Scans, Counts}
use Rattle.uring_partner.proofs.scan.count_ready.Given as goal

abbrev pub invariant-loop-i : goal.invariant-loop-i
invariant-loop-i l = record { scans : Scans l.pending.items l.i l.waits l.undrained; counts : Counts l.pending.items l.i l.count; below : l.count ≤ l.i }
