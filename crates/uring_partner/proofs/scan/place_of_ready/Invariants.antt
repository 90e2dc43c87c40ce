use Rattle.uring_partner.proofs.Ready.{Scans, Seeks}
use Rattle.uring_partner.proofs.scan.place_of_ready.Given as goal

abbrev pub invariant-loop-i : goal.invariant-loop-i
invariant-loop-i l = record { scans : Scans l.pending.items l.i l.waits l.undrained; seeks : Seeks l.pending.items l.wanted l.i l.left }
