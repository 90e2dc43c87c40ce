use Rattle.std.proofs.Common.{◌≡◌, ◌≤◌, ◌+◌, List, length}
use Rattle.uring_model.specs.Moves.{Move, took}
use Rattle.uring_model.specs.Progress.{turns}
use Rattle.uring_std.specs.Turns.{LogsBy}
use Rattle.uring_std.proofs.turn.serve_all.Given as goal

abbrev pub invariant-loop-i : goal.invariant-loop-i
invariant-loop-i g l =
    (ms : List Move)
    × LogsBy g.Q.PartnerSide.moved l.fn.ledger.log.items l.ledger.log.items l.fn.side l.side ms
    × (length (took ms) ≡ l.i)
    × (turns ms ≡ 0)
    × (l.count ≤ g.Q.PartnerSide.ready l.side + l.i)
    × (l.ledger.faults ≡ l.fn.ledger.faults)
    × (l.ledger.errno ≡ l.fn.ledger.errno)
