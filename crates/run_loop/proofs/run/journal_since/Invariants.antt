use Rattle.std.proofs.Common.{◌≡◌, ◌++◌, map, drop, IfSome}
use Rattle.uring_model.specs.Moves.{event_of}
use Rattle.run_loop.proofs.run.journal_since.Given as goal

-- the events so far, and those that the rest of the log has
abbrev pub invariant-loop-place : goal.invariant-loop-place
invariant-loop-place g l = IfSome (g.P.Partner.log l.partner) (λ log. map event_of (drop l.start log) ≡ l.journal.items ++ map event_of (drop l.place log))
