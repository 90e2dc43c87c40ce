use Rattle.std.proofs.Common.{◌≡◌, false}
use Rattle.copy_file.proofs.by_engine.finish.Given as goal

-- the state is to be polled
abbrev pub invariant-loop-turn : goal.invariant-loop-turn
invariant-loop-turn g l = g.S.OpState.done l.state ≡ false
