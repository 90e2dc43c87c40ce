use Rattle.rent_engine.proofs.Executors.{sound_empty}
use Rattle.rent_engine.proofs.executor.Executor.new.Goals as goal

pub invariant_of-result : goal.invariant_of-result
invariant_of-result g c = sound_empty _ _ _ c.new.ensures.items c.new-2.ensures.empty
