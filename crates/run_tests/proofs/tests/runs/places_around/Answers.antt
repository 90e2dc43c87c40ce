use Rattle.run_loop.proofs.Opened.{opened_calm}
use Rattle.run_tests.proofs.tests.runs.places_around.Goals as goal

pub run_on-requires-clause-empty : goal.run_on-requires-clause-empty
run_on-requires-clause-empty c = opened_calm c.in-Ok-new.ring _ _ _ c.in-Ok-new.ensures
