use Rattle.run_loop.proofs.Journal.{journal_more}
use Rattle.run_loop.proofs.run.journal_since.Goals as goal

pub loop-place-preserved : goal.loop-place-preserved
loop-place-preserved g c = journal_more _ _ _ _ _ _ c.loop-place.invariant c.log_event.ensures c.in_ok-push.ensures.items
