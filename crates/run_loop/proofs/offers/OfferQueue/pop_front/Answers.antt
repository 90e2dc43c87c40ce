use Rattle.std.proofs.Common.{sym, ◌∙◌}
use Rattle.run_loop.proofs.EntryLemmas.{front_offer}
use Rattle.run_loop.proofs.offers.OfferQueue.pop_front.Goals as goal

pub returns-clause-front : goal.returns-clause-front
returns-clause-front c =
    sym c.self.view_is
    ∙ front_offer c.self.inside.number c.in_ok-job.job c.unlinked_if-job.result c.self.inside.jobs.items c.pop_front.new.self.items _ c.is_empty.result c.in_ok-job.ensures.items c.pop_front.new.self.ok.0 c.is_empty.ensures c.unlinked_if-job.ensures
