use Rattle.std.proofs.Common.{subst, sym}
use Rattle.uring_model.specs.Rows.{HasCounts}
use Rattle.uring_model.proofs.Replaying.{counts_push, counts_rest}
use Rattle.uring_model.proofs.replayed.Replayed.take_job.Goals as goal

pub returns-clause-counts : goal.returns-clause-counts
returns-clause-counts c = record {
  rows = subst HasCounts (sym c.in_ok-push.ensures.items) (counts_push c.args.self.now.rows.items c.pop_front.new.self.items c.args.self.now.rest.items c.in-Some.job c.in-Some.ensures.items c.requires.rows c.requires.rest);
  rest = counts_rest c.pop_front.new.self.items c.args.self.now.rest.items c.in-Some.job c.in-Some.ensures.items c.requires.rest;
}
