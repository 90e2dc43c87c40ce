use Rattle.partner_serving.proofs.OneRun.{one_run}
use Rattle.partner_serving.proofs.laws.two_sides_are_one_run.Goals as goal

pub returns : goal.returns
returns g c = one_run g.P.Partner.machine g.P.Partner.view g.P.Partner.Plain (record {
  idle_moves = c.partner_replays.ensures.as_moves;
  explained = c.partner_replays.ensures.from_idle;
  honest = c.no_stranger.ensures.honest;
  answers = c.no_stranger.ensures.answers;
  idle = c.whole_at_the_end.ensures.idle;
  answered = c.whole_at_the_end.ensures.answered;
  heard = c.whole_at_the_end.ensures.heard;
  world = c.world_laws.ensures;
})
