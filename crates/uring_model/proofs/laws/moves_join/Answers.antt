use Rattle.uring_model.proofs.Joins.{took-append, posted-append, posted_turn, IsLogged-append, IsLogged-none}
use Rattle.uring_model.proofs.Whole.{turns-append}
use Rattle.uring_model.proofs.Honest.{within-append}
use Rattle.uring_model.proofs.laws.moves_join.Goals as goal

pub returns : goal.returns
returns c = record {
  join = record { takes = took-append; posts = posted-append; turning = turns-append; within = within-append; logs = IsLogged-append };
  none = record { logs = IsLogged-none };
  turn = posted_turn;
}
