use Rattle.uring_model.proofs.Ends.{set_where_whole, whole_where_set, whole_by_count, whole_at_end, idle_where_whole}
use Rattle.uring_model.proofs.AnsweredEnd.{answered_at_end, whole_where_answered}
use Rattle.uring_model.proofs.LastTurns.{last_turns_post}
use Rattle.uring_model.proofs.laws.whole_at_the_end.Goals as goal

pub returns : goal.returns
returns c = record { set = set_where_whole; whole = whole_where_set; counted = whole_by_count; settled = whole_at_end; idle = idle_where_whole; answered = answered_at_end; heard = whole_where_answered; posts = last_turns_post }
