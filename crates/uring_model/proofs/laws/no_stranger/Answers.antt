use Rattle.uring_model.proofs.Honest.{no_post_is_strange, posts_answer, quiets_answer}
use Rattle.uring_model.proofs.laws.no_stranger.Goals as goal

pub returns : goal.returns
returns c = record { honest = no_post_is_strange; answers = posts_answer; quiets = quiets_answer }
