use Rattle.uring_model.proofs.Words.{may_words, severed_words, ready_words}
use Rattle.uring_model.proofs.Places.{place_words, cancel_words, mark_words}
use Rattle.uring_model.proofs.laws.rows_in_words.Goals as goal

pub returns : goal.returns
returns c = record { may = may_words; severed = severed_words; ready = ready_words; place = place_words; cancel = cancel_words; mark = mark_words }
