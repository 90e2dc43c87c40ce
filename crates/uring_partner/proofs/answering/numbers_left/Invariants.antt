use Rattle.std.proofs.Common.{◌≡◌, ◌<◌, ℕ, length, get_or}
use Rattle.uring_partner.specs.Answering.{number_left}
use Rattle.uring_partner.proofs.answering.numbers_left.Given as goal

abbrev pub invariant-loop-place : goal.invariant-loop-place
invariant-loop-place l = (length l.left ≡ l.place) × ((k : ℕ) → k < l.place → get_or l.left k 0 ≡ number_left l.how k (get_or l.numbers k 0))
