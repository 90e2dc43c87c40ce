use Rattle.uring_text.proofs.Numbers.{number_found, number_again}
use Rattle.uring_text.proofs.laws.numbers_are_decimal.Goals as goal

pub returns : goal.returns
returns c = λ limit n text fits. (number_found limit text n, λ p. number_again limit text n fits p.0 p.1)
