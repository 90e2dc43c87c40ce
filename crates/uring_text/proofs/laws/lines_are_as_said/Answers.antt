use Rattle.uring_text.proofs.LinesSaid.{line_found, line_again}
use Rattle.uring_text.proofs.laws.lines_are_as_said.Goals as goal

pub returns : goal.returns
returns c = λ text said. (line_found text said, line_again text said)
