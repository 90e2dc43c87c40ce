use Rattle.uring_text.proofs.Pieces.{lines_step}
use Rattle.uring_text.proofs.read.next_line.Goals as goal

pub returns-in-Some-clause-lines : goal.returns-in-Some-clause-lines
returns-in-Some-clause-lines c = lines_step c.args.text.now c.in-Some.line.now c.in-Some.rest.now c.in-Some.ensures.parts
