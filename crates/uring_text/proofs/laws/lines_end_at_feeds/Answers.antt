use Rattle.std.proofs.Common.{refl}
use Rattle.uring_text.proofs.Pieces.{one_line, first_line}
use Rattle.uring_text.proofs.laws.lines_end_at_feeds.Goals as goal

pub returns : goal.returns
returns c = record { none = refl; last = one_line; next = first_line }
