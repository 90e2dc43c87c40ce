use Rattle.uring_text.proofs.Pieces.{one_field, first_field}
use Rattle.uring_text.proofs.laws.fields_end_at_spaces.Goals as goal

pub returns : goal.returns
returns c = record { last = one_field; next = first_field }
