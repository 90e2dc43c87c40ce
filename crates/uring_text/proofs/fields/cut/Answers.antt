use Rattle.std.proofs.Common.{sym}
use Rattle.uring_text.proofs.Pieces.{cut_none, cut_some}
use Rattle.uring_text.proofs.fields.cut.Goals as goal

pub returns-in_err-place-clause-parts : goal.returns-in_err-place-clause-parts
returns-in_err-place-clause-parts c = rw c.from_residual.ensures (cut_none _ c.args.bytes.now (sym (c.in_err-place.ensures)))

pub returns-clause-parts : goal.returns-clause-parts
returns-clause-parts c = cut_some _ c.args.bytes.now c.in_ok-place.place (sym (c.in_ok-place.ensures))
