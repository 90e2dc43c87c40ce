use Rattle.std.proofs.Common.{ap, ◌∙◌}
use Rattle.uring_base.specs.Layouts.{completion_bytes}
use Rattle.uring_base.proofs.Codec.{bytes-completion}
use Rattle.uring_base.proofs.cqueue.Entry.from_bytes.Goals as goal

pub returns-clause-inverse : goal.returns-clause-inverse
returns-clause-inverse c =
    ap completion_bytes c.read.ensures ∙ bytes-completion c.args.bytes.now c.told-bytes record { below = c.fits-bytes }
