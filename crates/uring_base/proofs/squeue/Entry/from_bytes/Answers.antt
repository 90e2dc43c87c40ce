use Rattle.std.proofs.Common.{ap, ◌∙◌}
use Rattle.uring_base.specs.Layouts.{entry_bytes}
use Rattle.uring_base.proofs.Codec.{bytes-entry}
use Rattle.uring_base.proofs.squeue.Entry.from_bytes.Goals as goal

pub returns-clause-inverse : goal.returns-clause-inverse
returns-clause-inverse c =
    ap entry_bytes c.read.ensures ∙ bytes-entry c.args.bytes.now c.told-bytes record { below = c.fits-bytes }
