use Rattle.std.proofs.Common.{ap, ◌∙◌}
use Rattle.uring_large.specs.Layouts.{large_completion_at}
use Rattle.uring_large.proofs.Codec.{large-completion-bytes}
use Rattle.uring_large.proofs.cqueue.Entry32.to_bytes.Goals as goal

pub returns-clause-inverse : goal.returns-clause-inverse
returns-clause-inverse c =
    ap large_completion_at c.written-bytes.ensures ∙ large-completion-bytes c.args.self.now c.keep_words.ensures
