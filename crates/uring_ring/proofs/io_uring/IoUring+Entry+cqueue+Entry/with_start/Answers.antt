use Rattle.std.proofs.Common.{ap, ◌∙◌}
use Rattle.ring_setup.specs.Setup.{is_buildable, with_start}
use Rattle.uring_base.specs.declared.squeue.Entry as small
use Rattle.uring_base.specs.declared.cqueue.Entry as small_completion
use Rattle.uring_ring.specs.declared.io_uring.IoUring.{IoUring}
use Rattle.ring_setup.specs.declared.settings.Settings.{Settings}
use Rattle.ring_core.specs.declared.error.SetupError.{SetupError}
use Rattle.ring_setup.proofs.SizeLemmas.{if_err, default_iff}
use Rattle.uring_ring.proofs.io_uring.IoUring+Entry+cqueue+Entry.with_start.Goals as goal

pub returns-clause-invalid : goal.returns-clause-invalid
returns-clause-invalid c =
    let settings = c.start.ensures.settings ∙ ap (with_start c.args.start) c.builder-builder.ensures in
    let asked = ap (λ (s : Settings). is_buildable s c.args.entries) settings in
    if_err {A = IoUring small.Entry small_completion.Entry} {E = SetupError} c.build.result _ _ c.build.ensures.invalid (λ error fact. default_iff _ c.args.entries _ asked fact)
