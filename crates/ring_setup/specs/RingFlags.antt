-- What the flags that the two rings show say.
use Rattle.std.specs.Prelude.{ℕ, Bool}
use Rattle.uring_base.specs.FlagBits.{has_bits}
use Rattle.ring_setup.specs.declared.ring_flags.SubmissionFlags.{SubmissionFlags}
use Rattle.ring_setup.specs.declared.ring_flags.CompletionRingFlags.{CompletionRingFlags}

-- whether the submission ring's word of flags shows these to the user
abbrev pub shows : ℕ → SubmissionFlags → Bool
shows word flags = has_bits word flags.0

-- whether the completion ring's word of flags shows these to the partner
abbrev pub shows_partner : ℕ → CompletionRingFlags → Bool
shows_partner word flags = has_bits word flags.0
