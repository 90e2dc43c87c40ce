-- The bits of each set of flags.
use Rattle.std.specs.Prelude.{ℕ}
use Rattle.uring_types.specs.declared.timeout_flags.TimeoutFlags.{TimeoutFlags}
use Rattle.uring_types.specs.declared.clone_flags.CloneBuffersFlags.{CloneBuffersFlags}

abbrev pub timeout_bits : TimeoutFlags → ℕ
timeout_bits flags = flags.0

abbrev pub no_timeout_flags : TimeoutFlags
no_timeout_flags = record { 0 = 0 }

abbrev pub clone_bits : CloneBuffersFlags → ℕ
clone_bits flags = flags.0
