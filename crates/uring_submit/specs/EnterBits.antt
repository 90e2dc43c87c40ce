-- The bits of an enter's flags.
use Rattle.std.specs.Prelude.{ℕ}
use Rattle.uring_submit.specs.declared.flags.EnterFlags.{EnterFlags}

abbrev pub enter_bits : EnterFlags → ℕ
enter_bits flags = flags.0
