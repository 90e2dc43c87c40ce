-- Bits of flag words.
use Rattle.std.specs.Prelude.{ℕ, Bool, ◌==◌, bit_and}
use Rattle.uring_base.specs.declared.completion_flags.Flags.{Flags as CompletionFlags}
use Rattle.uring_base.specs.declared.flags.Flags.{Flags}
use Rattle.uring_base.specs.declared.fsync_flags.FsyncFlags.{FsyncFlags}

-- the bits of a set of flags
abbrev pub bits_in : Flags → ℕ
bits_in flags = flags.0

abbrev pub fsync_bits : FsyncFlags → ℕ
fsync_bits flags = flags.0

abbrev pub completion_bits : CompletionFlags → ℕ
completion_bits flags = flags.0

-- whether a word has these bits
abbrev pub has_bits : ℕ → ℕ → Bool
has_bits word bits = bit_and word bits == bits

-- whether an entry's word of flags has these flags
abbrev pub has_flags : ℕ → Flags → Bool
has_flags word flags = has_bits word (bits_in flags)

abbrev pub no_fsync_flags : FsyncFlags
no_fsync_flags = record { 0 = 0 }
