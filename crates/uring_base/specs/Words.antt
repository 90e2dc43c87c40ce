-- The words of a submission entry.
use Rattle.std.specs.Prelude.{ℕ, ℤ, pos, negsuc, Option, Some, None}
use Rattle.std.specs.Int.{w32, w64, cast_signed, cast_unsigned}
use Rattle.uring_base.specs.declared.squeue.Entry.{Entry}

-- the entry of an operation, each other word 0
abbrev pub blank : ℕ → Entry
blank code = record {
  opcode = code;
  flags = 0;
  prio = 0;
  fd = pos 0;
  off = 0;
  addr = 0;
  len = 0;
  op = 0;
  user_data = 0;
  buf = 0;
  personality = 0;
  idx = 0;
  third = 0;
  fourth = 0;
}

-- the descriptor word of an operation that acts on nothing
abbrev pub no_fd : ℤ
no_fd = negsuc 0

-- the 32 bits of a signed number
abbrev pub bits_of : ℤ → ℕ
bits_of n = cast_unsigned w32 n

-- the 64 bits of a signed number, which extend its sign
abbrev pub long_bits_of : ℤ → ℕ
long_bits_of n = cast_unsigned w64 n

-- the signed number of 32 bits, as an index or another unsigned number stands in the descriptor word
abbrev pub signed_of : ℕ → ℤ
signed_of n = cast_signed w32 n

-- a bit where a number is there
abbrev pub where_some : Option ℕ → ℕ → ℕ
where_some None bit = 0
where_some (Some n) bit = bit
