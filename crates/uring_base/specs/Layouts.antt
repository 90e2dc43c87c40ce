-- The layouts of entries and completions, word by word.
use Rattle.std.specs.Prelude.{ℕ, ◌<◌, ◌^◌, FitsSigned, List, ◌∷◌, ◌++◌, slice_index}
use Rattle.std.specs.Int.{w16, w32, w64, cast_signed, cast_unsigned, to_le_bytes}
use Rattle.uring_base.specs.declared.squeue.Entry.{Entry}
use Rattle.uring_base.specs.declared.cqueue.Entry.{Entry as Small}
use Rattle.uring_base.specs.Bytes.{half_at, word_at, long_at}

-- the submission entry that 64 bytes hold
abbrev pub entry_at : List ℕ → Entry
entry_at b = record {
  opcode = slice_index b 0;
  flags = slice_index b 1;
  prio = half_at b 2;
  fd = cast_signed w32 (word_at b 4);
  off = long_at b 8;
  addr = long_at b 16;
  len = word_at b 24;
  op = word_at b 28;
  user_data = long_at b 32;
  buf = half_at b 40;
  personality = half_at b 42;
  idx = word_at b 44;
  third = long_at b 48;
  fourth = long_at b 56;
}

-- the 64 bytes of a submission entry
abbrev pub entry_bytes : Entry → List ℕ
entry_bytes e = e.opcode ∷ e.flags ∷ (to_le_bytes w16 e.prio
    ++ (to_le_bytes w32 (cast_unsigned w32 e.fd)
    ++ (to_le_bytes w64 e.off
    ++ (to_le_bytes w64 e.addr
    ++ (to_le_bytes w32 e.len
    ++ (to_le_bytes w32 e.op
    ++ (to_le_bytes w64 e.user_data
    ++ (to_le_bytes w16 e.buf
    ++ (to_le_bytes w16 e.personality
    ++ (to_le_bytes w32 e.idx
    ++ (to_le_bytes w64 e.third ++ to_le_bytes w64 e.fourth)))))))))))

-- the completion that 16 bytes hold, and its bytes
abbrev pub completion_at : List ℕ → Small
completion_at b = record { user_data = long_at b 0; result = cast_signed w32 (word_at b 8); flags = word_at b 12 }

abbrev pub completion_bytes : Small → List ℕ
completion_bytes c = to_le_bytes w64 c.user_data ++ (to_le_bytes w32 (cast_unsigned w32 c.result) ++ to_le_bytes w32 c.flags)

-- the words fit their types
pub record FitsLow (e : Entry) : Type 0 where
  pub prio : e.prio < 2 ^ 16
  pub fd : FitsSigned w32 e.fd
  pub off : e.off < 2 ^ 64
  pub addr : e.addr < 2 ^ 64
  pub len : e.len < 2 ^ 32
  pub op : e.op < 2 ^ 32
  pub user_data : e.user_data < 2 ^ 64

pub record FitsHigh (e : Entry) : Type 0 where
  pub buf : e.buf < 2 ^ 16
  pub personality : e.personality < 2 ^ 16
  pub idx : e.idx < 2 ^ 32
  pub third : e.third < 2 ^ 64
  pub fourth : e.fourth < 2 ^ 64
