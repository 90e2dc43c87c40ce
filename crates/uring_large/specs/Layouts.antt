-- The layouts of the large entries: the bytes of a small one, and what lies behind.
use Rattle.std.specs.Prelude.{◌≡◌, ℕ, ◌<◌, ◌^◌, FitsSigned, length, List, [], ◌∷◌, ◌++◌, slice_index, take, drop}
use Rattle.std.specs.Int.{w32, w64, to_le_bytes}
use Rattle.uring_base.specs.Bytes.{long_at}
use Rattle.uring_base.specs.Layouts.{entry_at, entry_bytes, completion_at, completion_bytes}
use Rattle.uring_large.specs.declared.squeue.Entry128.{Entry128}
use Rattle.uring_large.specs.declared.cqueue.Entry32.{Entry32}

-- the large submission entry that 128 bytes hold, and its bytes
abbrev pub large_entry_at : List ℕ → Entry128
large_entry_at b = record { entry = entry_at (take 64 b); big = drop 64 b }

abbrev pub large_entry_bytes : Entry128 → List ℕ
large_entry_bytes e = entry_bytes e.entry ++ e.big

-- the large completion that 32 bytes hold, and its bytes
abbrev pub large_completion_at : List ℕ → Entry32
large_completion_at b = record { entry = completion_at (take 16 b); big = long_at b 16 ∷ long_at b 24 ∷ [] }

abbrev pub large_completion_bytes : Entry32 → List ℕ
large_completion_bytes c = completion_bytes c.entry
    ++ (to_le_bytes w64 (slice_index c.big 0) ++ to_le_bytes w64 (slice_index c.big 1))

-- the words fit their types
pub record FitsLarge (c : Entry32) : Type 0 where
  pub user_data : c.entry.user_data < 2 ^ 64
  pub outcome : FitsSigned w32 c.entry.result
  pub flags : c.entry.flags < 2 ^ 32
  pub count : length c.big ≡ 2
  pub front : slice_index c.big 0 < 2 ^ 64
  pub back : slice_index c.big 1 < 2 ^ 64
