-- What a stat tells, as it is posted.
use Rattle.std.specs.Prelude.{ℕ, ◌+◌, List, [], ◌∷◌, slice_index_or}
use Rattle.std.specs.Int.{w64, from_le_bytes}
use Rattle.fs_data.specs.declared.stat_record.StatRecord.{StatRecord}

-- a missing byte is 0
abbrev pub byte_at : List ℕ → ℕ → ℕ
byte_at bytes at = slice_index_or bytes at 0

-- the word of the eight bytes from a place on, the lowest first
abbrev pub stat_word : List ℕ → ℕ → ℕ
stat_word bytes at = from_le_bytes w64
    (byte_at bytes at ∷ byte_at bytes (at + 1) ∷ byte_at bytes (at + 2) ∷ byte_at bytes (at + 3)
    ∷ byte_at bytes (at + 4) ∷ byte_at bytes (at + 5) ∷ byte_at bytes (at + 6) ∷ byte_at bytes (at + 7) ∷ [])

abbrev pub record_of : List ℕ → StatRecord
record_of bytes = record {
  dev = stat_word bytes 0;
  ino = stat_word bytes 8;
  mode = stat_word bytes 16;
  nlink = stat_word bytes 24;
  uid = stat_word bytes 32;
  gid = stat_word bytes 40;
  rdev = stat_word bytes 48;
  size = stat_word bytes 56;
  blksize = stat_word bytes 64;
  blocks = stat_word bytes 72;
  atime = stat_word bytes 80;
  atime_nsec = stat_word bytes 88;
  mtime = stat_word bytes 96;
  mtime_nsec = stat_word bytes 104;
  ctime = stat_word bytes 112;
  ctime_nsec = stat_word bytes 120;
  btime = stat_word bytes 128;
  btime_nsec = stat_word bytes 136;
  mask = stat_word bytes 144;
}
