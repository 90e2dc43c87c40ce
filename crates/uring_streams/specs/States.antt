-- What the sources and sinks are seen as.
use Rattle.std.specs.Prelude.{ℕ, List}

-- a source in memory: the bytes left, how many were given, the calls that fail, and how many calls and faults there were
pub record SourceState : Type 0 where
  pub left : List ℕ
  pub taken : ℕ
  pub fails : List ℕ
  pub calls : ℕ
  pub faults : ℕ

-- a sink in memory: the bytes taken, how many more it has memory for, the most that one call takes, the calls that fail,
-- and how many calls and faults there were
pub record SinkState : Type 0 where
  pub written : List ℕ
  pub room : ℕ
  pub piece : ℕ
  pub fails : List ℕ
  pub calls : ℕ
  pub faults : ℕ

-- a source over a reader: the reader, how many bytes were given, and how many faults there were
pub record OverReader (R : Type 0) : Type 0 where
  pub inner : R
  pub taken : ℕ
  pub faults : ℕ

-- a sink over a writer: the writer, and how many faults there were
pub record OverWriter (W : Type 0) : Type 0 where
  pub inner : W
  pub faults : ℕ
