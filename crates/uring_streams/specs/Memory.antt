-- What a call of a source or a sink in memory does.
use Rattle.std.specs.Prelude.{ℕ, ◌+◌, ◌≤◌, ◌<◌, min, List, [], ◌++◌, length, take, drop, Result, Ok, Err, MatchResult, Contains}
use Rattle.uring_streams.specs.Bytes.{next_count}
use Rattle.uring_streams.specs.States.{SourceState, SinkState}

-- a source that has given nothing yet
abbrev pub fresh_source : List ℕ → List ℕ → SourceState
fresh_source bytes fails = record { left = bytes; taken = 0; fails = fails; calls = 0; faults = 0 }

-- a sink that has taken nothing yet, with memory for so many bytes
abbrev pub fresh_sink : ℕ → ℕ → List ℕ → SinkState
fresh_sink room piece fails = record { written = []; room = room; piece = piece; fails = fails; calls = 0; faults = 0 }

-- the number of the next call, from 1, is in the list of the calls that fail
abbrev pub SourceFailsNext : SourceState → Type 0
SourceFailsNext s = Contains s.fails (next_count s.calls)

abbrev pub SinkFailsNext : SinkState → Type 0
SinkFailsNext s = Contains s.fails (next_count s.calls)

-- what the next call is to take doesn't fit into the memory that the sink has
abbrev pub AsksForMemory : SinkState → List ℕ → Type 0
AsksForMemory s bytes = s.room < min s.piece (length bytes)

-- a read of n bytes moves past them; one that fails is counted, and does nothing else
abbrev pub source_after : {E : Type 0} → SourceState → Result ℕ E → SourceState
source_after s (Ok n) = record s { left = drop n s.left; taken = s.taken + n; calls = next_count s.calls }
source_after s (Err _) = record s { calls = next_count s.calls; faults = next_count s.faults }

-- A write of n bytes appends the first n; one that fails is counted, and does nothing else. The room that it leaves is
-- what `KeepsRoom` says.
abbrev pub sink_after : {E : Type 0} → SinkState → List ℕ → ℕ → Result ℕ E → SinkState
sink_after s bytes room (Ok n) = record s { written = s.written ++ take n bytes; room = room; calls = next_count s.calls }
sink_after s bytes room (Err _) = record s { room = room; calls = next_count s.calls; faults = next_count s.faults }

-- no room is lost but that of the bytes that were taken
abbrev pub KeepsRoom : {E : Type 0} → ℕ → ℕ → Result ℕ E → Type 0
KeepsRoom before now result = MatchResult result (λ n. before ≤ now + n) (λ _. before ≤ now)

-- a read of n bytes writes the next n over the front of its room; one that fails writes nothing
abbrev pub room_after : {E : Type 0} → SourceState → List ℕ → Result ℕ E → List ℕ
room_after s room (Ok n) = take n s.left ++ drop n room
room_after s room (Err _) = room
