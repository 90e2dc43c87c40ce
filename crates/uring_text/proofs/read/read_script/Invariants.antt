use Rattle.std.proofs.Common.{◌≡◌, ℕ, ◌+◌, ◌<◌, ◌≤◌, Some, length, take, drop}
use Rattle.std.specs.Prelude.{IsSome}
use Rattle.uring_text.specs.Lines.{lines_of}
use Rattle.uring_text.specs.Script.{script_of, told_of}
use Rattle.uring_text.proofs.read.read_script.Given as goal

-- The lines read so far are a script, and what is left are the lines after them.
abbrev pub invariant-loop-line : goal.invariant-loop-line
invariant-loop-line l = record {
  told : script_of (take l.number (lines_of l.bytes)) ≡ Some (told_of l.reading.files l.reading.choices l.reading.jobs);
  rest : drop l.number (lines_of l.bytes) ≡ lines_of l.rest;
  before : (k : ℕ) → k < l.number → IsSome (script_of (take k (lines_of l.bytes)));
  room : l.number + length l.rest ≤ length l.bytes;
}

abbrev pub decreases-loop-line : goal.decreases-loop-line
decreases-loop-line l = length l.rest
