use Rattle.std.proofs.Common.{◌≡◌, length}
use Rattle.copy_file.proofs.source_bytes.Given as goal

-- a byte for each place so far
abbrev pub invariant-loop-place : goal.invariant-loop-place
invariant-loop-place l = length l.bytes.items ≡ l.place
