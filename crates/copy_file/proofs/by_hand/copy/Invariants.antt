use Rattle.std.proofs.Common.{◌≡◌, ◌*◌, ◌%◌, ◌-◌, ◌<◌, ◌≤◌}
use Rattle.copy_file.specs.declared.copied.TheConstants.{PIECE}
use Rattle.copy_file.specs.Copies.{pieces_in}
use Rattle.copy_file.proofs.by_hand.copy.Given as goal

-- each piece but the last is whole, and took two operations
abbrev pub invariant-loop-copied : goal.invariant-loop-copied
invariant-loop-copied g l = record {
  inside : l.copied.bytes ≤ l.len;
  whole : l.copied.bytes < l.len → l.copied.bytes % PIECE ≡ 0;
  operations : l.copied.operations ≡ 2 * pieces_in l.copied.bytes;
}

abbrev pub decreases-loop-copied : goal.decreases-loop-copied
decreases-loop-copied g l = l.len - l.copied.bytes
