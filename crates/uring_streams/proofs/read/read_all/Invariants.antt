use Rattle.std.proofs.Common.{◌≡◌, ◌+◌, ◌-◌, ◌≤◌, length}
use Rattle.std.specs.Io.KnownBytes.{Consumes}
use Rattle.uring_streams.specs.declared.read.TheConstants.{INPUT_LIMIT}
use Rattle.uring_streams.proofs.read.read_all.Given as goal

-- what is read so far stood at the front of the input
abbrev pub invariant-loop-bytes : goal.invariant-loop-bytes
invariant-loop-bytes g l = record {
  read : Consumes (g.S.Source.left l.fn.source) (g.S.Source.left l.source) l.bytes.items;
  counted : g.S.Source.taken l.source ≡ g.S.Source.taken l.fn.source + length l.bytes.items;
  small : length l.bytes.items ≤ INPUT_LIMIT;
  later : g.S.Source.faults l.fn.source ≤ g.S.Source.faults l.source;
}

abbrev pub decreases-loop-bytes : goal.decreases-loop-bytes
decreases-loop-bytes g l = INPUT_LIMIT - length l.bytes.items
