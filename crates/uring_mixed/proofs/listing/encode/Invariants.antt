use Rattle.std.proofs.Common.{◌≡◌, take}
use Rattle.std.specs.List.{AllByRecursion}
use Rattle.uring_mixed.specs.Listing.{IsEntry, encoding}
use Rattle.uring_mixed.proofs.listing.encode.Given as goal

abbrev pub invariant-loop-item : goal.invariant-loop-item
invariant-loop-item g l = record {
  bytes_are : l.bytes.items ≡ encoding g.T.Listed.form (take l.item-index l.items);
  entries : AllByRecursion (IsEntry g.T.Listed.form) (take l.item-index l.items);
}
