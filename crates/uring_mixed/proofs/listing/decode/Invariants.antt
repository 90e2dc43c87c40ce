use Rattle.std.proofs.Common.{◌≡◌, ◌-◌, ◌≤◌, ◌++◌, length, drop}
use Rattle.std.specs.List.{AllByRecursion}
use Rattle.uring_mixed.specs.Listing.{IsEntry, encoding}
use Rattle.uring_mixed.proofs.listing.decode.Given as goal

-- the entries so far, whose bytes stand in front
abbrev pub invariant-entries : goal.invariant-entries
invariant-entries g l = record {
  inside : l.place ≤ length l.bytes;
  entries : AllByRecursion (IsEntry g.T.Listed.form) l.items.items;
  front : encoding g.T.Listed.form l.items.items ++ drop l.place l.bytes ≡ l.bytes;
}

abbrev pub decreases-entries : goal.decreases-entries
decreases-entries g l = length l.bytes - l.place
