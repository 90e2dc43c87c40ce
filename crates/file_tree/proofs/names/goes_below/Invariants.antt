use Rattle.std.proofs.Common.{◌≡◌, drop}
use Rattle.file_tree.specs.Paths.{is_below}
use Rattle.file_tree.proofs.names.goes_below.Given as goal

-- what is left of both paths decides
abbrev pub invariant-loop-i : goal.invariant-loop-i
invariant-loop-i l = is_below l.above l.path ≡ is_below (drop l.i l.above) (drop l.i l.path)
