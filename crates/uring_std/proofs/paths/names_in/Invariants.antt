use Rattle.std.proofs.Common.{◌≡◌, ◌++◌, drop}
use Rattle.file_tree.specs.Paths.{names, names_from}
use Rattle.uring_std.proofs.paths.names_in.Given as goal

-- the names found so far, and those in the piece and the rest
abbrev pub invariant-loop-byte : goal.invariant-loop-byte
invariant-loop-byte l = names l.path ≡ l.found.items ++ names_from l.piece.items (drop l.byte-index l.path)
