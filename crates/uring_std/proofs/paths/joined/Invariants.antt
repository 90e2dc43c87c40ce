use Rattle.std.proofs.Common.{◌≡◌, ◌∷◌, ◌++◌, drop}
use Rattle.std.specs.Prelude.{flat_map}
use Rattle.file_tree.specs.Paths.{slash}
use Rattle.uring_std.specs.Paths.{below}
use Rattle.uring_std.proofs.paths.joined.Given as goal

-- the text so far, and what the names that are left add
abbrev pub invariant-loop-name : goal.invariant-loop-name
invariant-loop-name l = below l.folder l.names ≡ l.text.items ++ flat_map (λ name. slash ∷ name) (drop l.name-index l.names)
