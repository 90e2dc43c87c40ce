use Rattle.std.proofs.Common.{◌≡◌, ◌∷◌}
use Rattle.std.specs.Vec.Iter.{into_iter_items, into_iter_len}
use Rattle.file_tree.specs.Trees.{walk}
use Rattle.file_tree.proofs.walk.walk.Given as goal

-- the place reached and the names left lead to where all names lead
abbrev pub invariant-loop-name : goal.invariant-loop-name
invariant-loop-name l = walk l.nodes 0 l.fn.names.items ≡ walk l.nodes l.place.dir (l.place.name ∷ into_iter_items l.rest)

abbrev pub decreases-loop-name : goal.decreases-loop-name
decreases-loop-name l = into_iter_len l.rest
