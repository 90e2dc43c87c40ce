use Rattle.std.proofs.Common.{◌≡◌, refl}
use Rattle.uring_model.specs.Refines.{WorldLaws}
use Rattle.uring_model.proofs.Refining as refining
use Rattle.file_tree.specs.declared.tree.Tree.{Tree}
use Rattle.file_tree.specs.Worlds.{files_of, world_machine}
use Rattle.file_tree.proofs.Worlds.{same_refines}
use Rattle.uring_partner.proofs.laws.jobs_leave_the_tree.Goals as goal

-- the world goes as its files do, where those worlds are plain that have this tree
with_tree : (tree : Tree) → WorldLaws world_machine files_of (λ w. w.tree ≡ tree)
with_tree tree = refining.world_laws world_machine files_of (λ w. w.tree ≡ tree) (same_refines tree)

pub returns : goal.returns
returns c = record {
  moves = λ over a b ms jobs taken steps. ((with_tree a.world.tree).steps_seen over a b ms (record { world = refl; pending = jobs }) taken steps).1.world;
  turns = λ room ts a jobs taken. ((with_tree a.world.tree).turns_seen room ts a (record { world = refl; pending = jobs }) taken).2.world;
}
