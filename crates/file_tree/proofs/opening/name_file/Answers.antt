use Rattle.std.proofs.Common.{ap, ◌∙◌}
use Rattle.std.specs.FinMap.{insert, remove}
use Rattle.file_tree.specs.declared.place.Node.TheVariants.{File}
use Rattle.file_tree.proofs.Keys.{put_out, place_total, place_apart}
use Rattle.file_tree.proofs.opening.name_file.Goals as goal

pub returns-clause-err : goal.returns-clause-err
returns-clause-err c =
    let back = put_out place_total place_apart c.args.tree.now.nodes c.args.place (File c.args.number) c.requires in
    let gone = c.remove.ensures ∙ ap (λ m. remove m c.in_ok-undo.undo) c.in_ok-put.ensures.ok ∙ ap (λ p. remove (insert c.args.tree.now.nodes c.args.place (File c.args.number)) p) c.in_ok-undo.ensures ∙ back in
    let modes = c.in-Err.ensures.err in
    λ i. record { nodes = gone i; inodes = modes i; dirs = c.args.tree.now.dirs }
