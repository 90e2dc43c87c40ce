use Rattle.std.proofs.Common.{ap, ◌∙◌}
use Rattle.std.specs.FinMap as map
use Rattle.file_tree.proofs.Keys.{one_gone, place_total, place_apart}
use Rattle.file_tree.proofs.nodes.Nodes.remove.Goals as goal

pub returns : goal.returns
returns c = one_gone place_total place_apart c.self.inside.by_place.entries c.remove-node.new.self.entries c.args.place.now c.remove-node.ensures.updates.0 ∙ ap (λ m. map.remove m c.args.place.now) c.self.view_is
