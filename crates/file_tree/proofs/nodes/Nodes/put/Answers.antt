use Rattle.std.proofs.Common.{ap, ◌∙◌}
use Rattle.std.specs.FinMap as map
use Rattle.file_tree.proofs.Keys.{one_put, place_total, place_apart}
use Rattle.file_tree.proofs.nodes.Nodes.put.Goals as goal

pub returns-clause-ok : goal.returns-clause-ok
returns-clause-ok c = one_put place_total place_apart c.self.inside.by_place.entries c.insert.new.self.entries c.args.place c.args.node c.in_ok-insert.ensures.updates.0 ∙ ap (λ m. map.insert m c.args.place c.args.node) c.self.view_is
