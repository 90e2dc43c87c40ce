use Rattle.std.proofs.Common.{sym, ap, ◌∙◌}
use Rattle.std.specs.FinMap as map
use Rattle.file_tree.proofs.Keys.{get_at, place_total, place_apart}
use Rattle.file_tree.proofs.nodes.Nodes.get.Goals as goal

pub returns : goal.returns
returns c = c.copied.ensures ∙ c.get.ensures.value ∙ sym (get_at place_total place_apart c.self.inside.by_place.entries c.args.place.now) ∙ ap (λ m. map.get m c.args.place.now) c.self.view_is
