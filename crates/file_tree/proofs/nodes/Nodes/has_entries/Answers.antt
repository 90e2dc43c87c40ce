use Rattle.std.proofs.Common.{map, sym, ap, ◌∙◌}
use Rattle.std.specs.Prelude.{◌==◌}
use Rattle.std.specs.FinMap as finite
use Rattle.std.specs.List.{list_any}
use Rattle.file_tree.specs.Places.{place_cmp}
use Rattle.file_tree.proofs.Keys.{kept, place_total, place_apart}
use Rattle.file_tree.proofs.nodes.Nodes.has_entries.Goals as goal

pub returns : goal.returns
returns c =
    c.any_inside.ensures.any
    ∙ ap (λ es. list_any (λ p. p.dir == c.args.dir) (map (λ e. e.0) es)) (sym (kept place_cmp place_total place_apart c.self.inside.by_place.entries c.any_inside.ensures.ordered))
    ∙ ap (λ m. list_any (λ p. p.dir == c.args.dir) (finite.keys m)) c.self.view_is
