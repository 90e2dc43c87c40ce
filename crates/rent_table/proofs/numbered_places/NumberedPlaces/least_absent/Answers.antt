use Rattle.std.proofs.Common.{sym, ap, ◌∙◌, is_some}
use Rattle.rent_table.specs.NumberedSlab.{at}
use Rattle.rent_table.proofs.Picks.{none_there}
use Rattle.rent_table.proofs.Marked.{none_where_all_taken}
use Rattle.rent_table.proofs.numbered_places.NumberedPlaces.least_absent.Goals as goal

pub returns-in-None-clause-absent : goal.returns-in-None-clause-absent
returns-in-None-clause-absent g c =
    let m = c.self.inside.values.entries in
    ap (λ t. is_some (at t 0)) (sym c.self.view_is) ∙ none_there m 0 (none_where_all_taken m c.self.inside.numbers c.self.invariant c.in-None.ensures.none)
