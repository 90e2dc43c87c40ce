use Rattle.std.proofs.Common.{is_some, length, ap, ◌∙◌, length-set, true}
use Rattle.std.specs.FinMap.{len}
use Rattle.rent_table.specs.NumberedSlab.{at}
use Rattle.rent_table.proofs.Picks.{len-added}
use Rattle.rent_table.proofs.Marked.{marked-added, room_below, spare-added}
use Rattle.rent_table.proofs.numbered_places.NumberedPlaces.insert.Goals as goal

pub invariant_of-self : goal.invariant_of-self
invariant_of-self g c =
    let new = ap (λ t. is_some (at t c.args.number)) c.self.view_is ∙ ap is_some c.requires.absent in
    let room = room_below _ _ _ _ (ap (λ t. t.spare) c.self.view_is) c.requires.room in
    marked-added _ _ _ _ c.args.number c.args.value c.insert.ensures.entries c.take.ensures new room c.self.invariant

pub returns-clause-spare : goal.returns-clause-spare
returns-clause-spare g c =
    let new = ap (λ t. is_some (at t c.args.number)) c.self.view_is ∙ ap is_some c.requires.absent in
    let limit = ap length c.take.ensures ∙ length-set c.self.inside.numbers c.args.number true in
    let count = ap len c.insert.ensures.entries ∙ len-added c.self.inside.values.entries c.args.number c.args.value new in
    spare-added _ _ _ _ _ _ _ (ap (λ t. t.spare) c.self.view_is) c.insert.ensures.spare limit count
