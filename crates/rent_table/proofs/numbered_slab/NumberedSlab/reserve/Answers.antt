use Rattle.std.proofs.Common.{ap, ◌∙◌, arith}
use Rattle.slab.specs.Slab.{get}
use Rattle.rent_table.proofs.Indexed.{picked-same, IsIndexed-same, len-picked}
use Rattle.rent_table.proofs.numbered_slab.NumberedSlab.reserve.Goals as goal

pub invariant_of-self-2 : goal.invariant_of-self-2
invariant_of-self-2 g c = IsIndexed-same _ _ _ _ c.reserve-2.ensures.entries.2 (λ p. ap (λ s. get s p) c.reserve.ensures.rest_kept) c.self.invariant

pub returns-clause-entries : goal.returns-clause-entries
returns-clause-entries g c = picked-same c.self.inside.index.entries c.reserve-2.new.self.entries c.self.inside.places c.reserve.new.self c.reserve-2.ensures.entries.2 (λ p. ap (λ s. get s p) c.reserve.ensures.rest_kept) ∙ ap (λ t. t.entries) c.self.view_is

pub returns-clause-fits : goal.returns-clause-fits
returns-clause-fits g c =
    let i = IsIndexed-same c.self.inside.index.entries c.reserve-2.new.self.entries c.self.inside.places c.reserve.new.self c.reserve-2.ensures.entries.2 (λ p. ap (λ s. get s p) c.reserve.ensures.rest_kept) c.self.invariant in
    let n = len-picked c.reserve-2.new.self.entries c.reserve.new.self c.reserve-2.ensures.unique i.taken in
    let capacity = c.capacity-capacity.ensures in
    let room = c.in_ok-reserve-2.ensures.ok in
    omega (arith, n, capacity, room)
