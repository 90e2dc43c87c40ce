use Rattle.rent_table.proofs.Marked.{marked-empty}
use Rattle.rent_table.proofs.numbered_places.NumberedPlaces.new.Goals as goal

pub invariant_of-result : goal.invariant_of-result
invariant_of-result g c = marked-empty _ _ c.new.ensures c.new-2.ensures
