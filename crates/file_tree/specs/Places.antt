-- The order of places, in which the nodes of a tree are kept.
use Rattle.std.specs.Prelude.{Bool}
use Rattle.std.specs.Ordering.{nat_cmp, on, then_cmp, eq_by_cmp}
use Rattle.std.specs.declared.cmp.Ordering.{Ordering}
use Rattle.std.specs.Cmp.Lexicographic.{slice_cmp}
use Rattle.file_tree.specs.declared.place.Place.{Place}

-- by the directory's number, and then by the name's bytes
abbrev pub place_cmp : Place → Place → Ordering
place_cmp = then_cmp (on (λ p. p.dir) nat_cmp) (on (λ p. p.name) (slice_cmp nat_cmp))

abbrev pub same_place : Place → Place → Bool
same_place p q = eq_by_cmp place_cmp p q
