use Rattle.std.proofs.Common.{◌≡◌, ◌==◌, ap, sym, ◌∙◌, subst, is_some, nat_eq, rules}
use Rattle.std.specs.HashMap.{keys}
use Rattle.std.specs.List.{IsDistinct, list_any}
use Rattle.std.proofs.lemmas.List.Sorted.{list_any-IsPermutation, IsNonDecreasingBy-from_sort}
use Rattle.std.proofs.lemmas.Map.Keys.{IsDistinct-IsPermutation, IsStrictlyIncreasing-from_distinct}
use Rattle.rent_table.specs.NumberedSlab.{at}
use Rattle.rent_table.proofs.Indexed.{at-some}
use Rattle.rent_table.proofs.Members.{flipped, has_any}
use Rattle.rent_table.proofs.numbered_slab.NumberedSlab.numbers.Goals as goal

pub returns-clause-each : goal.returns-clause-each
returns-clause-each g c n =
    let all : c.in_ok-numbers.numbers.items ≡ keys c.self.inside.index = search rules in
    has_any n c.sort_unstable.new.self.items
    ∙ sym (list_any-IsPermutation (λ x. n == x) c.in_ok-numbers.numbers.items c.sort_unstable.new.self.items c.sort_unstable.ensures.permutation)
    ∙ ap (list_any (λ x. n == x)) (all ∙ sym c.keys.ensures.rest) ∙ sym (c.keys.ensures.has n)
    ∙ sym (at-some c.self.inside.index.entries c.self.inside.places n c.self.invariant) ∙ ap (λ t. is_some (at t n)) c.self.view_is

pub returns-clause-rising : goal.returns-clause-rising
returns-clause-rising g c =
    let all : c.in_ok-numbers.numbers.items ≡ keys c.self.inside.index = search rules in
    IsStrictlyIncreasing-from_distinct c.sort_unstable.new.self.items (IsNonDecreasingBy-from_sort (λ x. x) c.sort_unstable.new.self.items c.sort_unstable.ensures.sorted)
    (IsDistinct-IsPermutation nat_eq flipped c.in_ok-numbers.numbers.items c.sort_unstable.new.self.items c.sort_unstable.ensures.permutation (subst (IsDistinct nat_eq) (sym all) c.keys.ensures.unique))
