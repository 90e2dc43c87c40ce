use Rattle.std.proofs.Common.{◌≤◌, ◌∷◌, length, subst, arith}
use Rattle.std.specs.List.{All}
use Rattle.std.proofs.lemmas.List.Elements.{All-tail}
use Rattle.rent_fs.proofs.creation.Creation.turn_down.Goals as goal

pub invariant_of-self-in-Some : goal.invariant_of-self-in-Some
invariant_of-self-in-Some c =
    let all : All (λ n. n ≤ length c.self.inside.path) (c.in-Some.next ∷ c.pop_front.new.self.items) = subst (All (λ n. n ≤ length c.self.inside.path)) c.in-Some.ensures.items c.self.invariant.1 in
    (all 0 c.in-Some.next (omega arith), All-tail (λ n. n ≤ length c.self.inside.path) c.in-Some.next c.pop_front.new.self.items all)
