use Rattle.std.proofs.Common.{◌≡◌, ap, ◌∙◌, subst, rules}
use Rattle.std.specs.List.{filter}
use Rattle.std.proofs.lemmas.Fn.{filter_same}
use Rattle.rent_table.specs.Joins.{is_joined}
use Rattle.rent_table.specs.Ops.{knows, AreJoinsOfFlights}
use Rattle.rent_table.proofs.Members.{are_joined}
use Rattle.rent_table.proofs.Parts.{joins-of-flights, knows-at}
use Rattle.rent_table.proofs.lifecycles.Lifecycles.joined.Goals as goal

pub returns : goal.returns
returns c =
    let kept : c.retain.new.self.items ≡ filter (λ n. is_joined c.args.self.now.ops c.args.handle n) c.in_ok-numbers.numbers.items = filter_same _ _ _ (λ x b f' k. search rules) _ _ c.retain.ensures.filtered in
    are_joined c.args.self.now.ops c.args.handle c.in_ok-numbers.numbers.items c.retain.new.self.items
    (subst (λ k. AreJoinsOfFlights k.ops) c.self.view_is (joins-of-flights c.self.inside.places.entries))
    (λ n. c.in_ok-numbers.ensures.each n ∙ knows-at c.self.inside.places.entries n ∙ ap (λ k. knows k.ops n) c.self.view_is)
    c.in_ok-numbers.ensures.rising kept
