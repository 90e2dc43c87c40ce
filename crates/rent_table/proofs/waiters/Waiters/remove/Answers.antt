use Rattle.std.proofs.Common.{is_some, ◌≡◌, sym, ap, ◌∙◌, subst}
use Rattle.std.specs.Option.{option_map}
use Rattle.std.specs.FinMap.{get, remove}
use Rattle.rent_table.proofs.Picks.{out_at}
use Rattle.rent_table.specs.Links.{with_above, with_below}
use Rattle.rent_table.proofs.Linked.{IsLinked-less}
use Rattle.rent_table.proofs.Waits.{next-less, next-absent, passed_on, not_passed}
use Rattle.rent_table.proofs.waiters.Waiters.remove.Goals as goal

pub returns-in_default-clause-next : goal.returns-in_default-clause-next
returns-in_default-clause-next c =
    subst (λ w. w.next ≡ remove w.next c.args.number) c.self.view_is (next-absent c.self.inside.links.entries c.args.number (sym c.get.ensures ∙ sym c.copied.ensures ∙ c.in_default.is))

pub pass_top-requires : goal.pass_top-requires
pass_top-requires c = λ none. ap is_some (c.self.invariant.topped c.args.number c.in-Some.link (sym c.get.ensures ∙ sym c.copied.ensures ∙ c.in-Some.is) none)

pub invariant_of-self : goal.invariant_of-self
invariant_of-self c =
    let l = c.in-Some.link in
    let links = c.self.inside.links.entries in
    let tops = c.self.inside.tops.entries in
    IsLinked-less (get links) (get tops) c.self.invariant c.args.number l (sym c.get.ensures ∙ sym c.copied.ensures ∙ c.in-Some.is)
    (get c.put_above.new.links.entries) (get c.pass_top.new.tops.entries)
    (λ q. c.put_above.ensures.links q
    ∙ ap (option_map (with_above l.below l.above q)) (c.put_below.ensures.links q
    ∙ ap (option_map (with_below l.above l.below q)) (ap (λ m. get m q) c.remove.ensures.entries ∙ out_at links c.args.number q)))
    (passed_on l tops c.pass_top.new.tops.entries c.pass_top.ensures.tops)
    (not_passed l tops c.pass_top.new.tops.entries c.pass_top.ensures.tops)

pub returns-clause-next : goal.returns-clause-next
returns-clause-next c =
    let l = c.in-Some.link in
    next-less c.self.inside.links.entries c.put_below.new.links.entries c.put_above.new.links.entries c.args.number l.below l.above l.above l.below
    (λ q. c.put_below.ensures.links q ∙ ap (λ m. option_map (with_below l.above l.below q) (get m q)) c.remove.ensures.entries)
    c.put_above.ensures.links
    ∙ ap (λ w. remove w.next c.args.number) c.self.view_is
