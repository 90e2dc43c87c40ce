use Rattle.std.proofs.Common.{◌==◌, Some, None, cond, ap, ◌∙◌}
use Rattle.std.specs.Option.{option_map}
use Rattle.std.specs.FinMap.{get, insert}
use Rattle.rent_table.proofs.Picks.{put_at}
use Rattle.rent_table.specs.Links.{with_above}
use Rattle.rent_table.proofs.Linked.{IsLinked-more}
use Rattle.rent_table.proofs.Waits.{next-more, not_linked}
use Rattle.rent_table.proofs.waiters.Waiters.insert.Goals as goal

pub insert-requires-clause-absent : goal.insert-requires-clause-absent
insert-requires-clause-absent c = c.put_above.ensures.links c.args.number ∙ ap (option_map (with_above c.copied-below.result (Some c.args.number) c.args.number)) (not_linked c.self.inside.links.entries c.args.number (ap (λ w. get w.next c.args.number) c.self.view_is ∙ c.requires.absent))

pub invariant_of-self : goal.invariant_of-self
invariant_of-self c =
    let top = c.copied-below.ensures ∙ c.get.ensures in
    IsLinked-more (get c.self.inside.links.entries) (get c.self.inside.tops.entries) c.self.invariant c.args.number c.args.next
    (not_linked c.self.inside.links.entries c.args.number (ap (λ w. get w.next c.args.number) c.self.view_is ∙ c.requires.absent))
    (get c.insert.new.self.entries) (get c.put_top.new.tops.entries)
    (λ q. ap (λ m. get m q) c.insert.ensures.entries ∙ put_at c.put_above.new.links.entries c.args.number _ q
    ∙ ap (cond (q == c.args.number) _) (c.put_above.ensures.links q)
    ∙ ap (λ o. cond (q == c.args.number) (Some (record { next = c.args.next; above = None; below = o })) (option_map (with_above o (Some c.args.number) q) (get c.self.inside.links.entries q))) top)
    (λ q. ap (λ m. get m q) c.put_top.ensures.tops ∙ put_at c.self.inside.tops.entries c.args.next c.args.number q)

pub returns-clause-next : goal.returns-clause-next
returns-clause-next c =
    next-more c.self.inside.links.entries c.put_above.new.links.entries c.insert.new.self.entries c.args.number c.args.next _ _ _ _ c.put_above.ensures.links c.insert.ensures.entries
    ∙ ap (λ w. insert w.next c.args.number c.args.next) c.self.view_is
