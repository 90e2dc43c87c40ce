use Rattle.std.proofs.Common.{◌≡◌, ◌≢◌, ℕ, Some, ◌∙◌, subst, IfSome, IfNone}
use Rattle.std.specs.FinMap.{get}
use Rattle.rent_table.proofs.Waits.{top_waits, no_top}
use Rattle.rent_table.proofs.waiters.Waiters.waiter_of.Goals as goal

pub returns-clause-waits : goal.returns-clause-waits
returns-clause-waits c = subst (λ w. IfSome c.copied.result (λ n. get w.next n ≡ Some c.args.next)) c.self.view_is (top_waits c.self.inside.links.entries c.self.inside.tops.entries c.self.invariant c.args.next c.copied.result (c.copied.ensures ∙ c.get.ensures))

pub returns-clause-none : goal.returns-clause-none
returns-clause-none c = subst (λ w. IfNone c.copied.result ((n : ℕ) → get w.next n ≢ Some c.args.next)) c.self.view_is (no_top c.self.inside.links.entries c.self.inside.tops.entries c.self.invariant c.args.next c.copied.result (c.copied.ensures ∙ c.get.ensures))
