use Rattle.std.proofs.Common.{◌≡◌, [], ◌∙◌, arith, subst, rules}
use Rattle.rent_table.specs.QuietEnds.{QuietlyEnding}
use Rattle.rent_table.proofs.Endings.{first_work, finished, closed}
use Rattle.rent_table.proofs.quiet_ends.end_hanging.Goals as goal

pub working-preserved : goal.working-preserved
working-preserved c =
    let i = c.working.invariant in
    let e = c.end_waiters.ensures in
    let count = e.count in
    let popped = c.in-Some.ensures.cases in
    record {
      ending = e.ending c.args.number c.args.lifecycles.now.ops (first_work c.args.number c.args.lifecycles.now.ops c.working.lifecycles.ops c.in-Some.resolved c.working.work.items c.pop.new.self.items i.ending c.in-Some.ensures.items);
      matched = e.matched;
      room = let room = i.room in let same = e.capacity in let kept = c.pop.ensures.capacity in omega (arith, count, popped, room, same, kept);
      capacity = e.capacity ∙ c.pop.ensures.capacity ∙ i.capacity;
      lifecycles_spare = let a = i.lifecycles_spare in let b = e.lifecycles_spare in omega (arith, a, b);
      waiters_spare = let a = i.waiters_spare in let b = e.waiters_spare in omega (arith, a, b);
    }

pub returns-clause-ops : goal.returns-clause-ops
returns-clause-ops c =
    let none : c.working.work.items ≡ [] = search rules in
    finished c.args.number c.args.lifecycles.now.ops c.working.lifecycles.ops (subst (QuietlyEnding c.args.number c.args.lifecycles.now.ops c.working.lifecycles.ops) none c.working.invariant.ending)

pub returns-clause-fewer : goal.returns-clause-fewer
returns-clause-fewer c = let count = c.working.invariant.ending.count in omega (arith, count)

pub returns-clause-closed : goal.returns-clause-closed
returns-clause-closed c =
    let none : c.working.work.items ≡ [] = search rules in
    closed c.args.number c.args.lifecycles.now.ops c.working.lifecycles.ops (subst (QuietlyEnding c.args.number c.args.lifecycles.now.ops c.working.lifecycles.ops) none c.working.invariant.ending)
