use Rattle.std.proofs.Common.{sym, ap, ◌∙◌, arith}
use Rattle.rent_table.proofs.Endings.{told_last, fewer_told}
use Rattle.rent_table.proofs.quiet_ends.end_waiters.Goals as goal

pub push_reserved-requires : goal.push_reserved-requires
push_reserved-requires c =
    let i = c.waiting.invariant in
    let one = fewer_told c.waiting.lifecycles.ops c.in-Some.waiter c.args.number (sym (i.matched c.in-Some.waiter) ∙ c.in-Some.ensures.waits) in
    let count = i.count in
    let capacity = i.capacity in
    let room = c.requires.room in
    omega (arith, one, count, capacity, room)

pub waiting-smaller : goal.waiting-smaller
waiting-smaller c =
    let i = c.waiting.invariant in
    let one = fewer_told c.waiting.lifecycles.ops c.in-Some.waiter c.args.number (sym (i.matched c.in-Some.waiter) ∙ c.in-Some.ensures.waits) in
    let now = ap (λ o. Rattle.std.specs.FinMap.len o.in_flight) c.end_quietly.ensures.ops in
    omega (arith, one, now)

pub waiting-preserved : goal.waiting-preserved
waiting-preserved c =
    let i = c.waiting.invariant in
    let waits = sym (i.matched c.in-Some.waiter) ∙ c.in-Some.ensures.waits in
    record {
      ending = λ u start t. told_last u start c.waiting.lifecycles.ops c.end_quietly.new.lifecycles.ops c.args.number c.in-Some.waiter c.waiting.work.items c.push_reserved.new.self.items (i.ending u start t) waits c.end_quietly.ensures.ops c.push_reserved.ensures.items;
      matched = c.end_quietly.ensures.matched;
      count =
          let one = fewer_told c.waiting.lifecycles.ops c.in-Some.waiter c.args.number waits in
          let now = ap (λ o. Rattle.std.specs.FinMap.len o.in_flight) c.end_quietly.ensures.ops in
          let more = c.push_reserved.ensures.len in
          let count = i.count in
          omega (arith, one, now, more, count);
      capacity = c.push_reserved.ensures.capacity ∙ i.capacity;
      lifecycles_spare = let a = i.lifecycles_spare in let b = c.end_quietly.ensures.lifecycles_spare in omega (arith, a, b);
      waiters_spare = let a = i.waiters_spare in let b = c.end_quietly.ensures.waiters_spare in omega (arith, a, b);
    }
