use Rattle.std.proofs.Common.{[], length, ap, sym, subst, ◌∙◌, arith}
use Rattle.run_loop.specs.Entries.{all_taken, offers_from}
use Rattle.run_loop.specs.Slots.{open_slots, slots_from}
use Rattle.run_loop.specs.UserRounds.{UserRounds}
use Rattle.run_loop.proofs.Posts.{slots_first, slots-length}
use Rattle.run_loop.proofs.StartLemmas.{settled_first}
use Rattle.run_loop.proofs.UserLemmas.{rounds_first}
use Rattle.run_loop.proofs.user_side.UserSide.new.Goals as goal

pub returns-clause-rounds : goal.returns-clause-rounds
returns-clause-rounds g c =
    let used = g.R.UserEnds.used in
    let large = g.R.UserEnds.offers_large in
    let offers = offers_from 0 c.args.jobs.items in
    let t = c.in_ok-table.ensures in
    let slots = t.slots ∙ ap open_slots c.deref.ensures.value ∙ sym (slots_first 0 c.args.jobs.items) in
    subst (λ r. UserRounds used c.args.ring r offers (all_taken c.new-todo.result large) c.in_ok-table.table.started c.in_ok-table.table.slots.items) (sym c.new-engine.ensures.ring)
    (subst (λ o. UserRounds used c.args.ring c.args.ring offers (all_taken o large) c.in_ok-table.table.started c.in_ok-table.table.slots.items) (sym c.new-todo.ensures)
    (rounds_first used g.met.R.UserEnds.used_none c.args.ring offers large _ _ t.started slots))

pub returns-clause-inside : goal.returns-clause-inside
returns-clause-inside g c =
    let t = c.in_ok-table.ensures in
    let jobs = c.args.jobs.items in
    let slots = ap length (t.slots ∙ ap open_slots c.deref.ensures.value ∙ sym (slots_first 0 jobs)) ∙ slots-length 0 (offers_from 0 jobs) [] in
    omega (arith, t.started, slots, ap length c.new-todo.ensures)

pub returns-clause-settled : goal.returns-clause-settled
returns-clause-settled g c =
    let t = c.in_ok-table.ensures in
    let slots = t.slots ∙ ap open_slots c.deref.ensures.value ∙ sym (slots_first 0 c.args.jobs.items) ∙ ap (λ o. slots_from 0 o []) (sym c.new-todo.ensures) in
    settled_first _ _ _ _ _ c.args.jobs.items c.requires c.new-engine.ensures.ops t.started slots t.none c.new-todo.ensures
