use Rattle.std.proofs.Common.{◌≡◌, List, ◌∷◌, [], ◌++◌, ap, subst, ◌∙◌, arith, rules, w32, Some}
use Rattle.std.specs.List.{insert}
use mir.Val.{SFits}
use Rattle.std.proofs.lemmas.Int.{to_z-of_z}
use Rattle.uring_partner.specs.Served.{named, ready_cursors}
use Rattle.uring_base.specs.declared.events.LogEvent.{LogEvent}
use Rattle.uring_partner.specs.Told.{state_of}
use Rattle.uring_partner.proofs.Marks.{cursor_removed, put_back}
use Rattle.uring_partner.proofs.Settled.{code_settles}
use Rattle.uring_partner.proofs.memory.MemoryPartner.settle_next.Goals as goal

pub take_out-item-requires : goal.take_out-item-requires
take_out-item-requires c =
    let q = c.chosen_place-place.ensures in
    let m = cursor_removed c.next_choice.result c.args.self.now.pending.items.items q.0 c.chosen_place-place.result q.1 q.2 in
    omega (arith, m.inside)

pub returns-in-Err-clause-err : goal.returns-in-Err-clause-err
returns-in-Err-clause-err c =
    let q = c.chosen_place-place.ensures in
    let m = cursor_removed c.next_choice.result c.args.self.now.pending.items.items q.0 c.chosen_place-place.result q.1 q.2 in
    let item : c.settle.new.item ≡ q.0.item = c.in-Err.ensures.err.1 ∙ c.take_out-item.ensures.item ∙ m.item c.take_out-item.result in
    let back : c.put_back.new.self.items.items ≡ c.args.self.now.pending.items.items =
    c.put_back.ensures ∙ ap (insert c.take_out-item.new.self.items.items c.chosen_place-place.result) item
    ∙ put_back c.args.self.now.pending.items.items q.0 c.chosen_place-place.result c.take_out-item.new.self.items.items m q.2 (c.take_out-item.ensures.rest ∙ m.rest) in
    (λ i. record { world = c.in-Err.ensures.err.0 i; pending = back i; tail = c.args.self.now.tail; choices = c.args.self.now.choices.items }, c.in_ok-try_reserve.ensures.items)

one_logged : (before mid after : List LogEvent) (event told : LogEvent) → mid ≡ before → event ≡ told → after ≡ mid ++ event ∷ [] → after ≡ before ++ told ∷ []
one_logged before mid after event told e f g = g ∙ (λ i. e i ++ f i ∷ [])

pub returns-in-Ok-clause-ok : goal.returns-in-Ok-clause-ok
returns-in-Ok-clause-ok c =
    let q = c.chosen_place-place.ensures in
    let m = cursor_removed c.next_choice.result c.args.self.now.pending.items.items q.0 c.chosen_place-place.result q.1 q.2 in
    let fits : SFits w32 c.in-Ok.settlement.answered.result = search rules in
    let chosen = subst (λ n. named n (ready_cursors [] c.args.self.now.pending.items.items) ≡ Some q.0) c.next_choice.ensures q.1 in
    let settles = code_settles (state_of c.args.self.now) q.0 c.chosen_place-place.result c.take_out-item.result c.take_out-item.new.self.items.items c.settle.new.item
    _ c.in-Ok.settlement.answered.marks c.in-Ok.settlement.cut c.has_link-is_linked.result c.settle.new.world c.pass_on.new.self.items.items c.mark_if.new.self.items.items c.pass_on.new.tail c.pop_front-used.new.self.items
    chosen q.2 m (c.take_out-item.ensures.item ∙ m.item c.take_out-item.result) c.take_out-item.ensures.rest
    (to_z-of_z w32 c.in-Ok.settlement.answered.result fits ∙ c.in-Ok.ensures.result) c.in-Ok.ensures.marks c.in-Ok.ensures.cut c.in-Ok.ensures.world
    c.in-Ok.ensures.item c.has_link-is_linked.ensures c.pass_on.ensures.pending c.pass_on.ensures.tail c.mark_if.ensures c.pop_front-used.ensures.rest in
    (_, settles, c.ending_of-ending.ensures.post, one_logged c.args.self.now.log.items c.try_reserve.new.self.items c.push_known.new.items.items _ _ c.in_ok-try_reserve.ensures.items c.ending_of-ending.ensures.event c.push_known.ensures)
