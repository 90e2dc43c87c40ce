use Rattle.std.proofs.Common.{◌+◌, ◌-◌, [], ◌∷◌, ◌++◌, length, None, arith, refl, sym, ap, ◌∙◌, subst, append_assoc, length-append}
use Rattle.atomic_table.specs.Table.{rest, turned}
use Rattle.ring_shared.specs.HeldSlots.{items_of}
use Rattle.ring_shared.specs.Sound.{SenderIsSound}
use Rattle.ring_shared.proofs.SenderKept.{whole, sends_of, front, put_on, no_item}
use Rattle.ring_shared.proofs.CoreSteps.{put_full, put_done}
use Rattle.ring_shared.proofs.ring.SendEnd.put.Goals as goal

pub returns-then-gap-self-clause-put : goal.returns-then-gap-self-clause-put
returns-then-gap-self-clause-put g c = let k = c.args.self.now.sound in let m = c.args.self.now.seat.me in let a = k.loaded in let b = k.close in let d = k.fits in let small = k.size.small in
    let gap = c.gap.ensures.places m.0.start (m.0.limit - c.args.self.now.capacity) (length m.0.published + length (items_of m.1)) k.head_is k.next_is (omega arith) (omega arith) in let full = c.if-gap-self.true in
    (omega (arith, length-append m.0.published (items_of m.1), gap, full), refl, refl)

pub exchange-requires : goal.exchange-requires
exchange-requires g c = let k = c.args.self.now.sound in let m = c.args.self.now.seat.me in let a = k.loaded in let b = k.close in let d = k.fits in let small = k.size.small in
    let gap = c.gap.ensures.places m.0.start (m.0.limit - c.args.self.now.capacity) (length m.0.published + length (items_of m.1)) k.head_is k.next_is (omega arith) (omega arith) in let not = c.if-gap-self.false in
    let e = front m.0 (items_of m.1) m.1 _ _ _ _ k (omega arith) in
    (c.requires, (None, e ∙ (λ i. (sym (c.slot_of-slot.ensures.place m.0.start _ k.next_is) i, None) ∷ sym (ap rest e) i)))

pub unreachable-requires : goal.unreachable-requires
unreachable-requires g c = let k = c.args.self.now.sound in let m = c.args.self.now.seat.me in let a = k.loaded in let b = k.close in let d = k.fits in let small = k.size.small in
    let gap = c.gap.ensures.places m.0.start (m.0.limit - c.args.self.now.capacity) (length m.0.published + length (items_of m.1)) k.head_is k.next_is (omega arith) (omega arith) in let not = c.if-gap-self.false in
    let e = front m.0 (items_of m.1) m.1 _ _ _ _ k (omega arith) in
    no_item _ _ c.in-Some.field-0 (rest m.1) _ (ap (λ x. (c.slot_of-slot.result, x) ∷ rest m.1) (sym c.in-Some.is) ∙ sym c.exchange.ensures.2 ∙ e)

pub invariant_of-self : goal.invariant_of-self
invariant_of-self g c = let k = c.args.self.now.sound in let m = c.args.self.now.seat.me in let a = k.loaded in let b = k.close in let d = k.fits in let small = k.size.small in
    let gap = c.gap.ensures.places m.0.start (m.0.limit - c.args.self.now.capacity) (length m.0.published + length (items_of m.1)) k.head_is k.next_is (omega arith) (omega arith) in let not = c.if-gap-self.false in
    let on = put_on m.0 (items_of m.1) m.1 _ _ _ _ k c.slot_of-slot.result c.next-self.result c.args.item (omega arith) (c.slot_of-slot.ensures.place m.0.start _ k.next_is) (c.next-self.ensures.place m.0.start _ k.next_is) in
    record { sized = c.args.self.now.sized ∙ sym (ap (λ t. t.slots) (c.turn.ensures.0 ∙ c.exchange.ensures.0)); sound = subst (λ n. SenderIsSound n c.args.self.now.capacity c.next-self.result c.args.self.now.tail c.args.self.now.head_seen) (sym (c.turn.ensures.2 ∙ ap (λ n. (n.0, turned n.1)) c.exchange.ensures.3)) (sends_of m.0 _ _ _ _ _ _ on) }

pub returns-clause-put : goal.returns-clause-put
returns-clause-put g c = let k = c.args.self.now.sound in let m = c.args.self.now.seat.me in let a = k.loaded in let b = k.close in let d = k.fits in let small = k.size.small in
    let gap = c.gap.ensures.places m.0.start (m.0.limit - c.args.self.now.capacity) (length m.0.published + length (items_of m.1)) k.head_is k.next_is (omega arith) (omega arith) in let not = c.if-gap-self.false in
    let on = put_on m.0 (items_of m.1) m.1 _ _ _ _ k c.slot_of-slot.result c.next-self.result c.args.item (omega arith) (c.slot_of-slot.ensures.place m.0.start _ k.next_is) (c.next-self.ensures.place m.0.start _ k.next_is) in (
      omega (arith, length-append m.0.published (items_of m.1)),
      ap (λ n. n.0.published ++ items_of n.1) (c.turn.ensures.2 ∙ ap (λ n. (n.0, turned n.1)) c.exchange.ensures.3) ∙ ap (λ l. m.0.published ++ l) (whole m.0 _ _ _ _ _ _ on) ∙ sym (append_assoc m.0.published (items_of m.1) (c.args.item ∷ [])),
    )

pub returns-then-gap-self-clause-step : goal.returns-then-gap-self-clause-step
returns-then-gap-self-clause-step g c = λ number m s. put_full number _ _ m s refl c.args.item (returns-then-gap-self-clause-put g c).0 refl refl refl

pub returns-clause-step : goal.returns-clause-step
returns-clause-step g c = λ number m s. let p = returns-clause-put g c in let view = ap (λ n. n.0) (c.turn.ensures.2) ∙ ap (λ n. n.0) c.exchange.ensures.3 in
    put_done number _ _ m s refl c.args.item p.0 p.1 (ap (λ v. v.published) view) (ap (λ v. v.limit - c.args.self.now.capacity) view)
