use Rattle.std.proofs.Common.{◌+◌, ◌-◌, ◌++◌, length, arith, refl, sym, ap, ◌∙◌, subst, append-nil, length-append}
use Rattle.ring_shared.specs.HeldSlots.{items_of}
use Rattle.ring_shared.specs.Sound.{SenderIsSound}
use Rattle.ring_shared.proofs.SenderKept.{whole, sends_of, publish_on, may_publish, published_seat}
use Rattle.ring_shared.proofs.CoreSteps.{publish_tail}
use Rattle.ring_shared.proofs.ring.SendEnd.publish.Goals as goal

pub overflow_sub-free : goal.overflow_sub-free
overflow_sub-free g c = let k = c.args.self.now.sound in let m = c.args.self.now.seat.me in let a = k.loaded in let b = k.close in let d = k.fits in let small = k.size.small in
    let gap = c.gap.ensures.places m.0.start (m.0.limit - c.args.self.now.capacity) (length m.0.published + length (items_of m.1)) k.head_is k.next_is (omega arith) (omega arith) in omega arith

pub store-requires : goal.store-requires
store-requires g c = let k = c.args.self.now.sound in let m = c.args.self.now.seat.me in let a = k.loaded in let b = k.close in let d = k.fits in let small = k.size.small in
    let gap = c.gap.ensures.places m.0.start (m.0.limit - c.args.self.now.capacity) (length m.0.published + length (items_of m.1)) k.head_is k.next_is (omega arith) (omega arith) in
    (c.turn_slots.ensures.0 ∙ c.requires, omega (arith, c.args.ring.now.word_count), may_publish _ _ _ m.0 (items_of m.1) m.1 _ _ _ _ (c.args.self.now.capacity - c.gap.result) k (omega arith) c.turn_slots.ensures.2)

pub invariant_of-self : goal.invariant_of-self
invariant_of-self g c = let k = c.args.self.now.sound in let m = c.args.self.now.seat.me in let a = k.loaded in let b = k.close in let d = k.fits in let small = k.size.small in
    let gap = c.gap.ensures.places m.0.start (m.0.limit - c.args.self.now.capacity) (length m.0.published + length (items_of m.1)) k.head_is k.next_is (omega arith) (omega arith) in
    let seat = published_seat _ _ m.0 (items_of m.1) m.1 _ _ _ _ (c.args.self.now.capacity - c.gap.result) k (omega arith) c.turn_slots.ensures.2 c.store.ensures.2 in
    record { sized = c.args.self.now.sized ∙ sym (ap (λ t. t.slots) (c.store.ensures.0 ∙ c.turn_slots.ensures.0)); sound = subst (λ n. SenderIsSound n c.args.self.now.capacity c.args.self.now.next_put c.args.self.now.next_put c.args.self.now.head_seen) (sym seat) (sends_of _ _ _ _ _ _ _ (publish_on m.0 (items_of m.1) m.1 _ _ _ _ k)) }

pub returns-clause-same : goal.returns-clause-same
returns-clause-same g c = let k = c.args.self.now.sound in let m = c.args.self.now.seat.me in let a = k.loaded in let b = k.close in let d = k.fits in let small = k.size.small in
    let gap = c.gap.ensures.places m.0.start (m.0.limit - c.args.self.now.capacity) (length m.0.published + length (items_of m.1)) k.head_is k.next_is (omega arith) (omega arith) in
    let seat = published_seat _ _ m.0 (items_of m.1) m.1 _ _ _ _ (c.args.self.now.capacity - c.gap.result) k (omega arith) c.turn_slots.ensures.2 c.store.ensures.2 in
    let on = publish_on m.0 (items_of m.1) m.1 _ _ _ _ k in (
      (c.store.ensures.0 ∙ c.turn_slots.ensures.0, refl),
      ap (λ n. n.0.published ++ items_of n.1) seat ∙ ap (λ l. m.0.published ++ items_of m.1 ++ l) (whole _ _ _ _ _ _ _ on) ∙ append-nil (m.0.published ++ items_of m.1),
      ap (λ n. n.0.limit - c.args.self.now.capacity) seat,
    )

pub returns-clause-published : goal.returns-clause-published
returns-clause-published g c = let k = c.args.self.now.sound in let m = c.args.self.now.seat.me in let a = k.loaded in let b = k.close in let d = k.fits in let small = k.size.small in
    let gap = c.gap.ensures.places m.0.start (m.0.limit - c.args.self.now.capacity) (length m.0.published + length (items_of m.1)) k.head_is k.next_is (omega arith) (omega arith) in
    let seat = published_seat _ _ m.0 (items_of m.1) m.1 _ _ _ _ (c.args.self.now.capacity - c.gap.result) k (omega arith) c.turn_slots.ensures.2 c.store.ensures.2 in
    ap (λ n. n.0.published) seat

pub returns-clause-step : goal.returns-clause-step
returns-clause-step g c = λ number m s. let same = returns-clause-same g c in publish_tail number _ _ m s same.0.1 same.1 (returns-clause-published g c) same.2

pub returns-clause-rises : goal.returns-clause-rises
returns-clause-rises g c = let m = c.args.self.now.seat.me in omega (arith, ap length (returns-clause-published g c), length-append m.0.published (items_of m.1))
