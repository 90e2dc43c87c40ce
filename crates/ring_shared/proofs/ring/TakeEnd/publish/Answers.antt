use Rattle.std.proofs.Common.{◌≡◌, ℕ, ◌+◌, ◌-◌, List, length, take, arith, refl, sym, ap, ◌∙◌, subst}
use Rattle.ring_shared.specs.HeldSlots.{items_of}
use Rattle.ring_shared.specs.Sound.{TakerIsSound}
use Rattle.ring_shared.proofs.TakerKept.{whole, takes_of, publish_on, may_publish, published_seat}
use Rattle.ring_shared.proofs.CoreSteps.{publish_head}
use Rattle.ring_shared.proofs.ring.TakeEnd.publish.Goals as goal

pub store-requires : goal.store-requires
store-requires g c = let k = c.args.self.now.sound in let m = c.args.self.now.seat.me in let a = k.within in let b = k.close in let d = k.same in let small = k.size.small in let x : List g.row.T.Denot = items_of m.1 in let q : ℕ = length m.0.seen - length x in
    let gap = c.gap-ahead.ensures.places m.0.start q (length m.0.seen) k.next_is k.tail_is (omega arith) (omega arith) in
    let ahead : c.gap-ahead.result ≡ length x = omega arith in
    (c.turn_slots.ensures.0 ∙ c.requires, omega (arith, c.args.ring.now.word_count), may_publish m.0 x m.1 _ _ _ _ k _ _ ahead c.turn_slots.ensures.2 _ _)

pub invariant_of-self : goal.invariant_of-self
invariant_of-self g c = let k = c.args.self.now.sound in let m = c.args.self.now.seat.me in let a = k.within in let b = k.close in let d = k.same in let small = k.size.small in let x : List g.row.T.Denot = items_of m.1 in let q : ℕ = length m.0.seen - length x in
    let gap = c.gap-ahead.ensures.places m.0.start q (length m.0.seen) k.next_is k.tail_is (omega arith) (omega arith) in
    let ahead : c.gap-ahead.result ≡ length x = omega arith in
    let seat = published_seat m.0 x m.1 _ _ _ _ k _ _ ahead c.turn_slots.ensures.2 _ c.store.ensures.2 in let on = publish_on m.0 x m.1 _ _ _ _ k in
    record { sized = c.args.self.now.sized ∙ sym (ap (λ t. t.slots) (c.store.ensures.0 ∙ c.turn_slots.ensures.0)); sound = subst (λ n. TakerIsSound n c.args.self.now.capacity c.args.self.now.next_take c.args.self.now.next_take c.args.self.now.tail_seen) (sym seat) (takes_of _ _ _ _ _ _ _ on) }

pub returns-clause-same : goal.returns-clause-same
returns-clause-same g c = let k = c.args.self.now.sound in let m = c.args.self.now.seat.me in let a = k.within in let b = k.close in let d = k.same in let small = k.size.small in let x : List g.row.T.Denot = items_of m.1 in let q : ℕ = length m.0.seen - length x in
    let gap = c.gap-ahead.ensures.places m.0.start q (length m.0.seen) k.next_is k.tail_is (omega arith) (omega arith) in
    let ahead : c.gap-ahead.result ≡ length x = omega arith in
    let seat = published_seat m.0 x m.1 _ _ _ _ k _ _ ahead c.turn_slots.ensures.2 _ c.store.ensures.2 in let on = publish_on m.0 x m.1 _ _ _ _ k in (
      (c.store.ensures.0 ∙ c.turn_slots.ensures.0, refl),
      ap (λ n. n.0.seen) seat,
      ap (λ n. length n.0.seen - length (items_of n.1)) seat ∙ ap (λ l. length m.0.seen - length l) (whole _ _ _ _ _ _ _ on),
    )

pub returns-clause-published : goal.returns-clause-published
returns-clause-published g c = let k = c.args.self.now.sound in let m = c.args.self.now.seat.me in let a = k.within in let b = k.close in let d = k.same in let small = k.size.small in let x : List g.row.T.Denot = items_of m.1 in let q : ℕ = length m.0.seen - length x in
    let gap = c.gap-ahead.ensures.places m.0.start q (length m.0.seen) k.next_is k.tail_is (omega arith) (omega arith) in
    let ahead : c.gap-ahead.result ≡ length x = omega arith in
    let seat = published_seat m.0 x m.1 _ _ _ _ k _ _ ahead c.turn_slots.ensures.2 _ c.store.ensures.2 in let on = publish_on m.0 x m.1 _ _ _ _ k in
    let all : m.0.head + (q - m.0.head) ≡ q = omega arith in ap (λ n. n.0.head) seat ∙ all

pub returns-clause-step : goal.returns-clause-step
returns-clause-step g c = λ number m s. let same = returns-clause-same g c in publish_head number _ _ m s same.0.1 same.2 same.1 (returns-clause-published g c)

pub returns-clause-items : goal.returns-clause-items
returns-clause-items g c = let same = returns-clause-same g c in λ i. take (same.2 i) (same.1 i)

pub returns-clause-rises : goal.returns-clause-rises
returns-clause-rises g c = let within = c.args.self.now.sound.within in omega (arith, returns-clause-published g c)
