use Rattle.std.proofs.Common.{◌≡◌, ◌≢◌, ℕ, ◌+◌, ◌-◌, List, ◌∷◌, length, Some, arith, refl, sym, ap, ◌∙◌, subst, append-nil}
use Rattle.atomic_table.specs.Table.{rest, turned}
use Rattle.ring_core.proofs.PlaceLemmas.{position_same}
use Rattle.ring_core.specs.Positions.{position_at}
use Rattle.ring_shared.specs.HeldSlots.{items_of}
use Rattle.ring_shared.specs.Sound.{TakerIsSound}
use Rattle.ring_shared.proofs.SenderKept.{no_item}
use Rattle.ring_shared.proofs.TakerKept.{whole, takes_of, cons_of, front, next_item, take_on, value_of}
use Rattle.ring_shared.proofs.TakenItems.{taken_more}
use Rattle.ring_shared.proofs.CoreSteps.{take_empty, take_done}
use Rattle.ring_shared.proofs.ring.TakeEnd.take.Goals as goal

pub returns-then-self-clause-take : goal.returns-then-self-clause-take
returns-then-self-clause-take g c = let k = c.args.self.now.sound in let m = c.args.self.now.seat.me in let a = k.within in let b = k.close in let d = k.same in let small = k.size.small in let x : List g.row.T.Denot = items_of m.1 in let q : ℕ = length m.0.seen - length x in
    (position_same m.0.start q (length m.0.seen) _ _ k.next_is k.tail_is (omega arith) (omega arith) c.if-self.true, refl)

pub exchange-requires : goal.exchange-requires
exchange-requires g c = let k = c.args.self.now.sound in let m = c.args.self.now.seat.me in let a = k.within in let b = k.close in let d = k.same in let small = k.size.small in let x : List g.row.T.Denot = items_of m.1 in let q : ℕ = length m.0.seen - length x in
    let ne : q ≢ length m.0.seen = λ e. c.if-self.false (k.next_is ∙ ap (position_at m.0.start) e ∙ sym k.tail_is) in
    let y = cons_of x (omega arith) in let f = front m.0 x m.1 _ _ _ _ k y.0 y.1 y.2 in
    (c.requires, (Some y.0, f ∙ (λ i. (sym (c.slot_of-slot.ensures.place m.0.start _ k.next_is) i, Some y.0) ∷ sym (ap rest f) i)))

pub unreachable-requires : goal.unreachable-requires
unreachable-requires g c = let k = c.args.self.now.sound in let m = c.args.self.now.seat.me in let a = k.within in let b = k.close in let d = k.same in let small = k.size.small in let x : List g.row.T.Denot = items_of m.1 in let q : ℕ = length m.0.seen - length x in
    let ne : q ≢ length m.0.seen = λ e. c.if-self.false (k.next_is ∙ ap (position_at m.0.start) e ∙ sym k.tail_is) in
    let y = cons_of x (omega arith) in let f = front m.0 x m.1 _ _ _ _ k y.0 y.1 y.2 in
    no_item _ _ y.0 _ (rest m.1) (sym f ∙ c.exchange.ensures.2 ∙ ap (λ z. (c.slot_of-slot.result, z) ∷ rest m.1) c.in_default.is)

pub invariant_of-self : goal.invariant_of-self
invariant_of-self g c = let k = c.args.self.now.sound in let m = c.args.self.now.seat.me in let a = k.within in let b = k.close in let d = k.same in let small = k.size.small in let x : List g.row.T.Denot = items_of m.1 in let q : ℕ = length m.0.seen - length x in
    let ne : q ≢ length m.0.seen = λ e. c.if-self.false (k.next_is ∙ ap (position_at m.0.start) e ∙ sym k.tail_is) in
    let y = cons_of x (omega arith) in let f = front m.0 x m.1 _ _ _ _ k y.0 y.1 y.2 in
    let on = take_on m.0 x m.1 _ _ _ _ k y.0 y.1 y.2 c.slot_of-slot.result c.next-self.result (c.slot_of-slot.ensures.place m.0.start _ k.next_is) (c.next-self.ensures.place m.0.start _ k.next_is) in
    let seat = c.turn.ensures.2 ∙ ap (λ n. (n.0, turned n.1)) c.exchange.ensures.3 in
    record { sized = c.args.self.now.sized ∙ sym (ap (λ t. t.slots) (c.turn.ensures.0 ∙ c.exchange.ensures.0)); sound = subst (λ n. TakerIsSound n c.args.self.now.capacity c.next-self.result c.args.self.now.head c.args.self.now.tail_seen) (sym seat) (takes_of m.0 _ _ _ _ _ _ on) }

pub returns-clause-take : goal.returns-clause-take
returns-clause-take g c = let k = c.args.self.now.sound in let m = c.args.self.now.seat.me in let a = k.within in let b = k.close in let d = k.same in let small = k.size.small in let x : List g.row.T.Denot = items_of m.1 in let q : ℕ = length m.0.seen - length x in
    let ne : q ≢ length m.0.seen = λ e. c.if-self.false (k.next_is ∙ ap (position_at m.0.start) e ∙ sym k.tail_is) in
    let y = cons_of x (omega arith) in let f = front m.0 x m.1 _ _ _ _ k y.0 y.1 y.2 in
    let on = take_on m.0 x m.1 _ _ _ _ k y.0 y.1 y.2 c.slot_of-slot.result c.next-self.result (c.slot_of-slot.ensures.place m.0.start _ k.next_is) (c.next-self.ensures.place m.0.start _ k.next_is) in
    let seat = c.turn.ensures.2 ∙ ap (λ n. (n.0, turned n.1)) c.exchange.ensures.3 in
    let fewer : length x ≡ length y.1 + 1 = let e = ap length y.2 in omega arith in
    let all : length m.0.seen - length y.1 ≡ q + 1 = omega arith in (
      next_item m.0 x m.1 _ _ _ _ k y.0 y.1 y.2 ∙ ap value_of (sym f ∙ c.exchange.ensures.2) ∙ c.in-Some.is,
      ap (λ n. length n.0.seen - length (items_of n.1)) seat ∙ ap (λ l. length m.0.seen - length l) (whole m.0 _ _ _ _ _ _ on) ∙ all,
    )

pub returns-then-self-clause-step : goal.returns-then-self-clause-step
returns-then-self-clause-step g c = λ number m s. take_empty number _ _ m s refl (returns-then-self-clause-take g c).0 refl refl refl

pub returns-clause-step : goal.returns-clause-step
returns-clause-step g c = λ number n s. let k = c.args.self.now.sound in let m = c.args.self.now.seat.me in let a = k.within in let x : List g.row.T.Denot = items_of m.1 in let q : ℕ = length m.0.seen - length x in
    let ne : q ≢ length m.0.seen = λ e. c.if-self.false (k.next_is ∙ ap (position_at m.0.start) e ∙ sym k.tail_is) in
    let t = returns-clause-take g c in let view = ap (λ n. n.0) c.turn.ensures.2 ∙ ap (λ n. n.0) c.exchange.ensures.3 in
    take_done number _ _ n s refl _ t.0 (omega arith) t.1 (ap (λ v. v.seen) view) (ap (λ v. v.head) view)

pub returns-then-self-clause-items : goal.returns-then-self-clause-items
returns-then-self-clause-items g c = sym (append-nil _)

pub returns-clause-items : goal.returns-clause-items
returns-clause-items g c = let t = returns-clause-take g c in let view = ap (λ n. n.0) c.turn.ensures.2 ∙ ap (λ n. n.0) c.exchange.ensures.3 in
    taken_more _ _ _ _ _ (ap (λ v. v.seen) view) t.1 t.0
