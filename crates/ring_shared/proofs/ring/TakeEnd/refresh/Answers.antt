use Rattle.std.proofs.Common.{◌≡◌, ℕ, ◌+◌, ◌-◌, ◌<◌, List, ◌++◌, length, arith, refl, sym, ap, ◌∙◌, subst, length-append}
use Rattle.ring_core.proofs.PlaceLemmas.{position_lt}
use Rattle.ring_shared.specs.HeldSlots.{items_of}
use Rattle.ring_shared.specs.Sound.{TakerIsSound}
use Rattle.ring_shared.proofs.TakerKept.{whole, takes_of, refresh_on, may_refresh, told_of, refreshed_seat}
use Rattle.ring_shared.proofs.TakenItems.{taken_same}
use Rattle.ring_shared.proofs.CoreSteps.{see_tail}
use Rattle.ring_shared.proofs.ring.TakeEnd.refresh.Goals as goal

pub load-tail-requires : goal.load-tail-requires
load-tail-requires g c = let k = c.args.self.now.sound in let m = c.args.self.now.seat.me in let a = k.within in let b = k.close in let d = k.same in let small = k.size.small in let x : List g.row.T.Denot = items_of m.1 in let q : ℕ = length m.0.seen - length x in
    let gap = c.gap-ahead.ensures.places m.0.start q (length m.0.seen) k.next_is k.tail_is (omega arith) (omega arith) in
    let ahead : c.gap-ahead.result ≡ length x = omega arith in
    (c.turn_slots.ensures.0 ∙ c.requires, omega (arith, c.args.ring.now.word_count), may_refresh m.0 x m.1 _ _ _ _ k _ _ ahead c.turn_slots.ensures.2 _ _)

pub overflow_cast-tail : goal.overflow_cast-tail
overflow_cast-tail g c = let k = c.args.self.now.sound in let m = c.args.self.now.seat.me in let a = k.within in let b = k.close in let d = k.same in let small = k.size.small in let x : List g.row.T.Denot = items_of m.1 in let q : ℕ = length m.0.seen - length x in
    let gap = c.gap-ahead.ensures.places m.0.start q (length m.0.seen) k.next_is k.tail_is (omega arith) (omega arith) in
    let ahead : c.gap-ahead.result ≡ length x = omega arith in
    let told = told_of m.0 x m.1 _ _ _ _ k _ _ ahead c.turn_slots.ensures.2 _ _ c.load-tail.ensures.2 in let far = told.2 in let grown = length-append m.0.seen told.0 in
    record { fits = subst (λ (z : ℕ). z < 4294967296) (sym told.1) (position_lt m.0.start (length (m.0.seen ++ told.0))) }

pub overflow_add-gained : goal.overflow_add-gained
overflow_add-gained g c = let k = c.args.self.now.sound in let m = c.args.self.now.seat.me in let a = k.within in let b = k.close in let d = k.same in let small = k.size.small in let x : List g.row.T.Denot = items_of m.1 in let q : ℕ = length m.0.seen - length x in
    let gap = c.gap-ahead.ensures.places m.0.start q (length m.0.seen) k.next_is k.tail_is (omega arith) (omega arith) in
    let ahead : c.gap-ahead.result ≡ length x = omega arith in
    let told = told_of m.0 x m.1 _ _ _ _ k _ _ ahead c.turn_slots.ensures.2 _ _ c.load-tail.ensures.2 in let far = told.2 in let grown = length-append m.0.seen told.0 in
    let emptied = c.gap-emptied.ensures.places m.0.start m.0.head q k.head_is k.next_is (omega arith) (omega arith) in
    let gained = c.gap-gained.ensures.places m.0.start (length m.0.seen) (length (m.0.seen ++ told.0)) k.tail_is told.1 (omega arith) (omega arith) in
    record { fits = omega arith }

pub invariant_of-self : goal.invariant_of-self
invariant_of-self g c = let k = c.args.self.now.sound in let m = c.args.self.now.seat.me in let a = k.within in let b = k.close in let d = k.same in let small = k.size.small in let x : List g.row.T.Denot = items_of m.1 in let q : ℕ = length m.0.seen - length x in
    let gap = c.gap-ahead.ensures.places m.0.start q (length m.0.seen) k.next_is k.tail_is (omega arith) (omega arith) in
    let ahead : c.gap-ahead.result ≡ length x = omega arith in
    let told = told_of m.0 x m.1 _ _ _ _ k _ _ ahead c.turn_slots.ensures.2 _ _ c.load-tail.ensures.2 in let far = told.2 in let grown = length-append m.0.seen told.0 in
    let emptied = c.gap-emptied.ensures.places m.0.start m.0.head q k.head_is k.next_is (omega arith) (omega arith) in
    let gained = c.gap-gained.ensures.places m.0.start (length m.0.seen) (length (m.0.seen ++ told.0)) k.tail_is told.1 (omega arith) (omega arith) in
    let seat = refreshed_seat m.0 x m.1 _ _ _ _ k _ _ ahead c.turn_slots.ensures.2 _ _ _ c.load-tail.ensures.2 (c.gap-gained.result + c.gap-emptied.result) (omega arith) c.turn_slots-2.ensures.2 in
    let on = refresh_on m.0 x m.1 _ _ _ _ k told.0 c.load-tail.result told.2 told.1 in
    record { sized = c.args.self.now.sized ∙ sym (ap (λ t. t.slots) (c.turn_slots-2.ensures.0 ∙ c.load-tail.ensures.0 ∙ c.turn_slots.ensures.0)); sound = subst (λ n. TakerIsSound n c.args.self.now.capacity c.args.self.now.next_take c.args.self.now.head c.load-tail.result) (sym seat) (takes_of _ _ _ _ _ _ _ on) }

pub returns-clause-same : goal.returns-clause-same
returns-clause-same g c = let k = c.args.self.now.sound in let m = c.args.self.now.seat.me in let a = k.within in let b = k.close in let d = k.same in let small = k.size.small in let x : List g.row.T.Denot = items_of m.1 in let q : ℕ = length m.0.seen - length x in
    let gap = c.gap-ahead.ensures.places m.0.start q (length m.0.seen) k.next_is k.tail_is (omega arith) (omega arith) in
    let ahead : c.gap-ahead.result ≡ length x = omega arith in
    let told = told_of m.0 x m.1 _ _ _ _ k _ _ ahead c.turn_slots.ensures.2 _ _ c.load-tail.ensures.2 in let far = told.2 in let grown = length-append m.0.seen told.0 in
    let emptied = c.gap-emptied.ensures.places m.0.start m.0.head q k.head_is k.next_is (omega arith) (omega arith) in
    let gained = c.gap-gained.ensures.places m.0.start (length m.0.seen) (length (m.0.seen ++ told.0)) k.tail_is told.1 (omega arith) (omega arith) in
    let seat = refreshed_seat m.0 x m.1 _ _ _ _ k _ _ ahead c.turn_slots.ensures.2 _ _ _ c.load-tail.ensures.2 (c.gap-gained.result + c.gap-emptied.result) (omega arith) c.turn_slots-2.ensures.2 in
    let on = refresh_on m.0 x m.1 _ _ _ _ k told.0 c.load-tail.result told.2 told.1 in
    let more = length-append x told.0 in (
      (c.turn_slots-2.ensures.0 ∙ c.load-tail.ensures.0 ∙ c.turn_slots.ensures.0, refl),
      ap (λ n. length n.0.seen - length (items_of n.1)) seat ∙ ap (λ l. length (m.0.seen ++ told.0) - length l) (whole _ _ _ _ _ _ _ on) ∙ (let e : length (m.0.seen ++ told.0) - length (x ++ told.0) ≡ q = omega arith in e),
      ap (λ n. n.0.head) seat,
    )

pub returns-clause-tail : goal.returns-clause-tail
returns-clause-tail g c = let k = c.args.self.now.sound in let m = c.args.self.now.seat.me in let a = k.within in let b = k.close in let d = k.same in let small = k.size.small in let x : List g.row.T.Denot = items_of m.1 in let q : ℕ = length m.0.seen - length x in
    let gap = c.gap-ahead.ensures.places m.0.start q (length m.0.seen) k.next_is k.tail_is (omega arith) (omega arith) in
    let ahead : c.gap-ahead.result ≡ length x = omega arith in
    let told = told_of m.0 x m.1 _ _ _ _ k _ _ ahead c.turn_slots.ensures.2 _ _ c.load-tail.ensures.2 in let far = told.2 in let grown = length-append m.0.seen told.0 in
    let emptied = c.gap-emptied.ensures.places m.0.start m.0.head q k.head_is k.next_is (omega arith) (omega arith) in
    let gained = c.gap-gained.ensures.places m.0.start (length m.0.seen) (length (m.0.seen ++ told.0)) k.tail_is told.1 (omega arith) (omega arith) in
    let seat = refreshed_seat m.0 x m.1 _ _ _ _ k _ _ ahead c.turn_slots.ensures.2 _ _ _ c.load-tail.ensures.2 (c.gap-gained.result + c.gap-emptied.result) (omega arith) c.turn_slots-2.ensures.2 in
    let on = refresh_on m.0 x m.1 _ _ _ _ k told.0 c.load-tail.result told.2 told.1 in
    (told.0, ap (λ n. n.0.seen) seat)

pub returns-clause-step : goal.returns-clause-step
returns-clause-step g c = λ number m s tail known. let same = returns-clause-same g c in see_tail number _ _ m s same.0.1 same.1 same.2 tail known

pub returns-clause-items : goal.returns-clause-items
returns-clause-items g c = let same = returns-clause-same g c in let more = returns-clause-tail g c in let m = c.args.self.now.seat.me in
    taken_same m.0.seen _ more.0 (length m.0.seen - length (items_of m.1)) _ (omega arith) more.1 same.1

pub returns-clause-grows : goal.returns-clause-grows
returns-clause-grows g c = let more = returns-clause-tail g c in let m = c.args.self.now.seat.me in omega (arith, ap length more.1, length-append m.0.seen more.0)
