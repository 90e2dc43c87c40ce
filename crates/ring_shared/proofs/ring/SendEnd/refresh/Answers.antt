use Rattle.std.proofs.Common.{◌≡◌, ℕ, ◌+◌, ◌-◌, ◌<◌, ◌++◌, length, arith, refl, sym, ap, ◌∙◌, subst}
use Rattle.ring_core.proofs.PlaceLemmas.{position_lt}
use Rattle.ring_shared.specs.HeldSlots.{items_of}
use Rattle.ring_shared.specs.Sound.{SenderIsSound}
use Rattle.ring_shared.proofs.SenderKept.{whole, sends_of, refresh_on, may_refresh, told_of, refreshed_seat}
use Rattle.ring_shared.proofs.CoreSteps.{see_head}
use Rattle.ring_shared.proofs.ring.SendEnd.refresh.Goals as goal

pub overflow_sub-free : goal.overflow_sub-free
overflow_sub-free g c = let k = c.args.self.now.sound in let m = c.args.self.now.seat.me in let a = k.loaded in let b = k.close in let d = k.fits in let small = k.size.small in
    let gap = c.gap.ensures.places m.0.start (m.0.limit - c.args.self.now.capacity) (length m.0.published + length (items_of m.1)) k.head_is k.next_is (omega arith) (omega arith) in omega arith

pub load-head-requires : goal.load-head-requires
load-head-requires g c = let k = c.args.self.now.sound in let m = c.args.self.now.seat.me in let a = k.loaded in let b = k.close in let d = k.fits in let small = k.size.small in
    let gap = c.gap.ensures.places m.0.start (m.0.limit - c.args.self.now.capacity) (length m.0.published + length (items_of m.1)) k.head_is k.next_is (omega arith) (omega arith) in
    (c.turn_slots.ensures.0 ∙ c.requires, omega (arith, c.args.ring.now.word_count), may_refresh _ m.0 (items_of m.1) m.1 _ _ _ _ (c.args.self.now.capacity - c.gap.result) k (omega arith) c.turn_slots.ensures.2 _ _)

pub overflow_cast-head : goal.overflow_cast-head
overflow_cast-head g c = let k = c.args.self.now.sound in let m = c.args.self.now.seat.me in let a = k.loaded in let b = k.close in let d = k.fits in let small = k.size.small in
    let gap = c.gap.ensures.places m.0.start (m.0.limit - c.args.self.now.capacity) (length m.0.published + length (items_of m.1)) k.head_is k.next_is (omega arith) (omega arith) in
    let free : c.args.self.now.capacity - c.gap.result ≡ m.0.limit - (length m.0.published + length (items_of m.1)) = omega arith in
    let told = told_of _ m.0 (items_of m.1) m.1 _ _ _ _ (c.args.self.now.capacity - c.gap.result) k free c.turn_slots.ensures.2 _ _ c.load-head.ensures.2 in
    record { fits = subst (λ (x : ℕ). x < 4294967296) (sym told.1) (position_lt m.0.start told.0) }

pub overflow_add-gained : goal.overflow_add-gained
overflow_add-gained g c = let k = c.args.self.now.sound in let m = c.args.self.now.seat.me in let a = k.loaded in let b = k.close in let d = k.fits in let small = k.size.small in
    let gap = c.gap.ensures.places m.0.start (m.0.limit - c.args.self.now.capacity) (length m.0.published + length (items_of m.1)) k.head_is k.next_is (omega arith) (omega arith) in
    let free : c.args.self.now.capacity - c.gap.result ≡ m.0.limit - (length m.0.published + length (items_of m.1)) = omega arith in
    let told = told_of _ m.0 (items_of m.1) m.1 _ _ _ _ (c.args.self.now.capacity - c.gap.result) k free c.turn_slots.ensures.2 _ _ c.load-head.ensures.2 in
    let same = k.same in let far = told.2 in let near = told.3 in
    let waiting = c.gap-pending.ensures.places m.0.start (length m.0.published) (length m.0.published + length (items_of m.1)) k.tail_is k.next_is (omega arith) (omega arith) in
    let gained = c.gap-gained.ensures.places m.0.start (m.0.limit - c.args.self.now.capacity) told.0 k.head_is told.1 (omega arith) (omega arith) in
    record { fits = omega arith }

pub invariant_of-self : goal.invariant_of-self
invariant_of-self g c = let k = c.args.self.now.sound in let m = c.args.self.now.seat.me in let a = k.loaded in let b = k.close in let d = k.fits in let small = k.size.small in
    let gap = c.gap.ensures.places m.0.start (m.0.limit - c.args.self.now.capacity) (length m.0.published + length (items_of m.1)) k.head_is k.next_is (omega arith) (omega arith) in
    let free : c.args.self.now.capacity - c.gap.result ≡ m.0.limit - (length m.0.published + length (items_of m.1)) = omega arith in
    let told = told_of _ m.0 (items_of m.1) m.1 _ _ _ _ (c.args.self.now.capacity - c.gap.result) k free c.turn_slots.ensures.2 _ _ c.load-head.ensures.2 in
    let same = k.same in let far = told.2 in let near = told.3 in
    let waiting = c.gap-pending.ensures.places m.0.start (length m.0.published) (length m.0.published + length (items_of m.1)) k.tail_is k.next_is (omega arith) (omega arith) in
    let gained = c.gap-gained.ensures.places m.0.start (m.0.limit - c.args.self.now.capacity) told.0 k.head_is told.1 (omega arith) (omega arith) in
    let seat = refreshed_seat _ m.0 (items_of m.1) m.1 _ _ _ _ (c.args.self.now.capacity - c.gap.result) k free c.turn_slots.ensures.2 _ _ _ c.load-head.ensures.2 (c.gap-gained.result + c.gap-pending.result) (omega arith) c.turn_slots-2.ensures.2 in
    let on = refresh_on m.0 (items_of m.1) m.1 _ _ _ _ k told.0 c.load-head.result told.2 told.3 told.1 in
    record { sized = c.args.self.now.sized ∙ sym (ap (λ t. t.slots) (c.turn_slots-2.ensures.0 ∙ c.load-head.ensures.0 ∙ c.turn_slots.ensures.0)); sound = subst (λ n. SenderIsSound n c.args.self.now.capacity c.args.self.now.next_put c.args.self.now.tail c.load-head.result) (sym seat) (sends_of _ _ _ _ _ _ _ on) }

pub returns-clause-same : goal.returns-clause-same
returns-clause-same g c = let k = c.args.self.now.sound in let m = c.args.self.now.seat.me in let a = k.loaded in let b = k.close in let d = k.fits in let small = k.size.small in
    let gap = c.gap.ensures.places m.0.start (m.0.limit - c.args.self.now.capacity) (length m.0.published + length (items_of m.1)) k.head_is k.next_is (omega arith) (omega arith) in
    let free : c.args.self.now.capacity - c.gap.result ≡ m.0.limit - (length m.0.published + length (items_of m.1)) = omega arith in
    let told = told_of _ m.0 (items_of m.1) m.1 _ _ _ _ (c.args.self.now.capacity - c.gap.result) k free c.turn_slots.ensures.2 _ _ c.load-head.ensures.2 in
    let same = k.same in let far = told.2 in let near = told.3 in
    let waiting = c.gap-pending.ensures.places m.0.start (length m.0.published) (length m.0.published + length (items_of m.1)) k.tail_is k.next_is (omega arith) (omega arith) in
    let gained = c.gap-gained.ensures.places m.0.start (m.0.limit - c.args.self.now.capacity) told.0 k.head_is told.1 (omega arith) (omega arith) in
    let seat = refreshed_seat _ m.0 (items_of m.1) m.1 _ _ _ _ (c.args.self.now.capacity - c.gap.result) k free c.turn_slots.ensures.2 _ _ _ c.load-head.ensures.2 (c.gap-gained.result + c.gap-pending.result) (omega arith) c.turn_slots-2.ensures.2 in
    let on = refresh_on m.0 (items_of m.1) m.1 _ _ _ _ k told.0 c.load-head.result told.2 told.3 told.1 in (
      (c.turn_slots-2.ensures.0 ∙ c.load-head.ensures.0 ∙ c.turn_slots.ensures.0, refl),
      ap (λ n. n.0.published ++ items_of n.1) seat ∙ ap (λ l. m.0.published ++ l) (whole _ _ _ _ _ _ _ on),
      ap (λ n. n.0.published) seat,
    )

pub returns-clause-head : goal.returns-clause-head
returns-clause-head g c = let k = c.args.self.now.sound in let m = c.args.self.now.seat.me in let a = k.loaded in let b = k.close in let d = k.fits in let small = k.size.small in
    let gap = c.gap.ensures.places m.0.start (m.0.limit - c.args.self.now.capacity) (length m.0.published + length (items_of m.1)) k.head_is k.next_is (omega arith) (omega arith) in
    let free : c.args.self.now.capacity - c.gap.result ≡ m.0.limit - (length m.0.published + length (items_of m.1)) = omega arith in
    let told = told_of _ m.0 (items_of m.1) m.1 _ _ _ _ (c.args.self.now.capacity - c.gap.result) k free c.turn_slots.ensures.2 _ _ c.load-head.ensures.2 in
    let same = k.same in let far = told.2 in let near = told.3 in
    let waiting = c.gap-pending.ensures.places m.0.start (length m.0.published) (length m.0.published + length (items_of m.1)) k.tail_is k.next_is (omega arith) (omega arith) in
    let gained = c.gap-gained.ensures.places m.0.start (m.0.limit - c.args.self.now.capacity) told.0 k.head_is told.1 (omega arith) (omega arith) in
    let seat = refreshed_seat _ m.0 (items_of m.1) m.1 _ _ _ _ (c.args.self.now.capacity - c.gap.result) k free c.turn_slots.ensures.2 _ _ _ c.load-head.ensures.2 (c.gap-gained.result + c.gap-pending.result) (omega arith) c.turn_slots-2.ensures.2 in
    let on = refresh_on m.0 (items_of m.1) m.1 _ _ _ _ k told.0 c.load-head.result told.2 told.3 told.1 in
    let limit = ap (λ n. n.0.limit) seat in let sent = ap (λ n. length n.0.published) seat in (omega arith, omega arith)

pub returns-clause-step : goal.returns-clause-step
returns-clause-step g c = λ number m s head. let same = returns-clause-same g c in see_head number _ _ m s same.0.1 same.1 same.2 head
