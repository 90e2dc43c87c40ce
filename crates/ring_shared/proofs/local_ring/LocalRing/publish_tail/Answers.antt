use Rattle.std.proofs.Common.{◌≡◌, ℕ, ◌+◌, ◌-◌, List, length, take, drop, arith, sym, ap, ◌∙◌, subst}
use Rattle.ring_shared.specs.HeldSlots.{items_of}
use Rattle.ring_shared.specs.LocalSound.{LocalIsSound}
use Rattle.ring_shared.proofs.LocalKept.{holds_of, shows_ahead, shows_rest, may_publish, published_seat, publish_on}
use Rattle.ring_core.specs.Positions.{gap}
use Rattle.ring_core.specs.Slots.{with_tail}
use Rattle.ring_shared.specs.LocalHeld.{local_held, local_held_by}
use Rattle.ring_shared.proofs.LocalShown.{shown, tail_shown}
use Rattle.ring_shared.proofs.local_ring.LocalRing.publish_tail.Goals as goal

pub overflow_sub-free : goal.overflow_sub-free
overflow_sub-free g c = let w = c.args.self.now in let k = w.sound in let m = w.seat.me in let x : List g.row.T.Denot = drop (gap w.next_take w.tail_seen) (items_of m.1) in let y : List g.row.T.Denot = take (gap w.next_take w.tail_seen) (items_of m.1) in
    let a = k.inside in let b = k.shown in let d = k.fits in let e = k.gained in let f = k.loaded in let small = k.size.small in let s : ℕ = length m.0.published + length x in
    let used = c.gap.ensures.places m.0.start (m.0.limit - w.capacity) s k.head_seen_is k.next_is (omega arith) (omega arith) in
    omega arith

pub store-requires : goal.store-requires
store-requires g c = let w = c.args.self.now in let k = w.sound in let m = w.seat.me in let x : List g.row.T.Denot = drop (gap w.next_take w.tail_seen) (items_of m.1) in let y : List g.row.T.Denot = take (gap w.next_take w.tail_seen) (items_of m.1) in
    let a = k.inside in let b = k.shown in let d = k.fits in let e = k.gained in let f = k.loaded in let small = k.size.small in let s : ℕ = length m.0.published + length x in
    let used = c.gap.ensures.places m.0.start (m.0.limit - w.capacity) s k.head_seen_is k.next_is (omega arith) (omega arith) in
    let front = c.gap-front.ensures.places m.0.start m.0.head (length m.0.seen) k.head_is k.tail_seen_is (omega arith) (omega arith) in
    let free : w.capacity - c.gap.result ≡ m.0.limit - s = omega arith in
    (c.turn_slots.ensures.0 ∙ w.own_seat, omega (arith, w.word_count), may_publish m.0 x y m.1 _ _ _ _ _ _ _ k _ _ front c.turn_slots.ensures.2 _ _)

pub invariant_of-self-2 : goal.invariant_of-self-2
invariant_of-self-2 g c = let w = c.args.self.now in let k = w.sound in let m = w.seat.me in let x : List g.row.T.Denot = drop (gap w.next_take w.tail_seen) (items_of m.1) in let y : List g.row.T.Denot = take (gap w.next_take w.tail_seen) (items_of m.1) in
    let a = k.inside in let b = k.shown in let d = k.fits in let e = k.gained in let f = k.loaded in let small = k.size.small in let s : ℕ = length m.0.published + length x in
    let used = c.gap.ensures.places m.0.start (m.0.limit - w.capacity) s k.head_seen_is k.next_is (omega arith) (omega arith) in
    let front = c.gap-front.ensures.places m.0.start m.0.head (length m.0.seen) k.head_is k.tail_seen_is (omega arith) (omega arith) in
    let free : w.capacity - c.gap.result ≡ m.0.limit - s = omega arith in
    let seat = published_seat m.0 x y m.1 _ _ _ _ _ _ _ k _ _ front c.turn_slots.ensures.2 _ _ _ free c.store.ensures.2 c.turn_slots-2.ensures.2 in
    let on = publish_on m.0 x y m.1 _ _ _ _ _ _ _ k _ _ front c.turn_slots.ensures.2 in
    let tells = ap (λ n. take (gap w.next_take w.tail_seen) (items_of n.1)) seat ∙ shows_ahead _ _ _ _ _ _ _ _ _ _ _ on in
    let hides = ap (λ n. drop (gap w.next_take w.tail_seen) (items_of n.1)) seat ∙ shows_rest _ _ _ _ _ _ _ _ _ _ _ on in
    record { word_count = w.word_count; own_seat = c.turn_slots-2.ensures.0 ∙ c.store.ensures.0 ∙ c.turn_slots.ensures.0 ∙ w.own_seat; sound = subst (λ n. LocalIsSound n w.capacity w.next_put w.next_put w.head_seen w.next_take w.head w.tail_seen) (sym seat) (holds_of _ _ _ _ _ _ _ _ _ _ _ on) }

pub returns : goal.returns
unfolding local_held
returns g c = let w = c.args.self.now in let k = w.sound in let m = w.seat.me in let x : List g.row.T.Denot = drop (gap w.next_take w.tail_seen) (items_of m.1) in let y : List g.row.T.Denot = take (gap w.next_take w.tail_seen) (items_of m.1) in
    let a = k.inside in let b = k.shown in let d = k.fits in let e = k.gained in let f = k.loaded in let small = k.size.small in let s : ℕ = length m.0.published + length x in
    let used = c.gap.ensures.places m.0.start (m.0.limit - w.capacity) s k.head_seen_is k.next_is (omega arith) (omega arith) in
    let front = c.gap-front.ensures.places m.0.start m.0.head (length m.0.seen) k.head_is k.tail_seen_is (omega arith) (omega arith) in
    let free : w.capacity - c.gap.result ≡ m.0.limit - s = omega arith in
    let seat = published_seat m.0 x y m.1 _ _ _ _ _ _ _ k _ _ front c.turn_slots.ensures.2 _ _ _ free c.store.ensures.2 c.turn_slots-2.ensures.2 in
    let on = publish_on m.0 x y m.1 _ _ _ _ _ _ _ k _ _ front c.turn_slots.ensures.2 in
    ap (λ n. local_held_by n w.capacity w.next_put w.head_seen w.next_take w.head w.tail_seen) seat ∙ shown _ _ _ _ _ _ _ _ _ _ _ on ∙ tail_shown m.0 x y m.1 _ _ _ _ _ _ _ k ∙ ap with_tail (sym (shown m.0 x y m.1 _ _ _ _ _ _ _ k))
