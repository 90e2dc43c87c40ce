use Rattle.std.proofs.Common.{ℕ, ◌+◌, ◌-◌, ◌<◌, List, [], ◌∷◌, ◌++◌, length, take, drop, Some, None, arith, sym, ap, ap₂, ◌∙◌, subst}
use Rattle.atomic_table.specs.Table.{rest, turned}
use Rattle.ring_shared.specs.HeldSlots.{items_of, turned_times}
use Rattle.ring_shared.specs.LocalSound.{LocalIsSound}
use Rattle.ring_shared.proofs.SenderKept.{no_item}
use Rattle.ring_shared.proofs.LocalKept.{holds_of, shows_ahead, shows_rest, put_turned, put_turned_back, put_on}
use Rattle.ring_core.specs.Positions.{gap}
use Rattle.ring_core.specs.Slots.{with_put}
use Rattle.ring_shared.specs.LocalHeld.{local_held, local_held_by}
use Rattle.ring_shared.proofs.LocalShown.{shown, put_shown}
use Rattle.ring_shared.proofs.local_ring.LocalRing.put.Goals as goal

pub overflow_sub-free : goal.overflow_sub-free
unfolding local_held
overflow_sub-free g c = let w = c.args.self.now in let k = w.sound in let m = w.seat.me in let x : List g.row.T.Denot = drop (gap w.next_take w.tail_seen) (items_of m.1) in let y : List g.row.T.Denot = take (gap w.next_take w.tail_seen) (items_of m.1) in
    let a = k.inside in let b = k.shown in let d = k.fits in let e = k.gained in let f = k.loaded in let small = k.size.small in let s : ℕ = length m.0.published + length x in
    let used = c.gap.ensures.places m.0.start (m.0.limit - w.capacity) s k.head_seen_is k.next_is (omega arith) (omega arith) in
    omega arith

pub overflow_add-front : goal.overflow_add-front
unfolding local_held
overflow_add-front g c = let w = c.args.self.now in let k = w.sound in let m = w.seat.me in let x : List g.row.T.Denot = drop (gap w.next_take w.tail_seen) (items_of m.1) in let y : List g.row.T.Denot = take (gap w.next_take w.tail_seen) (items_of m.1) in
    let a = k.inside in let b = k.shown in let d = k.fits in let e = k.gained in let f = k.loaded in let small = k.size.small in let s : ℕ = length m.0.published + length x in
    let used = c.gap.ensures.places m.0.start (m.0.limit - w.capacity) s k.head_seen_is k.next_is (omega arith) (omega arith) in
    let room : 0 < w.capacity - gap w.head_seen w.next_put = c.requires in let lt : s < m.0.limit = omega arith in
    let one = c.gap-2.ensures.places m.0.start m.0.head (length m.0.seen) k.head_is k.tail_seen_is (omega arith) (omega arith) in
    let two = c.gap-3.ensures.places m.0.start (length m.0.published) s k.tail_is k.next_is (omega arith) (omega arith) in
    record { fits = omega arith }

pub exchange-requires : goal.exchange-requires
unfolding local_held
exchange-requires g c = let w = c.args.self.now in let k = w.sound in let m = w.seat.me in let x : List g.row.T.Denot = drop (gap w.next_take w.tail_seen) (items_of m.1) in let y : List g.row.T.Denot = take (gap w.next_take w.tail_seen) (items_of m.1) in
    let a = k.inside in let b = k.shown in let d = k.fits in let e = k.gained in let f = k.loaded in let small = k.size.small in let s : ℕ = length m.0.published + length x in
    let used = c.gap.ensures.places m.0.start (m.0.limit - w.capacity) s k.head_seen_is k.next_is (omega arith) (omega arith) in
    let room : 0 < w.capacity - gap w.head_seen w.next_put = c.requires in let lt : s < m.0.limit = omega arith in
    let one = c.gap-2.ensures.places m.0.start m.0.head (length m.0.seen) k.head_is k.tail_seen_is (omega arith) (omega arith) in
    let two = c.gap-3.ensures.places m.0.start (length m.0.published) s k.tail_is k.next_is (omega arith) (omega arith) in
    let turn = ap (λ n. n.1) c.turn_slots.ensures.2 ∙ put_turned m.0 x y m.1 _ _ _ _ _ _ _ k (c.gap-2.result + c.gap-3.result) (omega arith) lt in
    let slot = c.slot_of-slot.ensures.place m.0.start s k.next_is in
    (c.turn_slots.ensures.0 ∙ w.own_seat, (None, turn ∙ (λ i. (sym slot i, None) ∷ sym (ap rest turn) i)))

pub unreachable-requires : goal.unreachable-requires
unfolding local_held
unreachable-requires g c = let w = c.args.self.now in let k = w.sound in let m = w.seat.me in let x : List g.row.T.Denot = drop (gap w.next_take w.tail_seen) (items_of m.1) in let y : List g.row.T.Denot = take (gap w.next_take w.tail_seen) (items_of m.1) in
    let a = k.inside in let b = k.shown in let d = k.fits in let e = k.gained in let f = k.loaded in let small = k.size.small in let s : ℕ = length m.0.published + length x in
    let used = c.gap.ensures.places m.0.start (m.0.limit - w.capacity) s k.head_seen_is k.next_is (omega arith) (omega arith) in
    let room : 0 < w.capacity - gap w.head_seen w.next_put = c.requires in let lt : s < m.0.limit = omega arith in
    let one = c.gap-2.ensures.places m.0.start m.0.head (length m.0.seen) k.head_is k.tail_seen_is (omega arith) (omega arith) in
    let two = c.gap-3.ensures.places m.0.start (length m.0.published) s k.tail_is k.next_is (omega arith) (omega arith) in
    let turn = ap (λ n. n.1) c.turn_slots.ensures.2 ∙ put_turned m.0 x y m.1 _ _ _ _ _ _ _ k (c.gap-2.result + c.gap-3.result) (omega arith) lt in
    let slot = c.slot_of-slot.ensures.place m.0.start s k.next_is in
    no_item _ _ c.in-Some.field-0 (rest c.turn_slots.new.seat.me.1) _ (ap (λ z. (c.slot_of-slot.result, z) ∷ rest c.turn_slots.new.seat.me.1) (sym c.in-Some.is) ∙ sym c.exchange.ensures.2 ∙ turn)

pub invariant_of-self-2 : goal.invariant_of-self-2
unfolding local_held
invariant_of-self-2 g c = let w = c.args.self.now in let k = w.sound in let m = w.seat.me in let x : List g.row.T.Denot = drop (gap w.next_take w.tail_seen) (items_of m.1) in let y : List g.row.T.Denot = take (gap w.next_take w.tail_seen) (items_of m.1) in
    let a = k.inside in let b = k.shown in let d = k.fits in let e = k.gained in let f = k.loaded in let small = k.size.small in let s : ℕ = length m.0.published + length x in
    let used = c.gap.ensures.places m.0.start (m.0.limit - w.capacity) s k.head_seen_is k.next_is (omega arith) (omega arith) in
    let room : 0 < w.capacity - gap w.head_seen w.next_put = c.requires in let lt : s < m.0.limit = omega arith in
    let one = c.gap-2.ensures.places m.0.start m.0.head (length m.0.seen) k.head_is k.tail_seen_is (omega arith) (omega arith) in
    let two = c.gap-3.ensures.places m.0.start (length m.0.published) s k.tail_is k.next_is (omega arith) (omega arith) in
    let turn = ap (λ n. n.1) c.turn_slots.ensures.2 ∙ put_turned m.0 x y m.1 _ _ _ _ _ _ _ k (c.gap-2.result + c.gap-3.result) (omega arith) lt in
    let slot = c.slot_of-slot.ensures.place m.0.start s k.next_is in
    let on = put_on m.0 x y m.1 _ _ _ _ _ _ _ k c.slot_of-slot.result c.next-self.result c.args.item lt slot (c.next-self.ensures.place m.0.start s k.next_is) in
    let view = ap (λ n. n.0) c.turn.ensures.2 ∙ ap (λ n. n.0) c.exchange.ensures.3 ∙ ap (λ n. n.0) c.turn_slots.ensures.2 in
    let held = ap (λ n. n.1) c.turn.ensures.2 ∙ ap (λ n. turned n.1) c.exchange.ensures.3 ∙ ap (λ l. rest l ++ (c.slot_of-slot.result, Some c.args.item) ∷ []) turn in
    let seat = c.turn_slots-2.ensures.2 ∙ ap₂ (λ v l. (v, turned_times (w.capacity - c.gap.result - 1) l)) view held ∙ ap (λ l. (m.0, l)) (put_turned_back m.0 x y m.1 _ _ _ _ _ _ _ k (w.capacity - c.gap.result - 1) c.slot_of-slot.result c.args.item (omega arith)) in
    let tells = ap (λ n. take (gap w.next_take w.tail_seen) (items_of n.1)) seat ∙ shows_ahead _ _ _ _ _ _ _ _ _ _ _ on in
    let hides = ap (λ n. drop (gap w.next_take w.tail_seen) (items_of n.1)) seat ∙ shows_rest _ _ _ _ _ _ _ _ _ _ _ on in
    record { word_count = w.word_count; own_seat = c.turn_slots-2.ensures.0 ∙ c.turn.ensures.0 ∙ c.exchange.ensures.0 ∙ c.turn_slots.ensures.0 ∙ w.own_seat; sound = subst (λ n. LocalIsSound n w.capacity c.next-self.result w.tail w.head_seen w.next_take w.head w.tail_seen) (sym seat) (holds_of _ _ _ _ _ _ _ _ _ _ _ on) }

pub returns : goal.returns
unfolding local_held
returns g c = let w = c.args.self.now in let k = w.sound in let m = w.seat.me in let x : List g.row.T.Denot = drop (gap w.next_take w.tail_seen) (items_of m.1) in let y : List g.row.T.Denot = take (gap w.next_take w.tail_seen) (items_of m.1) in
    let a = k.inside in let b = k.shown in let d = k.fits in let e = k.gained in let f = k.loaded in let small = k.size.small in let s : ℕ = length m.0.published + length x in
    let used = c.gap.ensures.places m.0.start (m.0.limit - w.capacity) s k.head_seen_is k.next_is (omega arith) (omega arith) in
    let room : 0 < w.capacity - gap w.head_seen w.next_put = c.requires in let lt : s < m.0.limit = omega arith in
    let one = c.gap-2.ensures.places m.0.start m.0.head (length m.0.seen) k.head_is k.tail_seen_is (omega arith) (omega arith) in
    let two = c.gap-3.ensures.places m.0.start (length m.0.published) s k.tail_is k.next_is (omega arith) (omega arith) in
    let turn = ap (λ n. n.1) c.turn_slots.ensures.2 ∙ put_turned m.0 x y m.1 _ _ _ _ _ _ _ k (c.gap-2.result + c.gap-3.result) (omega arith) lt in
    let slot = c.slot_of-slot.ensures.place m.0.start s k.next_is in
    let on = put_on m.0 x y m.1 _ _ _ _ _ _ _ k c.slot_of-slot.result c.next-self.result c.args.item lt slot (c.next-self.ensures.place m.0.start s k.next_is) in
    let view = ap (λ n. n.0) c.turn.ensures.2 ∙ ap (λ n. n.0) c.exchange.ensures.3 ∙ ap (λ n. n.0) c.turn_slots.ensures.2 in
    let held = ap (λ n. n.1) c.turn.ensures.2 ∙ ap (λ n. turned n.1) c.exchange.ensures.3 ∙ ap (λ l. rest l ++ (c.slot_of-slot.result, Some c.args.item) ∷ []) turn in
    let seat = c.turn_slots-2.ensures.2 ∙ ap₂ (λ v l. (v, turned_times (w.capacity - c.gap.result - 1) l)) view held ∙ ap (λ l. (m.0, l)) (put_turned_back m.0 x y m.1 _ _ _ _ _ _ _ k (w.capacity - c.gap.result - 1) c.slot_of-slot.result c.args.item (omega arith)) in
    ap (λ n. local_held_by n w.capacity c.next-self.result w.head_seen w.next_take w.head w.tail_seen) seat ∙ shown _ _ _ _ _ _ _ _ _ _ _ on ∙ put_shown m.0 x y m.1 _ _ _ _ _ _ _ k c.args.item c.next-self.result c.next-self.ensures.value ∙ ap (with_put c.args.item) (sym (shown m.0 x y m.1 _ _ _ _ _ _ _ k))
