use Rattle.std.proofs.Common.{◌≡◌, ◌≢◌, ℕ, ◌+◌, ◌-◌, ◌<◌, ◌≤◌, List, [], ◌∷◌, ◌++◌, length, take, drop, Some, None, arith, sym, ap, ap₂, ◌∙◌, subst}
use Rattle.atomic_table.specs.Table.{rest, turned}
use Rattle.ring_core.specs.Positions.{position_at, gap}
use Rattle.ring_core.proofs.PlaceLemmas.{position_same}
use Rattle.ring_shared.specs.HeldSlots.{items_of, turned_times}
use Rattle.ring_shared.specs.LocalSound.{LocalIsSound}
use Rattle.ring_shared.proofs.SenderKept.{no_item}
use Rattle.ring_shared.proofs.TakerKept.{cons_of, of_some, value_of}
use Rattle.ring_shared.proofs.LocalKept.{holds_of, shows_ahead, shows_rest, take_turned, take_turned_back, take_on}
use Rattle.ring_shared.specs.LocalHeld.{local_held, local_held_by}
use Rattle.ring_shared.proofs.LocalShown.{shown, take_shown}
use Rattle.ring_shared.proofs.LocalKept.{gap_is}
use Rattle.ring_shared.proofs.local_ring.LocalRing.take.Goals as goal

pub overflow_sub-rest : goal.overflow_sub-rest
overflow_sub-rest g c = let w = c.args.self.now in let k = w.sound in let m = w.seat.me in let x : List g.row.T.Denot = drop (gap w.next_take w.tail_seen) (items_of m.1) in let y : List g.row.T.Denot = take (gap w.next_take w.tail_seen) (items_of m.1) in
    let a = k.inside in let b = k.shown in let d = k.fits in let e = k.gained in let f = k.loaded in let small = k.size.small in let same = k.same in let s : ℕ = length m.0.published + length x in let q : ℕ = length m.0.seen - length y in
    let far : length y ≤ 65536 = omega arith in
    let ne : 0 < length y = let no : q ≢ length m.0.seen = λ z. c.if-self.false (k.taken_is ∙ ap (position_at m.0.start) z ∙ sym k.tail_seen_is) in omega arith in
    let ahead = c.gap.ensures.places m.0.start q (length m.0.seen) k.taken_is k.tail_seen_is (omega arith) (omega arith) in
    omega arith

pub overflow_add-rest : goal.overflow_add-rest
overflow_add-rest g c = let w = c.args.self.now in let k = w.sound in let m = w.seat.me in let x : List g.row.T.Denot = drop (gap w.next_take w.tail_seen) (items_of m.1) in let y : List g.row.T.Denot = take (gap w.next_take w.tail_seen) (items_of m.1) in
    let a = k.inside in let b = k.shown in let d = k.fits in let e = k.gained in let f = k.loaded in let small = k.size.small in let same = k.same in let s : ℕ = length m.0.published + length x in let q : ℕ = length m.0.seen - length y in
    let far : length y ≤ 65536 = omega arith in
    let ne : 0 < length y = let no : q ≢ length m.0.seen = λ z. c.if-self.false (k.taken_is ∙ ap (position_at m.0.start) z ∙ sym k.tail_seen_is) in omega arith in
    let ahead = c.gap.ensures.places m.0.start q (length m.0.seen) k.taken_is k.tail_seen_is (omega arith) (omega arith) in
    let pending = c.gap-2.ensures.places m.0.start (length m.0.published) s k.tail_is k.next_is (omega arith) (omega arith) in
    record { fits = omega arith }

pub overflow_sub-free : goal.overflow_sub-free
overflow_sub-free g c = let w = c.args.self.now in let k = w.sound in let m = w.seat.me in let x : List g.row.T.Denot = drop (gap w.next_take w.tail_seen) (items_of m.1) in let y : List g.row.T.Denot = take (gap w.next_take w.tail_seen) (items_of m.1) in
    let a = k.inside in let b = k.shown in let d = k.fits in let e = k.gained in let f = k.loaded in let small = k.size.small in let same = k.same in let s : ℕ = length m.0.published + length x in let q : ℕ = length m.0.seen - length y in
    let far : length y ≤ 65536 = omega arith in
    let ne : 0 < length y = let no : q ≢ length m.0.seen = λ z. c.if-self.false (k.taken_is ∙ ap (position_at m.0.start) z ∙ sym k.tail_seen_is) in omega arith in
    let ahead = c.gap.ensures.places m.0.start q (length m.0.seen) k.taken_is k.tail_seen_is (omega arith) (omega arith) in
    let pending = c.gap-2.ensures.places m.0.start (length m.0.published) s k.tail_is k.next_is (omega arith) (omega arith) in
    let used = c.gap-3.ensures.places m.0.start (m.0.limit - w.capacity) s k.head_seen_is k.next_is (omega arith) (omega arith) in
    omega arith

pub exchange-requires : goal.exchange-requires
exchange-requires g c = let w = c.args.self.now in let k = w.sound in let m = w.seat.me in let x : List g.row.T.Denot = drop (gap w.next_take w.tail_seen) (items_of m.1) in let y : List g.row.T.Denot = take (gap w.next_take w.tail_seen) (items_of m.1) in
    let a = k.inside in let b = k.shown in let d = k.fits in let e = k.gained in let f = k.loaded in let small = k.size.small in let same = k.same in let s : ℕ = length m.0.published + length x in let q : ℕ = length m.0.seen - length y in
    let far : length y ≤ 65536 = omega arith in
    let ne : 0 < length y = let no : q ≢ length m.0.seen = λ z. c.if-self.false (k.taken_is ∙ ap (position_at m.0.start) z ∙ sym k.tail_seen_is) in omega arith in
    let ahead = c.gap.ensures.places m.0.start q (length m.0.seen) k.taken_is k.tail_seen_is (omega arith) (omega arith) in
    let pending = c.gap-2.ensures.places m.0.start (length m.0.published) s k.tail_is k.next_is (omega arith) (omega arith) in
    let used = c.gap-3.ensures.places m.0.start (m.0.limit - w.capacity) s k.head_seen_is k.next_is (omega arith) (omega arith) in
    let emptied = c.gap-emptied.ensures.places m.0.start m.0.head q k.head_is k.taken_is (omega arith) (omega arith) in
    let p = cons_of y ne in let turn = ap (λ n. n.1) c.turn_slots.ensures.2 ∙ take_turned m.0 x y m.1 _ _ _ _ _ _ _ k p.0 p.1 p.2 c.gap-emptied.result (omega arith) in
    let slot = c.slot_of-slot.ensures.place m.0.start q k.taken_is in
    (c.turn_slots.ensures.0 ∙ w.own_seat, (Some p.0, turn ∙ (λ i. (sym slot i, Some p.0) ∷ sym (ap rest turn) i)))

pub unreachable-requires : goal.unreachable-requires
unreachable-requires g c = let w = c.args.self.now in let k = w.sound in let m = w.seat.me in let x : List g.row.T.Denot = drop (gap w.next_take w.tail_seen) (items_of m.1) in let y : List g.row.T.Denot = take (gap w.next_take w.tail_seen) (items_of m.1) in
    let a = k.inside in let b = k.shown in let d = k.fits in let e = k.gained in let f = k.loaded in let small = k.size.small in let same = k.same in let s : ℕ = length m.0.published + length x in let q : ℕ = length m.0.seen - length y in
    let far : length y ≤ 65536 = omega arith in
    let ne : 0 < length y = let no : q ≢ length m.0.seen = λ z. c.if-self.false (k.taken_is ∙ ap (position_at m.0.start) z ∙ sym k.tail_seen_is) in omega arith in
    let ahead = c.gap.ensures.places m.0.start q (length m.0.seen) k.taken_is k.tail_seen_is (omega arith) (omega arith) in
    let pending = c.gap-2.ensures.places m.0.start (length m.0.published) s k.tail_is k.next_is (omega arith) (omega arith) in
    let used = c.gap-3.ensures.places m.0.start (m.0.limit - w.capacity) s k.head_seen_is k.next_is (omega arith) (omega arith) in
    let emptied = c.gap-emptied.ensures.places m.0.start m.0.head q k.head_is k.taken_is (omega arith) (omega arith) in
    let p = cons_of y ne in let turn = ap (λ n. n.1) c.turn_slots.ensures.2 ∙ take_turned m.0 x y m.1 _ _ _ _ _ _ _ k p.0 p.1 p.2 c.gap-emptied.result (omega arith) in
    let slot = c.slot_of-slot.ensures.place m.0.start q k.taken_is in
    no_item _ _ p.0 _ (rest c.turn_slots.new.seat.me.1) (sym turn ∙ c.exchange.ensures.2 ∙ ap (λ z. (c.slot_of-slot.result, z) ∷ rest c.turn_slots.new.seat.me.1) c.in_default.is)

pub overflow_add-rest-2 : goal.overflow_add-rest-2
overflow_add-rest-2 g c = let w = c.args.self.now in let k = w.sound in let m = w.seat.me in let x : List g.row.T.Denot = drop (gap w.next_take w.tail_seen) (items_of m.1) in let y : List g.row.T.Denot = take (gap w.next_take w.tail_seen) (items_of m.1) in
    let a = k.inside in let b = k.shown in let d = k.fits in let e = k.gained in let f = k.loaded in let small = k.size.small in let same = k.same in let s : ℕ = length m.0.published + length x in let q : ℕ = length m.0.seen - length y in
    let far : length y ≤ 65536 = omega arith in
    let ne : 0 < length y = let no : q ≢ length m.0.seen = λ z. c.if-self.false (k.taken_is ∙ ap (position_at m.0.start) z ∙ sym k.tail_seen_is) in omega arith in
    let ahead = c.gap.ensures.places m.0.start q (length m.0.seen) k.taken_is k.tail_seen_is (omega arith) (omega arith) in
    let pending = c.gap-2.ensures.places m.0.start (length m.0.published) s k.tail_is k.next_is (omega arith) (omega arith) in
    let used = c.gap-3.ensures.places m.0.start (m.0.limit - w.capacity) s k.head_seen_is k.next_is (omega arith) (omega arith) in
    record { fits = omega arith }

pub invariant_of-self-2 : goal.invariant_of-self-2
invariant_of-self-2 g c = let w = c.args.self.now in let k = w.sound in let m = w.seat.me in let x : List g.row.T.Denot = drop (gap w.next_take w.tail_seen) (items_of m.1) in let y : List g.row.T.Denot = take (gap w.next_take w.tail_seen) (items_of m.1) in
    let a = k.inside in let b = k.shown in let d = k.fits in let e = k.gained in let f = k.loaded in let small = k.size.small in let same = k.same in let s : ℕ = length m.0.published + length x in let q : ℕ = length m.0.seen - length y in
    let far : length y ≤ 65536 = omega arith in
    let ne : 0 < length y = let no : q ≢ length m.0.seen = λ z. c.if-self.false (k.taken_is ∙ ap (position_at m.0.start) z ∙ sym k.tail_seen_is) in omega arith in
    let ahead = c.gap.ensures.places m.0.start q (length m.0.seen) k.taken_is k.tail_seen_is (omega arith) (omega arith) in
    let pending = c.gap-2.ensures.places m.0.start (length m.0.published) s k.tail_is k.next_is (omega arith) (omega arith) in
    let used = c.gap-3.ensures.places m.0.start (m.0.limit - w.capacity) s k.head_seen_is k.next_is (omega arith) (omega arith) in
    let emptied = c.gap-emptied.ensures.places m.0.start m.0.head q k.head_is k.taken_is (omega arith) (omega arith) in
    let p = cons_of y ne in let turn = ap (λ n. n.1) c.turn_slots.ensures.2 ∙ take_turned m.0 x y m.1 _ _ _ _ _ _ _ k p.0 p.1 p.2 c.gap-emptied.result (omega arith) in
    let slot = c.slot_of-slot.ensures.place m.0.start q k.taken_is in
    let on = take_on m.0 x y m.1 _ _ _ _ _ _ _ k p.0 p.1 p.2 c.slot_of-slot.result c.next-self.result slot (c.next-self.ensures.place m.0.start q k.taken_is) in
    let view = ap (λ n. n.0) c.turn.ensures.2 ∙ ap (λ n. n.0) c.exchange.ensures.3 ∙ ap (λ n. n.0) c.turn_slots.ensures.2 in
    let held = ap (λ n. n.1) c.turn.ensures.2 ∙ ap (λ n. turned n.1) c.exchange.ensures.3 ∙ ap (λ l. rest l ++ (c.slot_of-slot.result, None) ∷ []) turn in
    let count : ℕ = c.gap.result - 1 + c.gap-2.result + (w.capacity - c.gap-3.result) in
    let fewer : length y ≡ length p.1 + 1 = let z = ap length p.2 in omega arith in
    let seat = c.turn_slots-2.ensures.2 ∙ ap₂ (λ v l. (v, turned_times count l)) view held ∙ ap (λ l. (m.0, l)) (take_turned_back m.0 x y m.1 _ _ _ _ _ _ _ k p.0 p.1 p.2 count c.slot_of-slot.result (omega arith)) in
    let tells = ap (λ n. take (gap c.next-self.result w.tail_seen) (items_of n.1)) seat ∙ shows_ahead _ _ _ _ _ _ _ _ _ _ _ on in
    let hides = ap (λ n. drop (gap c.next-self.result w.tail_seen) (items_of n.1)) seat ∙ shows_rest _ _ _ _ _ _ _ _ _ _ _ on in
    let item : Some p.0 ≡ Some c.in-Some.item = ap value_of (sym turn ∙ c.exchange.ensures.2) ∙ c.in-Some.is in
    record { word_count = w.word_count; own_seat = c.turn_slots-2.ensures.0 ∙ c.turn.ensures.0 ∙ c.exchange.ensures.0 ∙ c.turn_slots.ensures.0 ∙ w.own_seat; sound = subst (λ n. LocalIsSound n w.capacity w.next_put w.tail w.head_seen c.next-self.result w.head w.tail_seen) (sym seat) (holds_of _ _ _ _ _ _ _ _ _ _ _ on) }

pub returns-then-self-clause-none : goal.returns-then-self-clause-none
unfolding local_held
returns-then-self-clause-none g c = let w = c.args.self.now in let k = w.sound in let m = w.seat.me in let x : List g.row.T.Denot = drop (gap w.next_take w.tail_seen) (items_of m.1) in let y : List g.row.T.Denot = take (gap w.next_take w.tail_seen) (items_of m.1) in
    let a = k.inside in let b = k.shown in let d = k.fits in let e = k.gained in let f = k.loaded in let small = k.size.small in let same = k.same in let s : ℕ = length m.0.published + length x in let q : ℕ = length m.0.seen - length y in
    let none : q ≡ length m.0.seen = position_same m.0.start q (length m.0.seen) _ _ k.taken_is k.tail_seen_is (omega arith) (omega arith) c.if-self.true in
    gap_is m.0 x y m.1 _ _ _ _ _ _ _ k ∙ (let z : length y ≡ 0 = omega arith in z)

pub returns-clause-none : goal.returns-clause-none
unfolding local_held
returns-clause-none g c = let w = c.args.self.now in let k = w.sound in let m = w.seat.me in let x : List g.row.T.Denot = drop (gap w.next_take w.tail_seen) (items_of m.1) in let y : List g.row.T.Denot = take (gap w.next_take w.tail_seen) (items_of m.1) in
    let a = k.inside in let b = k.shown in let d = k.fits in let e = k.gained in let f = k.loaded in let small = k.size.small in let same = k.same in let s : ℕ = length m.0.published + length x in let q : ℕ = length m.0.seen - length y in
    let far : length y ≤ 65536 = omega arith in
    let ne : 0 < length y = let no : q ≢ length m.0.seen = λ z. c.if-self.false (k.taken_is ∙ ap (position_at m.0.start) z ∙ sym k.tail_seen_is) in omega arith in
    let ahead = c.gap.ensures.places m.0.start q (length m.0.seen) k.taken_is k.tail_seen_is (omega arith) (omega arith) in
    let pending = c.gap-2.ensures.places m.0.start (length m.0.published) s k.tail_is k.next_is (omega arith) (omega arith) in
    let used = c.gap-3.ensures.places m.0.start (m.0.limit - w.capacity) s k.head_seen_is k.next_is (omega arith) (omega arith) in
    let emptied = c.gap-emptied.ensures.places m.0.start m.0.head q k.head_is k.taken_is (omega arith) (omega arith) in
    let p = cons_of y ne in let turn = ap (λ n. n.1) c.turn_slots.ensures.2 ∙ take_turned m.0 x y m.1 _ _ _ _ _ _ _ k p.0 p.1 p.2 c.gap-emptied.result (omega arith) in
    let slot = c.slot_of-slot.ensures.place m.0.start q k.taken_is in
    let on = take_on m.0 x y m.1 _ _ _ _ _ _ _ k p.0 p.1 p.2 c.slot_of-slot.result c.next-self.result slot (c.next-self.ensures.place m.0.start q k.taken_is) in
    let view = ap (λ n. n.0) c.turn.ensures.2 ∙ ap (λ n. n.0) c.exchange.ensures.3 ∙ ap (λ n. n.0) c.turn_slots.ensures.2 in
    let held = ap (λ n. n.1) c.turn.ensures.2 ∙ ap (λ n. turned n.1) c.exchange.ensures.3 ∙ ap (λ l. rest l ++ (c.slot_of-slot.result, None) ∷ []) turn in
    let count : ℕ = c.gap.result - 1 + c.gap-2.result + (w.capacity - c.gap-3.result) in
    let fewer : length y ≡ length p.1 + 1 = let z = ap length p.2 in omega arith in
    let seat = c.turn_slots-2.ensures.2 ∙ ap₂ (λ v l. (v, turned_times count l)) view held ∙ ap (λ l. (m.0, l)) (take_turned_back m.0 x y m.1 _ _ _ _ _ _ _ k p.0 p.1 p.2 count c.slot_of-slot.result (omega arith)) in
    let item : Some p.0 ≡ Some c.in-Some.item = ap value_of (sym turn ∙ c.exchange.ensures.2) ∙ c.in-Some.is in
    subst (λ (z : ℕ). 0 < z) (sym (gap_is m.0 x y m.1 _ _ _ _ _ _ _ k)) ne

pub returns-clause-taken : goal.returns-clause-taken
unfolding local_held
returns-clause-taken g c = let w = c.args.self.now in let k = w.sound in let m = w.seat.me in let x : List g.row.T.Denot = drop (gap w.next_take w.tail_seen) (items_of m.1) in let y : List g.row.T.Denot = take (gap w.next_take w.tail_seen) (items_of m.1) in
    let a = k.inside in let b = k.shown in let d = k.fits in let e = k.gained in let f = k.loaded in let small = k.size.small in let same = k.same in let s : ℕ = length m.0.published + length x in let q : ℕ = length m.0.seen - length y in
    let far : length y ≤ 65536 = omega arith in
    let ne : 0 < length y = let no : q ≢ length m.0.seen = λ z. c.if-self.false (k.taken_is ∙ ap (position_at m.0.start) z ∙ sym k.tail_seen_is) in omega arith in
    let ahead = c.gap.ensures.places m.0.start q (length m.0.seen) k.taken_is k.tail_seen_is (omega arith) (omega arith) in
    let pending = c.gap-2.ensures.places m.0.start (length m.0.published) s k.tail_is k.next_is (omega arith) (omega arith) in
    let used = c.gap-3.ensures.places m.0.start (m.0.limit - w.capacity) s k.head_seen_is k.next_is (omega arith) (omega arith) in
    let emptied = c.gap-emptied.ensures.places m.0.start m.0.head q k.head_is k.taken_is (omega arith) (omega arith) in
    let p = cons_of y ne in let turn = ap (λ n. n.1) c.turn_slots.ensures.2 ∙ take_turned m.0 x y m.1 _ _ _ _ _ _ _ k p.0 p.1 p.2 c.gap-emptied.result (omega arith) in
    let slot = c.slot_of-slot.ensures.place m.0.start q k.taken_is in
    let on = take_on m.0 x y m.1 _ _ _ _ _ _ _ k p.0 p.1 p.2 c.slot_of-slot.result c.next-self.result slot (c.next-self.ensures.place m.0.start q k.taken_is) in
    let view = ap (λ n. n.0) c.turn.ensures.2 ∙ ap (λ n. n.0) c.exchange.ensures.3 ∙ ap (λ n. n.0) c.turn_slots.ensures.2 in
    let held = ap (λ n. n.1) c.turn.ensures.2 ∙ ap (λ n. turned n.1) c.exchange.ensures.3 ∙ ap (λ l. rest l ++ (c.slot_of-slot.result, None) ∷ []) turn in
    let count : ℕ = c.gap.result - 1 + c.gap-2.result + (w.capacity - c.gap-3.result) in
    let fewer : length y ≡ length p.1 + 1 = let z = ap length p.2 in omega arith in
    let seat = c.turn_slots-2.ensures.2 ∙ ap₂ (λ v l. (v, turned_times count l)) view held ∙ ap (λ l. (m.0, l)) (take_turned_back m.0 x y m.1 _ _ _ _ _ _ _ k p.0 p.1 p.2 count c.slot_of-slot.result (omega arith)) in
    let item : Some p.0 ≡ Some c.in-Some.item = ap value_of (sym turn ∙ c.exchange.ensures.2) ∙ c.in-Some.is in
    let same_item : p.0 ≡ c.in-Some.item = ap (of_some p.0) item in
    take_shown m.0 x y m.1 _ _ _ _ _ _ _ k p.0 p.1 p.2 c.in-Some.item same_item c.next-self.result c.next-self.ensures.value _ _ (shown m.0 x y m.1 _ _ _ _ _ _ _ k) (ap (λ n. local_held_by n w.capacity w.next_put w.head_seen c.next-self.result w.head w.tail_seen) seat ∙ shown _ _ _ _ _ _ _ _ _ _ _ on)
