use Rattle.std.proofs.Common.{◌≡◌, ℕ, ◌+◌, ◌-◌, ◌<◌, List, ◌++◌, length, take, drop, arith, sym, ap, ◌∙◌, subst, length-append}
use Rattle.ring_core.specs.Positions.{gap}
use Rattle.ring_core.proofs.PlaceLemmas.{position_lt}
use Rattle.ring_shared.specs.HeldSlots.{items_of}
use Rattle.ring_shared.specs.LocalSound.{LocalIsSound}
use Rattle.ring_shared.proofs.RuleKept.{fills}
use Rattle.ring_shared.proofs.LocalKept.{holds_of, shows_ahead, shows_rest, tail_told_of, tail_seat, tail_on}
use Rattle.ring_core.specs.Slots.{with_tail_seen}
use Rattle.ring_shared.specs.LocalHeld.{local_held, local_held_by}
use Rattle.ring_shared.proofs.LocalShown.{shown, tail_seen_shown}
use Rattle.ring_shared.proofs.local_ring.LocalRing.see_tail.Goals as goal

pub overflow_sub-back : goal.overflow_sub-back
overflow_sub-back g c = let w = c.args.self.now in let k = w.sound in let m = w.seat.me in let x : List g.row.T.Denot = drop (gap w.next_take w.tail_seen) (items_of m.1) in let y : List g.row.T.Denot = take (gap w.next_take w.tail_seen) (items_of m.1) in
    let a = k.inside in let b = k.shown in let d = k.fits in let e = k.gained in let f = k.loaded in let small = k.size.small in let same = k.same in let s : ℕ = length m.0.published + length x in let q : ℕ = length m.0.seen - length y in
    let used = c.gap-2.ensures.places m.0.start (m.0.limit - w.capacity) s k.head_seen_is k.next_is (omega arith) (omega arith) in
    omega arith

pub overflow_add-back : goal.overflow_add-back
overflow_add-back g c = let w = c.args.self.now in let k = w.sound in let m = w.seat.me in let x : List g.row.T.Denot = drop (gap w.next_take w.tail_seen) (items_of m.1) in let y : List g.row.T.Denot = take (gap w.next_take w.tail_seen) (items_of m.1) in
    let a = k.inside in let b = k.shown in let d = k.fits in let e = k.gained in let f = k.loaded in let small = k.size.small in let same = k.same in let s : ℕ = length m.0.published + length x in let q : ℕ = length m.0.seen - length y in
    let used = c.gap-2.ensures.places m.0.start (m.0.limit - w.capacity) s k.head_seen_is k.next_is (omega arith) (omega arith) in
    let pending = c.gap.ensures.places m.0.start (length m.0.published) s k.tail_is k.next_is (omega arith) (omega arith) in
    record { fits = omega arith }

pub load-tail-requires : goal.load-tail-requires
load-tail-requires g c = let w = c.args.self.now in let k = w.sound in let m = w.seat.me in let x : List g.row.T.Denot = drop (gap w.next_take w.tail_seen) (items_of m.1) in let y : List g.row.T.Denot = take (gap w.next_take w.tail_seen) (items_of m.1) in
    let a = k.inside in let b = k.shown in let d = k.fits in let e = k.gained in let f = k.loaded in let small = k.size.small in let same = k.same in let s : ℕ = length m.0.published + length x in let q : ℕ = length m.0.seen - length y in
    let used = c.gap-2.ensures.places m.0.start (m.0.limit - w.capacity) s k.head_seen_is k.next_is (omega arith) (omega arith) in
    let pending = c.gap.ensures.places m.0.start (length m.0.published) s k.tail_is k.next_is (omega arith) (omega arith) in
    let front = c.gap-front.ensures.places m.0.start m.0.head (length m.0.seen) k.head_is k.tail_seen_is (omega arith) (omega arith) in
    (c.turn_slots.ensures.0 ∙ w.own_seat, omega (arith, w.word_count), fills _ _ _ (ap (λ z. z.0.takes) c.turn_slots.ensures.2 ∙ k.takes))

pub overflow_cast-tail : goal.overflow_cast-tail
overflow_cast-tail g c = let w = c.args.self.now in let k = w.sound in let m = w.seat.me in let x : List g.row.T.Denot = drop (gap w.next_take w.tail_seen) (items_of m.1) in let y : List g.row.T.Denot = take (gap w.next_take w.tail_seen) (items_of m.1) in
    let a = k.inside in let b = k.shown in let d = k.fits in let e = k.gained in let f = k.loaded in let small = k.size.small in let same = k.same in let s : ℕ = length m.0.published + length x in let q : ℕ = length m.0.seen - length y in
    let used = c.gap-2.ensures.places m.0.start (m.0.limit - w.capacity) s k.head_seen_is k.next_is (omega arith) (omega arith) in
    let pending = c.gap.ensures.places m.0.start (length m.0.published) s k.tail_is k.next_is (omega arith) (omega arith) in
    let front = c.gap-front.ensures.places m.0.start m.0.head (length m.0.seen) k.head_is k.tail_seen_is (omega arith) (omega arith) in
    let told = c.load-tail.ensures.2 in let t = tail_told_of m.0 x y m.1 _ _ _ _ _ _ _ k _ _ front c.turn_slots.ensures.2 _ _ told in let all = t.4 k.sends in let grown = length-append m.0.seen t.0 in let whole = ap length all in
    record { fits = subst (λ (z : ℕ). z < 4294967296) (sym t.1) (position_lt m.0.start (length (m.0.seen ++ t.0))) }

pub overflow_add-gained : goal.overflow_add-gained
overflow_add-gained g c = let w = c.args.self.now in let k = w.sound in let m = w.seat.me in let x : List g.row.T.Denot = drop (gap w.next_take w.tail_seen) (items_of m.1) in let y : List g.row.T.Denot = take (gap w.next_take w.tail_seen) (items_of m.1) in
    let a = k.inside in let b = k.shown in let d = k.fits in let e = k.gained in let f = k.loaded in let small = k.size.small in let same = k.same in let s : ℕ = length m.0.published + length x in let q : ℕ = length m.0.seen - length y in
    let used = c.gap-2.ensures.places m.0.start (m.0.limit - w.capacity) s k.head_seen_is k.next_is (omega arith) (omega arith) in
    let pending = c.gap.ensures.places m.0.start (length m.0.published) s k.tail_is k.next_is (omega arith) (omega arith) in
    let front = c.gap-front.ensures.places m.0.start m.0.head (length m.0.seen) k.head_is k.tail_seen_is (omega arith) (omega arith) in
    let told = c.load-tail.ensures.2 in let t = tail_told_of m.0 x y m.1 _ _ _ _ _ _ _ k _ _ front c.turn_slots.ensures.2 _ _ told in let all = t.4 k.sends in let grown = length-append m.0.seen t.0 in let whole = ap length all in
    let gained = c.gap-gained.ensures.places m.0.start (length m.0.seen) (length (m.0.seen ++ t.0)) k.tail_seen_is t.1 (omega arith) (omega arith) in
    record { fits = omega arith }

pub invariant_of-self-2 : goal.invariant_of-self-2
invariant_of-self-2 g c = let w = c.args.self.now in let k = w.sound in let m = w.seat.me in let x : List g.row.T.Denot = drop (gap w.next_take w.tail_seen) (items_of m.1) in let y : List g.row.T.Denot = take (gap w.next_take w.tail_seen) (items_of m.1) in
    let a = k.inside in let b = k.shown in let d = k.fits in let e = k.gained in let f = k.loaded in let small = k.size.small in let same = k.same in let s : ℕ = length m.0.published + length x in let q : ℕ = length m.0.seen - length y in
    let used = c.gap-2.ensures.places m.0.start (m.0.limit - w.capacity) s k.head_seen_is k.next_is (omega arith) (omega arith) in
    let pending = c.gap.ensures.places m.0.start (length m.0.published) s k.tail_is k.next_is (omega arith) (omega arith) in
    let front = c.gap-front.ensures.places m.0.start m.0.head (length m.0.seen) k.head_is k.tail_seen_is (omega arith) (omega arith) in
    let told = c.load-tail.ensures.2 in let t = tail_told_of m.0 x y m.1 _ _ _ _ _ _ _ k _ _ front c.turn_slots.ensures.2 _ _ told in let all = t.4 k.sends in let grown = length-append m.0.seen t.0 in let whole = ap length all in
    let gained = c.gap-gained.ensures.places m.0.start (length m.0.seen) (length (m.0.seen ++ t.0)) k.tail_seen_is t.1 (omega arith) (omega arith) in
    let seat = tail_seat m.0 x y m.1 _ _ _ _ _ _ _ k _ _ front c.turn_slots.ensures.2 _ _ _ told (c.gap-gained.result + (c.gap.result + (w.capacity - c.gap-2.result))) (omega arith) c.turn_slots-2.ensures.2 in
    let on = tail_on m.0 x y m.1 _ _ _ _ _ _ _ k t.0 c.load-tail.result all t.1 in
    let tells = ap (λ n. take (gap w.next_take c.load-tail.result) (items_of n.1)) seat ∙ shows_ahead _ _ _ _ _ _ _ _ _ _ _ on in
    let hides = ap (λ n. drop (gap w.next_take c.load-tail.result) (items_of n.1)) seat ∙ shows_rest _ _ _ _ _ _ _ _ _ _ _ on in
    let more = length-append y t.0 in let same_at : length (m.0.seen ++ t.0) - length (y ++ t.0) ≡ q = omega arith in
    record { word_count = w.word_count; own_seat = c.turn_slots-2.ensures.0 ∙ c.load-tail.ensures.0 ∙ c.turn_slots.ensures.0 ∙ w.own_seat; sound = subst (λ n. LocalIsSound n w.capacity w.next_put w.tail w.head_seen w.next_take w.head c.load-tail.result) (sym seat) (holds_of _ _ _ _ _ _ _ _ _ _ _ on) }

pub returns : goal.returns
unfolding local_held
returns g c = let w = c.args.self.now in let k = w.sound in let m = w.seat.me in let x : List g.row.T.Denot = drop (gap w.next_take w.tail_seen) (items_of m.1) in let y : List g.row.T.Denot = take (gap w.next_take w.tail_seen) (items_of m.1) in
    let a = k.inside in let b = k.shown in let d = k.fits in let e = k.gained in let f = k.loaded in let small = k.size.small in let same = k.same in let s : ℕ = length m.0.published + length x in let q : ℕ = length m.0.seen - length y in
    let used = c.gap-2.ensures.places m.0.start (m.0.limit - w.capacity) s k.head_seen_is k.next_is (omega arith) (omega arith) in
    let pending = c.gap.ensures.places m.0.start (length m.0.published) s k.tail_is k.next_is (omega arith) (omega arith) in
    let front = c.gap-front.ensures.places m.0.start m.0.head (length m.0.seen) k.head_is k.tail_seen_is (omega arith) (omega arith) in
    let told = c.load-tail.ensures.2 in let t = tail_told_of m.0 x y m.1 _ _ _ _ _ _ _ k _ _ front c.turn_slots.ensures.2 _ _ told in let all = t.4 k.sends in let grown = length-append m.0.seen t.0 in let whole = ap length all in
    let gained = c.gap-gained.ensures.places m.0.start (length m.0.seen) (length (m.0.seen ++ t.0)) k.tail_seen_is t.1 (omega arith) (omega arith) in
    let seat = tail_seat m.0 x y m.1 _ _ _ _ _ _ _ k _ _ front c.turn_slots.ensures.2 _ _ _ told (c.gap-gained.result + (c.gap.result + (w.capacity - c.gap-2.result))) (omega arith) c.turn_slots-2.ensures.2 in
    let on = tail_on m.0 x y m.1 _ _ _ _ _ _ _ k t.0 c.load-tail.result all t.1 in
    let more = length-append y t.0 in let same_at : length (m.0.seen ++ t.0) - length (y ++ t.0) ≡ q = omega arith in
    ap (λ n. local_held_by n w.capacity w.next_put w.head_seen w.next_take w.head c.load-tail.result) seat ∙ shown _ _ _ _ _ _ _ _ _ _ _ on ∙ tail_seen_shown m.0 x y m.1 _ _ _ _ _ _ _ k t.0 all ∙ ap with_tail_seen (sym (shown m.0 x y m.1 _ _ _ _ _ _ _ k))
