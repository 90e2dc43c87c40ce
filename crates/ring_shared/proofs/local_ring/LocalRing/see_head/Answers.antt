use Rattle.std.proofs.Common.{◌≡◌, ℕ, ◌+◌, ◌-◌, ◌<◌, List, length, take, drop, arith, sym, ap, ◌∙◌, subst}
use Rattle.ring_core.specs.Positions.{position_at, gap}
use Rattle.ring_core.proofs.PlaceLemmas.{position_lt}
use Rattle.ring_shared.specs.HeldSlots.{items_of}
use Rattle.ring_shared.specs.LocalSound.{LocalIsSound}
use Rattle.ring_shared.proofs.RuleKept.{gains}
use Rattle.ring_shared.proofs.LocalKept.{holds_of, shows_ahead, shows_rest, head_seat, head_on}
use Rattle.ring_core.specs.Slots.{with_head_seen}
use Rattle.ring_shared.specs.LocalHeld.{local_held, local_held_by}
use Rattle.ring_shared.proofs.LocalShown.{shown, head_seen_shown}
use Rattle.ring_shared.proofs.local_ring.LocalRing.see_head.Goals as goal

pub load-head-requires : goal.load-head-requires
load-head-requires g c = let w = c.args.self.now in let k = w.sound in let m = w.seat.me in let x : List g.row.T.Denot = drop (gap w.next_take w.tail_seen) (items_of m.1) in let y : List g.row.T.Denot = take (gap w.next_take w.tail_seen) (items_of m.1) in
    let a = k.inside in let b = k.shown in let d = k.fits in let e = k.gained in let f = k.loaded in let small = k.size.small in let same = k.same in let s : ℕ = length m.0.published + length x in let q : ℕ = length m.0.seen - length y in
    (w.own_seat, omega (arith, w.word_count), gains _ _ m k.sends)

pub overflow_cast-head : goal.overflow_cast-head
overflow_cast-head g c = let w = c.args.self.now in let k = w.sound in let m = w.seat.me in let x : List g.row.T.Denot = drop (gap w.next_take w.tail_seen) (items_of m.1) in let y : List g.row.T.Denot = take (gap w.next_take w.tail_seen) (items_of m.1) in
    let a = k.inside in let b = k.shown in let d = k.fits in let e = k.gained in let f = k.loaded in let small = k.size.small in let same = k.same in let s : ℕ = length m.0.published + length x in let q : ℕ = length m.0.seen - length y in
    let told = c.load-head.ensures.2 in let d' : told.0 ≡ m.0.head = told.5 k.takes in let found : c.load-head.result ≡ position_at m.0.start m.0.head = told.1 ∙ ap (position_at m.0.start) d' in
    record { fits = subst (λ (z : ℕ). z < 4294967296) (sym found) (position_lt m.0.start m.0.head) }

pub invariant_of-self : goal.invariant_of-self
invariant_of-self g c = let w = c.args.self.now in let k = w.sound in let m = w.seat.me in let x : List g.row.T.Denot = drop (gap w.next_take w.tail_seen) (items_of m.1) in let y : List g.row.T.Denot = take (gap w.next_take w.tail_seen) (items_of m.1) in
    let a = k.inside in let b = k.shown in let d = k.fits in let e = k.gained in let f = k.loaded in let small = k.size.small in let same = k.same in let s : ℕ = length m.0.published + length x in let q : ℕ = length m.0.seen - length y in
    let told = c.load-head.ensures.2 in let d' : told.0 ≡ m.0.head = told.5 k.takes in let found : c.load-head.result ≡ position_at m.0.start m.0.head = told.1 ∙ ap (position_at m.0.start) d' in
    let gained = c.gap-gained.ensures.places m.0.start (m.0.limit - w.capacity) m.0.head k.head_seen_is found (omega arith) (omega arith) in
    let seat = head_seat m.0 x y m.1 _ _ _ _ _ _ _ k _ _ _ told c.gap-gained.result (omega arith) c.turn_slots.ensures.2 in
    let on = head_on m.0 x y m.1 _ _ _ _ _ _ _ k c.load-head.result found in
    let tells = ap (λ n. take (gap w.next_take w.tail_seen) (items_of n.1)) seat ∙ shows_ahead _ _ _ _ _ _ _ _ _ _ _ on in
    let hides = ap (λ n. drop (gap w.next_take w.tail_seen) (items_of n.1)) seat ∙ shows_rest _ _ _ _ _ _ _ _ _ _ _ on in
    record { word_count = w.word_count; own_seat = c.turn_slots.ensures.0 ∙ c.load-head.ensures.0 ∙ w.own_seat; sound = subst (λ n. LocalIsSound n w.capacity w.next_put w.tail c.load-head.result w.next_take w.head w.tail_seen) (sym seat) (holds_of _ _ _ _ _ _ _ _ _ _ _ on) }

pub returns : goal.returns
unfolding local_held
returns g c = let w = c.args.self.now in let k = w.sound in let m = w.seat.me in let x : List g.row.T.Denot = drop (gap w.next_take w.tail_seen) (items_of m.1) in let y : List g.row.T.Denot = take (gap w.next_take w.tail_seen) (items_of m.1) in
    let a = k.inside in let b = k.shown in let d = k.fits in let e = k.gained in let f = k.loaded in let small = k.size.small in let same = k.same in let s : ℕ = length m.0.published + length x in let q : ℕ = length m.0.seen - length y in
    let told = c.load-head.ensures.2 in let d' : told.0 ≡ m.0.head = told.5 k.takes in let found : c.load-head.result ≡ position_at m.0.start m.0.head = told.1 ∙ ap (position_at m.0.start) d' in
    let gained = c.gap-gained.ensures.places m.0.start (m.0.limit - w.capacity) m.0.head k.head_seen_is found (omega arith) (omega arith) in
    let seat = head_seat m.0 x y m.1 _ _ _ _ _ _ _ k _ _ _ told c.gap-gained.result (omega arith) c.turn_slots.ensures.2 in
    let on = head_on m.0 x y m.1 _ _ _ _ _ _ _ k c.load-head.result found in
    ap (λ n. local_held_by n w.capacity w.next_put c.load-head.result w.next_take w.head w.tail_seen) seat ∙ shown _ _ _ _ _ _ _ _ _ _ _ on ∙ head_seen_shown m.0 x y m.1 _ _ _ _ _ _ _ k ∙ ap with_head_seen (sym (shown m.0 x y m.1 _ _ _ _ _ _ _ k))
