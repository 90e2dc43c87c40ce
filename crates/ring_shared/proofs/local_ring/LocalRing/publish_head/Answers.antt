use Rattle.std.proofs.Common.{ℕ, ◌+◌, ◌-◌, List, length, take, drop, arith, sym, ap, ◌∙◌, subst}
use Rattle.ring_core.specs.Positions.{gap}
use Rattle.ring_shared.specs.HeldSlots.{items_of}
use Rattle.ring_shared.specs.LocalSound.{LocalIsSound}
use Rattle.ring_shared.proofs.LocalKept.{holds_of, shows_ahead, shows_rest, may_release, released_seat, release_on}
use Rattle.ring_core.specs.Slots.{with_head}
use Rattle.ring_shared.specs.LocalHeld.{local_held, local_held_by}
use Rattle.ring_shared.proofs.LocalShown.{shown, head_shown}
use Rattle.ring_shared.proofs.local_ring.LocalRing.publish_head.Goals as goal

pub store-requires : goal.store-requires
store-requires g c = let w = c.args.self.now in let k = w.sound in let m = w.seat.me in let x : List g.row.T.Denot = drop (gap w.next_take w.tail_seen) (items_of m.1) in let y : List g.row.T.Denot = take (gap w.next_take w.tail_seen) (items_of m.1) in
    let a = k.inside in let b = k.shown in let d = k.fits in let e = k.gained in let f = k.loaded in let small = k.size.small in let same = k.same in let s : ℕ = length m.0.published + length x in let q : ℕ = length m.0.seen - length y in
    (w.own_seat, omega (arith, w.word_count), may_release m.0 x y m.1 _ _ _ _ _ _ _ k _ _)

pub invariant_of-self : goal.invariant_of-self
invariant_of-self g c = let w = c.args.self.now in let k = w.sound in let m = w.seat.me in let x : List g.row.T.Denot = drop (gap w.next_take w.tail_seen) (items_of m.1) in let y : List g.row.T.Denot = take (gap w.next_take w.tail_seen) (items_of m.1) in
    let a = k.inside in let b = k.shown in let d = k.fits in let e = k.gained in let f = k.loaded in let small = k.size.small in let same = k.same in let s : ℕ = length m.0.published + length x in let q : ℕ = length m.0.seen - length y in
    let seat = released_seat m.0 x y m.1 _ _ _ _ _ _ _ k _ c.store.ensures.2 in
    let on = release_on m.0 x y m.1 _ _ _ _ _ _ _ k in
    let tells = ap (λ n. take (gap w.next_take w.tail_seen) (items_of n.1)) seat ∙ shows_ahead _ _ _ _ _ _ _ _ _ _ _ on in
    let hides = ap (λ n. drop (gap w.next_take w.tail_seen) (items_of n.1)) seat ∙ shows_rest _ _ _ _ _ _ _ _ _ _ _ on in
    record { word_count = w.word_count; own_seat = c.store.ensures.0 ∙ w.own_seat; sound = subst (λ n. LocalIsSound n w.capacity w.next_put w.tail w.head_seen w.next_take w.next_take w.tail_seen) (sym seat) (holds_of _ _ _ _ _ _ _ _ _ _ _ on) }

pub returns : goal.returns
unfolding local_held
returns g c = let w = c.args.self.now in let k = w.sound in let m = w.seat.me in let x : List g.row.T.Denot = drop (gap w.next_take w.tail_seen) (items_of m.1) in let y : List g.row.T.Denot = take (gap w.next_take w.tail_seen) (items_of m.1) in
    let a = k.inside in let b = k.shown in let d = k.fits in let e = k.gained in let f = k.loaded in let small = k.size.small in let same = k.same in let s : ℕ = length m.0.published + length x in let q : ℕ = length m.0.seen - length y in
    let seat = released_seat m.0 x y m.1 _ _ _ _ _ _ _ k _ c.store.ensures.2 in
    let on = release_on m.0 x y m.1 _ _ _ _ _ _ _ k in
    ap (λ n. local_held_by n w.capacity w.next_put w.head_seen w.next_take w.next_take w.tail_seen) seat ∙ shown _ _ _ _ _ _ _ _ _ _ _ on ∙ head_shown m.0 x y m.1 _ _ _ _ _ _ _ k ∙ ap with_head (sym (shown m.0 x y m.1 _ _ _ _ _ _ _ k))
