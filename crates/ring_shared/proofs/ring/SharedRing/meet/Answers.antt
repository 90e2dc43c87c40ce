use Rattle.std.proofs.Common.{◌≡◌, ℕ, ◌+◌, ◌-◌, ◌<◌, ◌++◌, length, take, drop, arith, sym, ap, ◌∙◌, subst, length-append, length-drop, append_assoc}
use Rattle.std.proofs.lemmas.List.{take-append-drop}
use Rattle.ring_core.proofs.PlaceLemmas.{position_lt}
use Rattle.ring_shared.specs.HeldSlots.{items_of}
use Rattle.ring_shared.specs.Rule.{joined}
use Rattle.ring_shared.specs.WordSteps.{compared}
use Rattle.ring_shared.proofs.RuleKept.{splits, joins, compares}
use Rattle.ring_shared.proofs.CoreSteps.{are_met}
use Rattle.ring_shared.proofs.ring.SharedRing.meet.Goals as goal

pub split_seat-part-requires : goal.split_seat-part-requires
split_seat-part-requires g c = (c.requires.take, omega (arith, c.args.self.now.word_count), splits _ _ c.args.take.sound.part)

pub join_seat-requires : goal.join_seat-requires
join_seat-requires g c = let p = c.split_seat-part.ensures in
    (c.requires.send, p.3 ∙ c.requires.take, ap (λ z. z.1) p.4, omega (arith, c.args.self.now.word_count), joins _ _ _ _ c.args.send.sound.part (ap (λ z. z.0.takes) p.4 ∙ c.args.take.sound.part))

pub load-tail-requires : goal.load-tail-requires
load-tail-requires g c = let p = c.split_seat-part.ensures in let j = c.join_seat.ensures in
    (j.0 ∙ c.requires.send, omega (arith, c.args.self.now.word_count), compares _ _ _ (ap (λ z. z.0.sends) j.2) (ap (λ z. z.0.takes) j.2 ∙ ap (λ z. z.0.takes) p.4 ∙ c.args.take.sound.part))

pub overflow_cast-tail : goal.overflow_cast-tail
overflow_cast-tail g c = let told = c.load-tail.ensures.2 in record { fits = subst (λ (z : ℕ). z < 4294967296) (sym told.1) (position_lt _ _) }

pub returns-clause-left : goal.returns-clause-left
returns-clause-left g c = let p = c.split_seat-part.ensures in let j = c.join_seat.ensures in let v = c.args.send.seat.me.0 in let w = c.args.take.seat.me in
    let seat = j.2 ∙ ap (λ z. (joined v z.0, c.args.send.seat.me.1)) p.4 in
    let told = subst (λ z. compared z c.load-tail.result c.load-tail.new.seat.me) seat c.load-tail.ensures.2 in
    let k = c.args.take.sound in let within = k.within in let small = k.size.small in let same = k.same in let near = told.2 in
    let q : ℕ = length w.0.seen - length (items_of w.1) in
    let all : length v.published ≡ length w.0.seen + length told.4.0 = ap length told.4.1 ∙ length-append w.0.seen told.4.0 in
    let gap = c.gap.ensures.places w.0.start q (length v.published) k.next_is told.1 (omega arith) (omega arith) in
    omega arith

pub returns-clause-taken : goal.returns-clause-taken
returns-clause-taken g c = let p = c.split_seat-part.ensures in let j = c.join_seat.ensures in let v = c.args.send.seat.me.0 in let w = c.args.take.seat.me in
    let seat = j.2 ∙ ap (λ z. (joined v z.0, c.args.send.seat.me.1)) p.4 in
    let told = subst (λ z. compared z c.load-tail.result c.load-tail.new.seat.me) seat c.load-tail.ensures.2 in
    let k = c.args.take.sound in let within = k.within in let small = k.size.small in let same = k.same in let near = told.2 in
    let q : ℕ = length w.0.seen - length (items_of w.1) in
    let all : length v.published ≡ length w.0.seen + length told.4.0 = ap length told.4.1 ∙ length-append w.0.seen told.4.0 in
    let gap = c.gap.ensures.places w.0.start q (length v.published) k.next_is told.1 (omega arith) (omega arith) in (
      drop q w.0.seen ++ told.4.0,
      told.4.1 ∙ ap (λ l. l ++ told.4.0) (sym (take-append-drop q w.0.seen)) ∙ append_assoc (take q w.0.seen) (drop q w.0.seen) told.4.0,
      (let l = length-append (drop q w.0.seen) told.4.0 in let d = length-drop q w.0.seen in omega arith),
    )

pub returns-clause-state : goal.returns-clause-state
returns-clause-state g c = λ number. let p = c.split_seat-part.ensures in let j = c.join_seat.ensures in let v = c.args.send.seat.me in let w = c.args.take.seat.me in
    let seat = j.2 ∙ ap (λ z. (joined v.0 z.0, v.1)) p.4 in
    let told = subst (λ z. compared z c.load-tail.result c.load-tail.new.seat.me) seat c.load-tail.ensures.2 in
    let s = c.args.send.sound in let loaded = s.loaded in let fits = s.fits in
    let k = c.args.take.sound in let within = k.within in let same = k.same in let gained = told.3 in
    let cap : c.args.send.capacity ≡ c.args.take.capacity = c.args.send.sized ∙ ap (λ t. t.slots) (c.requires.send ∙ sym c.requires.take) ∙ sym c.args.take.sized in
    let all : length v.0.published ≡ length w.0.seen + length told.4.0 = ap length told.4.1 ∙ length-append w.0.seen told.4.0 in
    let put = length-append v.0.published (items_of v.1) in
    are_met number c.args.send c.args.take told.4.0 told.4.1 cap (record {
      head_seen = omega arith;
      head = omega arith;
      next_take = omega arith;
      tail_seen = omega arith;
      tail = omega arith;
      next_put = omega arith;
    })
