-- The slot of the next put is not in use.
use Rattle.std.proofs.Common.{◌≡◌, ◌≢◌, ℕ, ◌+◌, ◌-◌, ◌%◌, ◌<◌, List, length, Option, sym, ap, ◌∙◌, arith}
use Rattle.ring_core.specs.Held.{window, RingPositions, IsSound, held_in}
use Rattle.ring_core.specs.Positions.{gap, slot_of}
use Rattle.ring_core.specs.Slots.{held_of, held-fits, slots_in_use}
use Rattle.ring_core.specs.Laws.{NextSlotIsFree, SlotsSuffice}
use Rattle.ring_core.proofs.PositionLemmas.{size_power, apart}
use Rattle.ring_core.proofs.Gaps.{gap_slot}
use Rattle.ring_core.proofs.SlotsKept.{far, counts}

next_free : {T : Type 0} (slots : List (Option T)) (c : ℕ) (at : RingPositions) → IsSound slots c at → (n : ℕ) → 0 < (held_in slots c at).spare → n < slots_in_use (held_in slots c at) → slot_of c (at.head + n) ≢ slot_of c at.next_put
unfolding slot_of
next_free slots c at s n some used same =
    let d = far slots c at s in let k = counts slots c at s in let w = s.in_range in
    let all : gap at.head at.next_put ≡ gap at.head at.next_take + (length (window slots at.next_take (gap at.next_take at.tail)) + length (window slots at.tail (gap at.tail at.next_put))) = omega (arith, k.0, k.1, d.head_take, d.take_tail, d.tail_put, d.head_put) in
    let near : gap at.head at.next_put < c = omega (arith, some, d.head_put) in
    let rest : at.head + n + (gap at.head at.next_put - n) ≡ at.head + gap at.head at.next_put = omega (arith, used, all) in
    apart c (at.head + n) (gap at.head at.next_put - n) (omega (arith, used, all)) (omega (arith, near)) (ap (λ (x : ℕ). x % c) rest ∙ gap_slot c at.head at.next_put (size_power c s.size) w.head w.next_put ∙ sym same)

pub next_slot_is_free : {T : Type 0} → NextSlotIsFree T
unfolding held_of
next_slot_is_free ring n some used = next_free _ _ _ ring.sound n some used

pub slots_suffice : {T : Type 0} → SlotsSuffice T
slots_suffice ring = (held-fits ring).items
