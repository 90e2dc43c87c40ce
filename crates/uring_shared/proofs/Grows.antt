-- What an end of a ring of one thread sees of the other never falls.
use Rattle.std.proofs.Common.{◌≡◌, ◌≤◌, arith, ap}
use Rattle.ring_core.specs.Slots.{with_head_seen, with_tail_seen}
use Rattle.ring_shared.specs.declared.local_ring.LocalRing.{LocalRing}
use Rattle.ring_shared.specs.LocalHeld.{local_held}
use Rattle.ring_shared.proofs.LocalShown.{local-fits}

pub spare_grows : {T : Type 0} (before after : LocalRing T) → local_held after ≡ with_head_seen (local_held before) → (local_held before).spare ≤ (local_held after).spare
spare_grows before after e = let all = (local-fits before).items in omega (arith, all, ap (λ h. h.spare) e)

pub waiting_grows : {T : Type 0} (before after : LocalRing T) → local_held after ≡ with_tail_seen (local_held before) → (local_held before).waiting ≤ (local_held after).waiting
waiting_grows before after e = let all = (local-fits before).waiting in omega (arith, all, ap (λ h. h.waiting) e)
