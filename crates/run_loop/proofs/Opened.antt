-- A ring that was just made.
use Rattle.std.proofs.Common.{◌≡◌, ℕ, ◌*◌, ◌<◌, zero, suc, Bool, true, false, cond, nat_le, [], Option, Some, refl, ap, sym, subst, ◌∙◌, arith}
use Rattle.uring_base.specs.Sizes.{up_from, rounded_up}
use Rattle.uring_shared.specs.declared.shared_rings.SharedRings.{SharedRings}
use Rattle.uring_shared.specs.SharedRings.{lists_of, entries_in, IsOpened}
use Rattle.ring_traits.specs.Lists.{Lists}
use Rattle.run_loop.specs.Rounds.{IsCalm}

pub opened_calm : (ring : SharedRings) (cap posts start : ℕ) → IsOpened ring cap posts start → (l : Lists) × (◌≡◌ {A = Option Lists} (Some (lists_of ring)) (Some l)) × IsCalm l (entries_in ring).spare × (l.published ≡ [])
opened_calm ring cap posts start o = (
  record { capacity = cap; published = []; pushed = []; completion_capacity = posts; completions = []; held = 0 },
  ap Some o.lists,
  record { pushed = refl; completions = refl; seen = omega (arith, o.room) },
  refl,
)

either_positive : (b : Bool) (m n : ℕ) → 0 < m → 0 < n → 0 < cond b m n
either_positive true m n h k = h
either_positive false m n h k = k

up_positive : (doublings power n : ℕ) → 0 < power → 0 < up_from doublings power n
up_positive zero power n h = h
up_positive (suc d) power n h = either_positive (nat_le n power) power (up_from d (2 * power) n) h (up_positive d (2 * power) n (omega arith))

pub rounded_positive : (n : ℕ) → 0 < rounded_up n
rounded_positive n = up_positive 16 1 n (omega arith)

pub opened_holds : (ring : SharedRings) (entries completions start m n : ℕ) → IsOpened ring entries completions start → entries ≡ rounded_up m → completions ≡ rounded_up n → (0 < (lists_of ring).capacity) × (0 < (lists_of ring).completion_capacity)
opened_holds ring entries completions start m n o e f = (
  subst (λ k. 0 < k) (sym (ap (λ l. l.capacity) o.lists ∙ e)) (rounded_positive m),
  subst (λ k. 0 < k) (sym (ap (λ l. l.completion_capacity) o.lists ∙ f)) (rounded_positive n),
)
