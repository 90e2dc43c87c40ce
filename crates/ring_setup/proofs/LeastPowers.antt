-- Counts are rounded up to the least power of two that is large enough.
use Rattle.std.proofs.Common.{◌≡◌, ℕ, ◌*◌, ◌+◌, ◌^◌, ◌≤◌, zero, suc, sym, refl, ap, ◌∙◌, subst, inl, inr, arith, pow_mono}
use Rattle.std.proofs.Math.Nat.{pow-suc}
use Rattle.uring_base.specs.Sizes.{up_from}
use Rattle.ring_core.proofs.PositionLemmas.{le_or_lt}
use Rattle.ring_setup.specs.Setup.{asked_entries, asked_completions}
use Rattle.ring_setup.specs.Laws.{IsLeastPower, RoundsToLeastPowers, SizesAreLeastPowers}
use Rattle.ring_setup.proofs.SizeLemmas.{at_once, once_more, valid_entries, valid_completions}

-- a power with the power's exponent, where the count is more than half of it
from_power : (doublings e count : ℕ) → ((k : ℕ) → count ≤ 2 ^ k → e ≤ k) → count ≤ 2 ^ (doublings + e) → IsLeastPower count (up_from doublings (2 ^ e) count)
from_power zero e count low fits = record { exponent = e; value = refl; enough = subst (λ (x : ℕ). count ≤ 2 ^ x) (let s : zero + e ≡ e = omega arith in s) fits; least = λ k h. pow_mono (low k h) }
from_power (suc doublings) e count low fits = elim (le_or_lt count (2 ^ e)) [
  | inl le ↦ subst (λ (x : ℕ). IsLeastPower count x) (sym (at_once (suc doublings) (2 ^ e) count le)) record { exponent = e; value = refl; enough = le; least = λ k h. pow_mono (low k h) }
  | inr lt ↦
      let twice : 2 ^ suc e ≡ 2 * 2 ^ e = omega (arith, pow-suc 2 e) in
      let higher : (k : ℕ) → count ≤ 2 ^ k → suc e ≤ k = λ k h. elim (le_or_lt (suc e) k) [ inl more ↦ more | inr less ↦ let below : 2 ^ k ≤ 2 ^ e = pow_mono (let l : k ≤ e = omega arith in l) in absurd (omega arith) ] in
      let rest : IsLeastPower count (up_from doublings (2 ^ suc e) count) = from_power doublings (suc e) count higher (subst (λ (x : ℕ). count ≤ 2 ^ x) (let s : suc doublings + e ≡ doublings + suc e = omega arith in s) fits) in
      subst (λ (x : ℕ). IsLeastPower count x) (sym (once_more doublings (2 ^ e) count lt ∙ ap (λ (x : ℕ). up_from doublings x count) (sym twice))) rest
]

pub rounds_to_least_powers : RoundsToLeastPowers
rounds_to_least_powers count small = from_power 16 0 count (λ k h. omega arith) small

pub sizes_are_least_powers : SizesAreLeastPowers
sizes_are_least_powers s entries valid =
    let sq = valid_entries (asked_entries s entries) (asked_completions s entries) valid in
    let cq = valid_completions (asked_entries s entries) (asked_completions s entries) valid in (
      rounds_to_least_powers (asked_entries s entries) (omega (arith, sq.1)),
      rounds_to_least_powers (asked_completions s entries) cq,
    )
