-- Positions of places that are counted from a start.
use Rattle.std.proofs.Common.{◌≡◌, ℕ, ◌+◌, ◌-◌, ◌%◌, ◌^◌, ◌<◌, ◌≤◌, sym, ap, ◌∙◌, subst, inl, inr, mod-lt, mod-eq_of_lt, arith}
use native.Mathlib.Nat.{mod-add-mod, add-mod_right}
use Rattle.ring_core.specs.Positions.{position_at, gap, slot_of}
use Rattle.ring_core.proofs.PositionLemmas.{le_or_lt, IsPower, wrapped}
use Rattle.ring_core.proofs.Gaps.{gap_self}

pub position_lt : (start p : ℕ) → position_at start p < 4294967296
unfolding position_at
position_lt start p = mod-lt (start + p) (omega arith)

pub position_start : (start : ℕ) → start < 4294967296 → position_at start 0 ≡ start
unfolding position_at
position_start start lt = mod-eq_of_lt (let l : start + 0 < 4294967296 = omega arith in l) ∙ (let e : start + 0 ≡ start = omega arith in e)

position_add : (start a d : ℕ) → position_at start (a + d) ≡ (position_at start a + d) % 4294967296
unfolding position_at
position_add start a d = ap (λ (x : ℕ). x % 4294967296) (let e : start + (a + d) ≡ start + a + d = omega arith in e) ∙ sym (mod-add-mod (start + a) 4294967296 d)

pub position_next : (start p x : ℕ) → x ≡ position_at start p → (x + 1) % 2 ^ 32 ≡ position_at start (p + 1)
position_next start p x e = ap (λ (y : ℕ). (y + 1) % 4294967296) e ∙ sym (position_add start p 1)

-- a position that lies so far on
so_far : (x y d : ℕ) → x < 4294967296 → d ≤ 65536 → y ≡ (x + d) % 4294967296 → gap x y ≡ d
unfolding gap
so_far x y d lt small e = elim (le_or_lt 4294967296 (x + d)) [
  | inl h ↦ let turn : x + d ≡ (x + d - 4294967296) + 4294967296 = omega arith in
      let is : y ≡ x + d - 4294967296 = e ∙ ap (λ (z : ℕ). z % 4294967296) turn ∙ add-mod_right (x + d - 4294967296) 4294967296 ∙ mod-eq_of_lt (let l : x + d - 4294967296 < 4294967296 = omega arith in l) in
      ap (λ (z : ℕ). z % 4294967296) (let s : y + (4294967296 - x) ≡ d = omega arith in s) ∙ mod-eq_of_lt (let l : d < 4294967296 = omega arith in l)
  | inr h ↦ let is : y ≡ x + d = e ∙ mod-eq_of_lt h in
      ap (λ (z : ℕ). z % 4294967296) (let s : y + (4294967296 - x) ≡ d + 4294967296 = omega arith in s) ∙ add-mod_right d 4294967296 ∙ mod-eq_of_lt (let l : d < 4294967296 = omega arith in l)
]

-- the positions of two places that lie near tell their distance
pub position_between : (start a b x y : ℕ) → x ≡ position_at start a → y ≡ position_at start b → a ≤ b → b ≤ a + 65536 → gap x y ≡ b - a
position_between start a b x y ex ey le near =
    let lt : x < 4294967296 = subst (λ (z : ℕ). z < 4294967296) (sym ex) (position_lt start a) in
    let sum : b ≡ a + (b - a) = omega arith in
    so_far x y (b - a) lt (omega arith) (ey ∙ ap (position_at start) sum ∙ position_add start a (b - a) ∙ ap (λ (z : ℕ). (z + (b - a)) % 4294967296) (sym ex))

-- so equal positions are one place
pub position_same : (start a b x y : ℕ) → x ≡ position_at start a → y ≡ position_at start b → a ≤ b → b ≤ a + 65536 → x ≡ y → a ≡ b
position_same start a b x y ex ey le near same =
    let lt : x < 4294967296 = subst (λ (z : ℕ). z < 4294967296) (sym ex) (position_lt start a) in
    let d : gap x x ≡ b - a = position_between start a b x x ex (same ∙ ey) le near in
    let z : gap x x ≡ 0 = gap_self x lt in omega arith

pub position_slot : (c start p x : ℕ) → IsPower c → x ≡ position_at start p → slot_of c x ≡ slot_of c (start + p)
unfolding position_at slot_of
position_slot c start p x w e = ap (λ (y : ℕ). y % c) e ∙ wrapped c (start + p) w
