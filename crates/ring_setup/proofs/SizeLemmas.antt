-- Counts rounded up.
use Rattle.std.proofs.Common.{◌≡◌, ◌⊎◌, ℕ, ◌*◌, ◌^◌, ◌<◌, ◌≤◌, ◌/◌, zero, suc, Bool, true, false, sym, refl, ap, ◌∙◌, subst, inl, inr, arith, nat_le, if◌then◌else◌, ◌&&◌, nat_lt, pow_mono, max, Result, Ok, Err}
use Rattle.std.specs.Prelude.{IfErr, ◌↔◌}
use Rattle.std.proofs.Math.Nat.{pow-suc, mul_assoc, mul_comm, mul-le-mul_left}
use Rattle.std.proofs.lemmas.Nat.{pow_pos}
use Rattle.std.proofs.lemmas.Bool.{eq-eqb}
use Rattle.std.specs.Prelude.{◌||◌, nat_eq}
use Rattle.uring_base.specs.Sizes.{up_from, rounded_up, is_valid_size}
use Rattle.ring_core.specs.Positions.{is_doubled, is_ring_size}
use Rattle.ring_core.proofs.PositionLemmas.{le_or_lt}

-- rounding gives a power of two, doubled so many times at the most
up_from_power : (d p n : ℕ) → (k : ℕ) × ((k ≤ d) × (up_from d p n ≡ 2 ^ k * p))
up_from_power zero p n = (0, (omega arith, omega arith))
up_from_power (suc d) p n =
    let next : (k : ℕ) × ((k ≤ d) × (up_from d (2 * p) n ≡ 2 ^ k * (2 * p))) = up_from_power d (2 * p) n in
    elim (nat_le n p) as (λ b. (k : ℕ) × ((k ≤ suc d) × ((if b then p else up_from d (2 * p) n) ≡ 2 ^ k * p))) [
      | true ↦ (0, (omega arith, omega arith))
      | false ↦ (suc next.0, (omega (arith, next.1.0), next.1.1 ∙ sym (mul_assoc (2 ^ next.0) 2 p) ∙ ap (λ (x : ℕ). x * p) (sym (pow-suc 2 next.0))))
    ]

pub at_once : (d p n : ℕ) → n ≤ p → up_from d p n ≡ p
at_once zero p n h = refl
at_once (suc d) p n h = ap (λ b. if b then p else up_from d (2 * p) n) (let t : nat_le n p ≡ true = grind arith in t)

pub once_more : (d p n : ℕ) → p < n → up_from (suc d) p n ≡ up_from d (2 * p) n
once_more d p n h = ap (λ b. if b then p else up_from d (2 * p) n) (let t : nat_le n p ≡ false = grind arith in t)

-- a power of two that is large enough, half of which isn't, is what rounding gives
pub rounds_to : (d k p n : ℕ) → k ≤ d → n ≤ 2 ^ k * p → ((j : ℕ) → suc j ≡ k → 2 ^ j * p < n) → up_from d p n ≡ 2 ^ k * p
rounds_to d zero p n le fits least = at_once d p n (omega (arith, fits)) ∙ omega arith
rounds_to zero (suc k) p n le fits least = absurd (omega arith)
rounds_to (suc d) (suc k) p n le fits least =
    let half : 2 ^ k * p < n = least k refl in
    let pos : 0 < 2 ^ k = pow_pos k in
    let one : p ≤ 2 ^ k * p = omega (arith, mul-le-mul_left p pos, mul_comm p (2 ^ k), mul_comm p 1) in
    let double : 2 ^ suc k * p ≡ 2 ^ k * (2 * p) = ap (λ x. x * p) (pow-suc 2 k) ∙ mul_assoc (2 ^ k) 2 p in
    once_more d p n (omega arith)
    ∙ rounds_to d k (2 * p) n (omega arith) (omega arith) (λ j e. let less : 2 ^ j * (2 * p) ≡ 2 ^ k * p = sym (mul_assoc (2 ^ j) 2 p) ∙ ap (λ x. x * p) (sym (pow-suc 2 j) ∙ ap (λ (x : ℕ). 2 ^ x) e) in omega arith)
    ∙ sym double

-- the same by the words of std
pub next_power : (n r k : ℕ) → n ≤ 65536 → r ≡ 2 ^ k → n ≤ r → r / 2 < max 1 n → r ≡ rounded_up n
next_power n r zero small e fits least = e ∙ omega arith ∙ sym (rounds_to 16 0 1 n (omega arith) (omega (arith, e)) (λ j f. absurd (omega arith)))
next_power n r (suc k) small e fits least =
    let pos : 0 < 2 ^ k = pow_pos k in
    let double : r ≡ 2 ^ k * 2 = e ∙ pow-suc 2 k in
    let half : 2 ^ k < n = omega arith in
    let few : suc k ≤ 16 = elim (le_or_lt 16 k) [ inl h ↦ let large : 65536 ≤ 2 ^ k = pow_mono h in omega arith | inr h ↦ omega arith ] in
    e ∙ omega arith ∙ sym (rounds_to 16 (suc k) 1 n few (omega (arith, e)) (λ j f. let same : j ≡ k = omega arith in omega (arith, ap (λ (x : ℕ). 2 ^ x) same)))

or_right : (a b : Bool) → b ≡ true → (a || b) ≡ true
or_right true b e = refl
or_right false b e = e

-- a power doubled as often as may be is found
power_doubled : (d k p c : ℕ) → k ≤ d → c ≡ 2 ^ k * p → is_doubled d p c ≡ true
power_doubled zero zero p c le e = eq-eqb c p (e ∙ omega arith)
power_doubled zero (suc k) p c le e = absurd (omega arith)
power_doubled (suc d) zero p c le e = ap (λ b. b || is_doubled d (2 * p) c) (eq-eqb c p (e ∙ omega arith))
power_doubled (suc d) (suc k) p c le e = or_right (nat_eq c p) (is_doubled d (2 * p) c) (power_doubled d k (2 * p) c (omega arith) (e ∙ ap (λ x. x * p) (pow-suc 2 k) ∙ mul_assoc (2 ^ k) 2 p))

-- what rounding gives is a size
pub rounded_size : (n : ℕ) → is_ring_size (rounded_up n) ≡ true
unfolding is_ring_size
rounded_size n =
    let found : (k : ℕ) × ((k ≤ 16) × (up_from 16 1 n ≡ 2 ^ k * 1)) = up_from_power 16 1 n in
    power_doubled 16 found.0 1 (rounded_up n) found.1.0 found.1.1

-- one doubling more changes nothing where there were enough
enough : (d p n : ℕ) → n ≤ 2 ^ d * p → up_from (suc d) p n ≡ up_from d p n
enough zero p n h = at_once 1 p n (omega arith)
enough (suc d) p n h = elim (le_or_lt n p) [
  | inl le ↦ at_once (suc (suc d)) p n le ∙ sym (at_once (suc d) p n le)
  | inr lt ↦ let double : 2 ^ suc d * p ≡ 2 ^ d * (2 * p) = ap (λ x. x * p) (pow-suc 2 d) ∙ mul_assoc (2 ^ d) 2 p in
      once_more (suc d) p n lt ∙ enough d (2 * p) n (omega arith) ∙ sym (once_more d p n lt)
]

pub rounded_small : (n : ℕ) → n ≤ 32768 → rounded_up n ≤ 32768
rounded_small n h =
    let found : (k : ℕ) × ((k ≤ 15) × (up_from 15 1 n ≡ 2 ^ k * 1)) = up_from_power 15 1 n in
    let small : 2 ^ found.0 ≤ 32768 = pow_mono found.1.0 in
    subst (λ (x : ℕ). x ≤ 32768) (sym (enough 15 1 n (omega arith) ∙ found.1.1 ∙ omega arith)) small

doubled : (d p n : ℕ) → up_from d (2 * p) (2 * n) ≡ 2 * up_from d p n
doubled zero p n = refl
doubled (suc d) p n = elim (le_or_lt n p) [
  | inl le ↦ at_once (suc d) (2 * p) (2 * n) (omega arith) ∙ ap (λ (x : ℕ). 2 * x) (sym (at_once (suc d) p n le))
  | inr lt ↦ once_more d (2 * p) (2 * n) (omega arith) ∙ doubled d (2 * p) n ∙ ap (λ (x : ℕ). 2 * x) (sym (once_more d p n lt))
]

pub rounded_twice : (n : ℕ) → 0 < n → n ≤ 32768 → rounded_up (2 * n) ≡ 2 * rounded_up n
rounded_twice n pos small = once_more 15 1 (2 * n) (omega arith) ∙ doubled 15 1 n ∙ ap (λ (x : ℕ). 2 * x) (sym (enough 15 1 n (omega arith)))

-- ---- the size rule in three parts
regroup : (a b c d e : Bool) → (a && b && c && d && e) ≡ (((a && b) && (c && d)) && e)
regroup false b c d e = refl
regroup true false c d e = refl
regroup true true false d e = refl
regroup true true true d e = refl

abbrev pub in_range : ℕ → ℕ → Bool
in_range n most = nat_lt 0 n && nat_le n most

pub valid_parts : (sq cq : ℕ) → is_valid_size sq cq ≡ ((in_range sq 32768 && in_range cq 65536) && nat_le (rounded_up sq) (rounded_up cq))
valid_parts sq cq = regroup (nat_lt 0 sq) (nat_le sq 32768) (nat_lt 0 cq) (nat_le cq 65536) (nat_le (rounded_up sq) (rounded_up cq))

pub in_range_within : (n most : ℕ) → in_range n most ≡ true → (0 < n) × (n ≤ most)
in_range_within n most e = (grind arith, grind arith)

pub bad_entries : (sq cq : ℕ) → in_range sq 32768 ≡ false → is_valid_size sq cq ≡ false
bad_entries sq cq e = valid_parts sq cq ∙ ap (λ x. (x && in_range cq 65536) && nat_le (rounded_up sq) (rounded_up cq)) e

pub bad_completions : (sq cq : ℕ) → in_range sq 32768 ≡ true → in_range cq 65536 ≡ false → is_valid_size sq cq ≡ false
bad_completions sq cq e f = valid_parts sq cq ∙ ap (λ x. (x && in_range cq 65536) && nat_le (rounded_up sq) (rounded_up cq)) e ∙ ap (λ x. (true && x) && nat_le (rounded_up sq) (rounded_up cq)) f

in_order : (sq cq : ℕ) (b : Bool) → in_range sq 32768 ≡ true → in_range cq 65536 ≡ true → nat_le (rounded_up sq) (rounded_up cq) ≡ b → is_valid_size sq cq ≡ b
in_order sq cq b e f o = valid_parts sq cq ∙ ap (λ x. (x && in_range cq 65536) && nat_le (rounded_up sq) (rounded_up cq)) e ∙ ap (λ x. (true && x) && nat_le (rounded_up sq) (rounded_up cq)) f ∙ o

at_most : (a b : ℕ) → a ≤ b → nat_le a b ≡ true
at_most a b h = grind arith

more_than : (a b : ℕ) → b < a → nat_le a b ≡ false
more_than a b h = grind arith

pub fewer_completions : (sq cq u v : ℕ) → in_range sq 32768 ≡ true → in_range cq 65536 ≡ true → u ≡ rounded_up sq → v ≡ rounded_up cq → v < u → is_valid_size sq cq ≡ false
fewer_completions sq cq u v e f p q lt = in_order sq cq false e f (more_than (rounded_up sq) (rounded_up cq) (subst (λ (x : ℕ). rounded_up cq < x) p (subst (λ (x : ℕ). x < u) q lt)))

pub enough_completions : (sq cq u v : ℕ) → in_range sq 32768 ≡ true → in_range cq 65536 ≡ true → u ≡ rounded_up sq → v ≡ rounded_up cq → u ≤ v → is_valid_size sq cq ≡ true
enough_completions sq cq u v e f p q le = in_order sq cq true e f (at_most (rounded_up sq) (rounded_up cq) (subst (λ (x : ℕ). rounded_up sq ≤ x) q (subst (λ (x : ℕ). x ≤ v) p le)))

-- ---- sizes that are valid
opposite : true ≡ false → ⊥
opposite e = cc

first_of_three : (a b c : Bool) → ((a && b) && c) ≡ true → a ≡ true
first_of_three true b c e = refl
first_of_three false b c e = e

pub valid_entries : (sq cq : ℕ) → is_valid_size sq cq ≡ true → (0 < sq) × (sq ≤ 32768)
valid_entries sq cq e = in_range_within sq 32768 (first_of_three (in_range sq 32768) (in_range cq 65536) (nat_le (rounded_up sq) (rounded_up cq)) (sym (valid_parts sq cq) ∙ e))

second_of_three : (a b c : Bool) → ((a && b) && c) ≡ true → b ≡ true
second_of_three true true c e = refl
second_of_three true false c e = e
second_of_three false b c e = absurd (opposite (sym e))

pub valid_completions : (sq cq : ℕ) → is_valid_size sq cq ≡ true → cq ≤ 65536
valid_completions sq cq e = (in_range_within cq 65536 (second_of_three (in_range sq 32768) (in_range cq 65536) (nat_le (rounded_up sq) (rounded_up cq)) (sym (valid_parts sq cq) ∙ e))).1

in_range_is : (n most : ℕ) → 0 < n → n ≤ most → in_range n most ≡ true
in_range_is n most pos le = grind arith

twice_more : (u v : ℕ) → v ≡ 2 * u → u ≤ v
twice_more u v e = omega arith

-- twice as many completions are always enough
pub default_valid : (n : ℕ) → 0 < n → n ≤ 32768 → is_valid_size n (2 * n) ≡ true
default_valid n pos le = enough_completions n (2 * n) (rounded_up n) (rounded_up (2 * n)) (in_range_is n 32768 pos le) (in_range_is (2 * n) 65536 (omega arith) (omega arith)) refl refl (twice_more (rounded_up n) (rounded_up (2 * n)) (rounded_twice n pos le))

pub default_invalid : (n : ℕ) → is_valid_size n (2 * n) ≡ false → (n ≡ 0) ⊎ (32768 < n)
default_invalid n e = elim (le_or_lt n 0) [
  | inl none ↦ inl (omega arith)
  | inr pos ↦ elim (le_or_lt n 32768) [ inl le ↦ absurd (opposite (sym (default_valid n pos le) ∙ e)) | inr more ↦ inr more ]
]

pub invalid_default : (n : ℕ) → (n ≡ 0) ⊎ (32768 < n) → is_valid_size n (2 * n) ≡ false
invalid_default n (inl e) = bad_entries n (2 * n) (grind arith)
invalid_default n (inr lt) = bad_entries n (2 * n) (grind arith)

pub default_iff : (A : Type 0) (n : ℕ) (v : Bool) → v ≡ is_valid_size n (2 * n) → (A ↔ (v ≡ false)) → (A ↔ ((n ≡ 0) ⊎ (32768 < n)))
default_iff A n v same both = (λ a. default_invalid n (sym same ∙ both.0 a), λ wrong. both.1 (same ∙ invalid_default n wrong))

pub if_err : {A E : Type 0} (r : Result A E) (P Q : E → Type 0) → IfErr r P → ((e : E) → P e → Q e) → IfErr r Q
if_err (Ok x) P Q fact f = fact
if_err (Err e) P Q fact f = f e fact
