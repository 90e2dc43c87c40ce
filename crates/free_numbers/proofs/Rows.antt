-- Rows of nodes at one height, from the root down to the leaves.
use Rattle.std.proofs.Common.{◌≡◌, ℕ, zero, suc, ◌+◌, ◌-◌, ◌*◌, ◌/◌, ◌^◌, ◌<◌, ◌≤◌, Bool, true, false, not, ◌&&◌, List, length, drop, Some, None, inl, inr, refl, sym, ap, ◌∙◌, arith, lt-ltb, le-ltb, pow-suc, get_or-drop, length-drop}
use Rattle.std.specs.Prelude.{position}
use Rattle.std.specs.List.{position_or_len}
use Rattle.std.proofs.lemmas.Bool.{cases_eq}
use Rattle.std.proofs.lemmas.List.Sums.{position_or_len_is}
use Rattle.free_numbers.specs.Tree.{is_full, IsJoined, IsTree}

-- the number, doubled so many times
abbrev pub doubled : ℕ → ℕ → ℕ
doubled zero n = n
doubled (suc h) n = doubled h (2 * n)

doubled_pow : (h n : ℕ) → doubled h n ≡ n * 2 ^ h
doubled_pow zero n = omega arith
doubled_pow (suc h) n =
    let p : 2 ^ suc h ≡ 2 ^ h * 2 = pow-suc 2 h in
    let q : n * 2 ^ suc h ≡ n * (2 ^ h * 2) = ap (λ (x : ℕ). n * x) p in
    doubled_pow h (2 * n) ∙ omega arith

doubled_ge : (h n : ℕ) → n ≤ doubled h n
doubled_ge zero n = omega arith
doubled_ge (suc h) n = omega (arith, doubled_ge h (2 * n))

-- below a row that isn't the leaves' stands another
lower : (h first limit : ℕ) → doubled h first ≡ limit → first < limit → (k : ℕ) × (doubled k (2 * first) ≡ limit)
lower zero first limit e lt = absurd (omega arith)
lower (suc k) first limit e lt = (k, e)

-- only the last row reaches as far as the leaves
lowest : (h first limit node : ℕ) → doubled h first ≡ limit → node < 2 * first → limit ≤ node → first ≡ limit
lowest zero first limit node e to from = e
lowest (suc h) first limit node e to from = absurd (omega (arith, doubled_ge h (2 * first)))

and_both : (a b : Bool) → a && b ≡ true → (a ≡ true) × (b ≡ true)
and_both true b e = (refl, e)
and_both false b e = cc

and_right : (a b : Bool) → a && b ≡ false → a ≡ true → b ≡ false
and_right true b e t = e
and_right false b e t = cc

-- both nodes below a full one are full
below_full : (nodes : List Bool) (m : ℕ) → IsJoined nodes (m / 2) → is_full nodes (m / 2) ≡ true → is_full nodes m ≡ true
below_full nodes m joined full =
    let both = and_both (is_full nodes (2 * (m / 2))) (is_full nodes (2 * (m / 2) + 1)) (sym joined ∙ full) in
    elim (cases_eq m (2 * (m / 2))) [
      | inl even ↦ ap (is_full nodes) even ∙ both.0
      | inr odd ↦ let e : m ≡ 2 * (m / 2) + 1 = omega arith in ap (is_full nodes) e ∙ both.1
    ]

-- from `first` on stands a row, in which the nodes before this one are full, and this one isn't
pub record IsFirstFree (nodes : List Bool) (limit node : ℕ) : Type 0 where
  pub first : ℕ
  pub height : ℕ
  pub whole : doubled height first ≡ limit
  pub some : 0 < first
  pub from : first ≤ node
  pub to : node < 2 * first
  pub before : (m : ℕ) → first ≤ m → m < node → is_full nodes m ≡ true
  pub free : is_full nodes node ≡ false

module _ (nodes : List Bool) (limit : ℕ) (tree : IsTree limit nodes) where
  power_doubled : 0 < limit → (k : ℕ) × (doubled k 1 ≡ limit)
  power_doubled some = let p = tree.power some in (p.0, doubled_pow p.0 1 ∙ omega (arith, p.1))

  pub root_free : 0 < limit → is_full nodes 1 ≡ false → IsFirstFree nodes limit 1
  root_free some free = let p = power_doubled some in record {
    first = 1;
    height = p.0;
    whole = p.1;
    some = omega arith;
    from = omega arith;
    to = omega arith;
    before = λ m a b. absurd (omega arith);
    free = free;
  }

  -- what stands below the full nodes of a row
  next_row : (first end : ℕ) → 0 < first → end ≤ limit → ((m : ℕ) → first ≤ m → m < end → is_full nodes m ≡ true)
      → (m : ℕ) → 2 * first ≤ m → m < 2 * end → is_full nodes m ≡ true
  next_row first end some within full m from to =
      below_full nodes m (tree.joined (m / 2) (omega arith) (omega arith)) (full (m / 2) (omega arith) (omega arith))

  pub left_free : (node child : ℕ) → child ≡ 2 * node → node < limit → IsFirstFree nodes limit node → is_full nodes child ≡ false → IsFirstFree nodes limit child
  left_free node child below lt at free = let low = lower at.height at.first limit at.whole (omega arith) in record {
    first = 2 * at.first;
    height = low.0;
    whole = low.1;
    some = omega arith;
    from = omega arith;
    to = omega arith;
    before = λ m from to. next_row at.first node at.some (omega arith) at.before m from (omega arith);
    free = free;
  }

  pub right_free : (node child : ℕ) → child ≡ 2 * node → node < limit → IsFirstFree nodes limit node → is_full nodes child ≡ true → IsFirstFree nodes limit (child + 1)
  right_free node child below lt at full = let low = lower at.height at.first limit at.whole (omega arith) in record {
    first = 2 * at.first;
    height = low.0;
    whole = low.1;
    some = omega arith;
    from = omega arith;
    to = omega arith;
    before = λ m from to. elim (cases_eq m child) [
      | inl same ↦ ap (is_full nodes) same ∙ full
      | inr other ↦ next_row at.first node at.some (omega arith) at.before m from (omega arith)
    ];
    free = ap (λ (k : ℕ). is_full nodes (k + 1)) below ∙ and_right (is_full nodes (2 * node)) (is_full nodes (2 * node + 1)) (sym (tree.joined node (omega (arith, at.some, at.from)) lt) ∙ at.free) (ap (is_full nodes) (sym below) ∙ full);
  }

  rows_full : (h first : ℕ) → doubled h first ≡ limit → 0 < first → ((m : ℕ) → first ≤ m → m < 2 * first → is_full nodes m ≡ true)
      → (m : ℕ) → limit ≤ m → m < 2 * limit → is_full nodes m ≡ true
  rows_full zero first whole some full m from to = full m (omega arith) (omega arith)
  rows_full (suc h) first whole some full m from to =
      rows_full h (2 * first) whole (omega arith) (next_row first (2 * first) some (omega (arith, doubled_ge h (2 * first))) full) m from to

  marks_length : length (drop limit nodes) ≡ limit
  marks_length = length-drop limit nodes ∙ omega (arith, tree.long)

  -- the leaf at which the way down ends
  pub leaf_found : (node : ℕ) → IsFirstFree nodes limit node → limit ≤ node → position not (drop limit nodes) ≡ Some (node - limit)
  leaf_found node at end =
      let last : at.first ≡ limit = lowest at.height at.first limit node at.whole at.to end in
      let within : node - limit < length (drop limit nodes) = omega (arith, marks_length, at.to) in
      let place : limit + (node - limit) ≡ node = omega arith in
      let is : position_or_len not (drop limit nodes) ≡ node - limit = position_or_len_is not (drop limit nodes) (node - limit) false (omega arith)
      (λ k lt. ap not (get_or-drop limit nodes k false ∙ at.before (limit + k) (omega arith) (omega arith)))
      (λ _. ap not (get_or-drop limit nodes (node - limit) false ∙ ap (is_full nodes) place ∙ at.free)) in
      rw (is, lt-ltb (node - limit) (length (drop limit nodes)) within)

  none_if : ((m : ℕ) → limit ≤ m → m < 2 * limit → is_full nodes m ≡ true) → position not (drop limit nodes) ≡ None
  none_if full =
      let long = marks_length in
      let is : position_or_len not (drop limit nodes) ≡ length (drop limit nodes) = position_or_len_is not (drop limit nodes) (length (drop limit nodes)) false (omega arith)
      (λ k lt. ap not (get_or-drop limit nodes k false ∙ full (limit + k) (omega arith) (omega arith)))
      (λ lt. absurd (omega arith)) in
      rw (is, le-ltb (length (drop limit nodes)) (length (drop limit nodes)) (omega arith))

  pub root_full : 0 < limit → is_full nodes 1 ≡ true → position not (drop limit nodes) ≡ None
  root_full some full = let p = power_doubled some in
      none_if (rows_full p.0 1 p.1 (omega arith) (λ m from to. let e : m ≡ 1 = omega arith in ap (is_full nodes) e ∙ full))

  pub no_leaves : limit ≡ 0 → position not (drop limit nodes) ≡ None
  no_leaves none = none_if (λ m from to. absurd (omega arith))
