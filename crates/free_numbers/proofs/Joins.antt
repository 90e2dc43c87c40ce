-- Which nodes are joined after a write.
use Rattle.std.proofs.Common.{◌≡◌, ◌≢◌, ℕ, ◌+◌, ◌*◌, ◌/◌, ◌<◌, ◌≤◌, Bool, false, ◌&&◌, List, length, set, inl, inr, sym, ◌∙◌, subst, arith, get_or-set_other, get_or-set_same}
use Rattle.std.proofs.lemmas.Bool.{cases_eq}
use Rattle.free_numbers.specs.Tree.{is_full, IsJoined}

-- each node is joined, but maybe this one
abbrev pub JoinedBut : ℕ → ℕ → List Bool → Type 0
JoinedBut limit top nodes = (i : ℕ) → 0 < i → i < limit → i ≢ top → IsJoined nodes i

-- each node from this one on is joined
abbrev pub JoinedFrom : ℕ → ℕ → List Bool → Type 0
JoinedFrom limit from nodes = (i : ℕ) → from ≤ i → i < limit → IsJoined nodes i

module _ (nodes : List Bool) (j : ℕ) (b : Bool) where
  -- a write at j leaves each node joined but j and the node above it
  elsewhere : (i : ℕ) → i ≢ j → i ≢ j / 2 → IsJoined nodes i → IsJoined (set nodes j b) i
  elsewhere i here above h =
      let left : 2 * i ≢ j = λ e. above (omega arith) in
      let right : 2 * i + 1 ≢ j = λ e. above (omega arith) in
      let l = get_or-set_other nodes j (2 * i) b false left in
      let r = get_or-set_other nodes j (2 * i + 1) b false right in
      let s = get_or-set_other nodes j i b false here in
      s ∙ h ∙ (λ k. sym l k && sym r k)

  -- what joins j, written there
  here : 0 < j → j < length nodes → b ≡ is_full nodes (2 * j) && is_full nodes (2 * j + 1) → IsJoined (set nodes j b) j
  here pos lt e =
      let left : 2 * j ≢ j = λ w. absurd (omega arith) in
      let right : 2 * j + 1 ≢ j = λ w. absurd (omega arith) in
      let l = get_or-set_other nodes j (2 * j) b false left in
      let r = get_or-set_other nodes j (2 * j + 1) b false right in
      get_or-set_same nodes j b false lt ∙ e ∙ (λ k. sym l k && sym r k)

  pub leaf_written : (limit : ℕ) → limit ≤ j → ((i : ℕ) → 0 < i → i < limit → IsJoined nodes i) → JoinedBut limit (j / 2) (set nodes j b)
  leaf_written limit le h i pos lt ne = elsewhere i (λ e. absurd (omega arith)) ne (h i pos lt)

  pub node_mended : (limit : ℕ) → 0 < j → j < length nodes → b ≡ is_full nodes (2 * j) && is_full nodes (2 * j + 1) → JoinedBut limit j nodes → JoinedBut limit (j / 2) (set nodes j b)
  node_mended limit some room e h i pos lt ne = elim (cases_eq i j) [
    | inl same ↦ subst (λ (n : ℕ). IsJoined (set nodes j b) n) (sym same) (here some room e)
    | inr other ↦ elsewhere i other ne (h i pos lt other)
  ]

  pub node_joined : (limit : ℕ) → 0 < j → j < length nodes → b ≡ is_full nodes (2 * j) && is_full nodes (2 * j + 1) → JoinedFrom limit (j + 1) nodes → JoinedFrom limit j (set nodes j b)
  node_joined limit some room e h i from lt = elim (cases_eq i j) [
    | inl same ↦ subst (λ (n : ℕ). IsJoined (set nodes j b) n) (sym same) (here some room e)
    | inr other ↦ elsewhere i other (λ w. absurd (omega arith)) (h i (omega arith) lt)
  ]
