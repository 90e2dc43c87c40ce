-- A complete binary tree of marks, in one list: nodes 2i and 2i + 1 stand below node i, and the leaves from the limit on.
use Rattle.std.specs.Prelude.{◌≡◌, ℕ, ◌+◌, ◌*◌, ◌<◌, Bool, false, ◌&&◌, List, length, slice_index_or}
use Rattle.std.specs.Int.{IsPowerOfTwo}

-- the mark of a node
abbrev pub is_full : List Bool → ℕ → Bool
is_full nodes i = slice_index_or nodes i false

-- a node is full exactly where both nodes below it are
abbrev pub IsJoined : List Bool → ℕ → Type 0
IsJoined nodes i = is_full nodes i ≡ is_full nodes (2 * i) && is_full nodes (2 * i + 1)

-- a tree with so many leaves: none, or a power of two
pub record IsTree (limit : ℕ) (nodes : List Bool) : Type 0 where
  pub power : 0 < limit → IsPowerOfTwo limit
  pub long : length nodes ≡ 2 * limit
  pub joined : (i : ℕ) → 0 < i → i < limit → IsJoined nodes i
