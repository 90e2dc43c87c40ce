-- Where the parents of paths end.
use Rattle.std.specs.Prelude.{ℕ, zero, suc, ◌==◌, if◌then◌else◌, List, slice_index_or, Option, Some, None}

-- the code of `/`
abbrev pub slash : ℕ
slash = 47

-- without the slashes at the end of a path's first bytes
abbrev pub before_slashes : List ℕ → ℕ → ℕ
before_slashes path zero = 0
before_slashes path (suc n) = if slice_index_or path n 0 == slash then before_slashes path n else suc n

-- without the name at the end of a path's first bytes
abbrev pub before_name : List ℕ → ℕ → ℕ
before_name path zero = 0
before_name path (suc n) = if slice_index_or path n 0 == slash then suc n else before_name path n

-- the root is the parent where the path begins at it
abbrev pub or_root : List ℕ → ℕ → Option ℕ
or_root path zero = if slice_index_or path 0 0 == slash then Some 1 else None
or_root path (suc n) = Some (suc n)

-- slashes alone have no parent
abbrev pub above : List ℕ → ℕ → Option ℕ
above path zero = None
above path (suc n) = or_root path (before_slashes path (before_name path (suc n)))

-- the parent of a path's first bytes: its length
abbrev pub parent_end : List ℕ → ℕ → Option ℕ
parent_end path n = above path (before_slashes path n)
