-- A path's bytes, and the names in it.
use Rattle.std.specs.Prelude.{ℕ, ℤ, Bool, true, false, ◌==◌, if◌then◌else◌, cond, List, [], ◌∷◌, ◌++◌, Option, Some, None}
use Rattle.std.specs.List.{list_any}
use Rattle.std.specs.Str.{bytes_eq}
use Rattle.uring_base.specs.Errnos.{error_result}
use Rattle.uring_base.specs.declared.errno.TheConstants.{ENOENT, EINVAL}

-- the byte `/`
abbrev pub slash : ℕ
slash = 47

-- the byte `.`
abbrev pub dot : ℕ
dot = 46

-- an empty piece is no name
abbrev pub ended : List ℕ → List (List ℕ) → List (List ℕ)
ended [] names = names
ended (b ∷ bs) names = (b ∷ bs) ∷ names

-- the names are the pieces between slashes, where `piece` was read already
abbrev pub names_from : List ℕ → List ℕ → List (List ℕ)
names_from piece [] = ended piece []
names_from piece (b ∷ bs) = if b == slash then ended piece (names_from [] bs) else names_from (piece ++ b ∷ []) bs

abbrev pub names : List ℕ → List (List ℕ)
names path = names_from [] path

-- `.` or `..`
abbrev pub is_dots : List ℕ → Bool
is_dots name = cond (bytes_eq name (dot ∷ [])) true (bytes_eq name (dot ∷ dot ∷ []))

-- what is refused before anything is looked up: an empty path, and one with a name of dots
abbrev pub form : List ℕ → Option ℤ
form [] = Some (error_result ENOENT)
form (b ∷ bs) = if list_any is_dots (names (b ∷ bs)) then Some (error_result EINVAL) else None

-- whether the second path goes on below the first
abbrev pub is_below : List (List ℕ) → List (List ℕ) → Bool
is_below [] [] = false
is_below [] (m ∷ ms) = true
is_below (n ∷ ns) [] = false
is_below (n ∷ ns) (m ∷ ms) = cond (bytes_eq n m) (is_below ns ms) false
