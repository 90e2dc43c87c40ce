-- The path that the system is given.
use Rattle.std.specs.Prelude.{◌≡◌, ℕ, ◌<◌, ℤ, List, [], ◌∷◌, ◌++◌, flat_map, decimal, string_bytes, Option, Some, None}
use Rattle.uring_base.specs.Errnos.{error_result}
use Rattle.uring_base.specs.declared.errno.TheConstants.{EINVAL}
use Rattle.file_tree.specs.Paths.{slash, names, form}
use Rattle.uring_std.specs.declared.paths.SystemPath.{SystemPath}
use Rattle.uring_std.specs.declared.paths.SystemPath.TheVariants.{At, Refused}

-- the folder's name, and behind it each name after a slash
abbrev pub below : List ℕ → List (List ℕ) → List ℕ
below folder found = folder ++ flat_map (λ name. slash ∷ name) found

-- the path of these bytes; one that can't be a path of the system is refused
abbrev pub IsPathOf : List ℕ → SystemPath → Type 0
IsPathOf bytes (At text) = string_bytes text ≡ bytes
IsPathOf bytes (Refused r) = r ≡ error_result EINVAL

-- a path whose form is right leads to its names below the folder
abbrev pub leads_to : List ℕ → List ℕ → Option ℤ → SystemPath → Type 0
leads_to folder path None at = IsPathOf (below folder (names path)) at
leads_to folder path (Some refusal) at = at ≡ Refused refusal

abbrev pub IsBelow : List ℕ → List ℕ → SystemPath → Type 0
IsBelow folder path at = leads_to folder path (form path) at

-- `f` and the number
abbrev pub seed_name : ℕ → List ℕ
seed_name number = 102 ∷ decimal number
