-- The numbers of the files that are open.
use Rattle.std.specs.Prelude.{◌≡◌, ℕ, ◌<◌, nat_eq, List, Option, None, IsSome, position}
use Rattle.uring_std.specs.declared.open_files.OpenFile.{OpenFile}

-- where the file of this number stands
abbrev pub place_in : {F : Type 0} → ℕ → List (OpenFile F) → Option ℕ
place_in number files = position (λ f. nat_eq f.number number) files

-- the number has no file, and each less one has
pub record IsLeastFree {F : Type 0} (number : ℕ) (files : List (OpenFile F)) : Type 0 where
  pub free : place_in number files ≡ None
  pub least : (k : ℕ) → k < number → IsSome (place_in k files)
