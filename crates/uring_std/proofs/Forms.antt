-- The form of a path.
use Rattle.std.proofs.Common.{◌≡◌, ℕ, ◌<◌, List, [], ◌∷◌, length, None, Some, refl, arith}
use Rattle.std.specs.Prelude.{if◌then◌else◌}
use Rattle.std.specs.List.{list_any}
use Rattle.uring_base.specs.Errnos.{error_result}
use Rattle.uring_base.specs.declared.errno.TheConstants.{EINVAL}
use Rattle.file_tree.specs.Paths.{names, form, is_dots}

pub form_kept : (path : List ℕ) → 0 < length path → form path ≡ (if list_any is_dots (names path) then Some (error_result EINVAL) else None)
form_kept [] h = absurd (omega arith)
form_kept (b ∷ bs) h = refl
