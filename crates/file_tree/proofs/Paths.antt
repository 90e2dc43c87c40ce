-- Paths, and how far they were read.
use Rattle.std.proofs.Common.{◌≡◌, ℕ, zero, suc, ◌-◌, ◌<◌, ◌≤◌, true, false, cond, List, [], ◌∷◌, length, take, drop, Some, None, slice_index_or, nat_lt, refl, ap, ◌∙◌, arith}
use Rattle.std.specs.Prelude.{if◌then◌else◌}
use Rattle.std.specs.List.{list_any}
use Rattle.std.proofs.lemmas.Bool.Decides.{nat_tests}
use Rattle.std.proofs.lemmas.List.{same_lists, places}
use Rattle.std.specs.Str.{bytes_eq}
use Rattle.uring_base.specs.Errnos.{error_result}
use Rattle.uring_base.specs.declared.errno.TheConstants.{EINVAL}
use Rattle.file_tree.specs.Paths.{names, form, is_dots, is_below}

pub form_kept : (path : List ℕ) → 0 < length path → form path ≡ (if list_any is_dots (names path) then Some (error_result EINVAL) else None)
form_kept [] h = absurd (omega arith)
form_kept (b ∷ bs) h = refl

-- one more pair of names is alike
pub below_on : (above path : List (List ℕ)) (i : ℕ) (d : List ℕ) → i < length above → i < length path → bytes_eq (slice_index_or above i d) (slice_index_or path i d) ≡ true → is_below (drop i above) (drop i path) ≡ is_below (drop (suc i) above) (drop (suc i) path)
below_on [] path i d a p e = absurd (omega arith)
below_on (n ∷ ns) [] i d a p e = absurd (omega arith)
below_on (n ∷ ns) (m ∷ ms) zero d a p e = ap (λ b. cond b (is_below ns ms) false) e
below_on (n ∷ ns) (m ∷ ms) (suc i) d a p e = below_on ns ms i d (omega arith) (omega arith) e

-- two names differ
pub below_off : (above path : List (List ℕ)) (i : ℕ) (d : List ℕ) → i < length above → i < length path → bytes_eq (slice_index_or above i d) (slice_index_or path i d) ≡ false → is_below (drop i above) (drop i path) ≡ false
below_off [] path i d a p e = absurd (omega arith)
below_off (n ∷ ns) [] i d a p e = absurd (omega arith)
below_off (n ∷ ns) (m ∷ ms) zero d a p e = ap (λ b. cond b (is_below ns ms) false) e
below_off (n ∷ ns) (m ∷ ms) (suc i) d a p e = below_off ns ms i d (omega arith) (omega arith) e

below_nil : (above : List (List ℕ)) → is_below above [] ≡ false
below_nil [] = refl
below_nil (n ∷ ns) = refl

-- the path ends first
pub below_short : (above path : List (List ℕ)) (i : ℕ) → i < length above → length path ≤ i → is_below (drop i above) (drop i path) ≡ false
below_short [] path i a p = absurd (omega arith)
below_short (n ∷ ns) [] zero a p = refl
below_short (n ∷ ns) (m ∷ ms) zero a p = absurd (omega arith)
below_short (n ∷ ns) [] (suc i) a p = below_nil (drop i ns)
below_short (n ∷ ns) (m ∷ ms) (suc i) a p = below_short ns ms i (omega arith) (omega arith)

drop_all : {A : Type 0} (xs : List A) (i : ℕ) → length xs ≤ i → drop i xs ≡ []
drop_all [] zero h = refl
drop_all [] (suc i) h = refl
drop_all (x ∷ xs) zero h = absurd (omega arith)
drop_all (x ∷ xs) (suc i) h = drop_all xs i (omega arith)

left_over : (path : List (List ℕ)) (i : ℕ) → is_below [] (drop i path) ≡ nat_lt i (length path)
left_over [] zero = refl
left_over [] (suc i) = grind (arith, nat_tests)
left_over (m ∷ ms) zero = grind (arith, nat_tests)
left_over (m ∷ ms) (suc i) = left_over ms i ∙ grind (arith, nat_tests)

-- all of the upper path was read
pub below_end : (above path : List (List ℕ)) (i : ℕ) → length above ≤ i → is_below (drop i above) (drop i path) ≡ nat_lt i (length path)
below_end above path i h = ap (λ xs. is_below xs (drop i path)) (drop_all above i h) ∙ left_over path i

-- a slice to the end is all that is left
pub to_end : (xs : List ℕ) (n : ℕ) → take (length xs - n) (drop n xs) ≡ drop n xs
to_end xs n = same_lists _ _ (grind (arith, places)) (λ k d h. grind (arith, places))
