-- Pieces of a list, where a search for the separator stops.
use Rattle.std.proofs.Common.{◌≡◌, ◌≢◌, ℕ, ◌+◌, ◌-◌, Bool, true, false, cond, ltb, List, [], ◌∷◌, ◌++◌, length, get_or, take, drop, All, Some, None, subst, refl, ap, ◌∙◌, arith}
use Rattle.std.specs.Prelude.{Option, position, ◌==◌}
use Rattle.std.specs.List.{slice_split, onto_first, position_or_len}
use Rattle.std.proofs.lemmas.Bool.{ltb-true, ltb-false}
use Rattle.std.proofs.lemmas.Bool.Decides.{nat_tests}
use Rattle.std.proofs.lemmas.Option.{cond_some}
use Rattle.std.proofs.lemmas.List.Splits.{slice_split_first, slice_split_none, slice_split_at}
use Rattle.std.proofs.lemmas.List.Sums.{fails_before_first}
use Rattle.std.proofs.lemmas.Grind.{common_steps}
use Rattle.uring_text.specs.Lines.{without_empty_end, lines_of, fields_of}

rest_is : (xs : List ℕ) (n : ℕ) → take (length xs - n) (drop n xs) ≡ drop n xs
rest_is xs n = grind (arith, common_steps)

pub cut_some : (p : ℕ → Bool) (xs : List ℕ) (i : ℕ) → position p xs ≡ Some i → slice_split p xs ≡ take i xs ∷ slice_split p (take (length xs - (i + 1)) (drop (i + 1) xs))
cut_some p xs i e =
    let a = cond_some (ltb (position_or_len p xs) (length xs)) (position_or_len p xs) i e in
    let first = subst (λ (k : ℕ). slice_split p xs ≡ take k xs ∷ slice_split p (drop (k + 1) xs)) a.1 (slice_split_first p xs 0 (ltb-true _ _ a.0)) in
    rw (rest_is xs (i + 1)) first

not_chosen : (b : Bool) (n : ℕ) → ◌≡◌ {A = Option ℕ} (cond b (Some n) None) None → b ≡ false
not_chosen true n e = absurd cc
not_chosen false n e = refl

-- each element before the first that passes fails
none_passes : (p : ℕ → Bool) (xs : List ℕ) → position p xs ≡ None → All (λ x. p x ≡ false) xs
none_passes p xs e =
    let past = ltb-false _ _ (not_chosen (ltb (position_or_len p xs) (length xs)) (position_or_len p xs) e) in
    λ k d lt. fails_before_first p xs k d (omega arith)

pub cut_none : (p : ℕ → Bool) (xs : List ℕ) → position p xs ≡ None → slice_split p xs ≡ xs ∷ []
cut_none p xs e = slice_split_none p xs (none_passes p xs e)

-- there is always a piece
pub a_piece : (p : ℕ → Bool) (xs : List ℕ) → (first : List ℕ) × (more : List (List ℕ)) × (slice_split p xs ≡ first ∷ more)
a_piece p [] = ([], [], refl)
a_piece p (x ∷ xs) =
    let rest = a_piece p xs in
    elim (p x) as (λ b. (first : List ℕ) × (more : List (List ℕ)) × (cond b ([] ∷ slice_split p xs) (onto_first x (slice_split p xs)) ≡ first ∷ more)) [
      | true ↦ ([], slice_split p xs, refl)
      | false ↦ (x ∷ rest.0, rest.1, ap (onto_first x) rest.2)
    ]

pub lines_step : (text line rest : List ℕ) → slice_split (λ b. b == 10) text ≡ line ∷ slice_split (λ b. b == 10) rest → lines_of text ≡ line ∷ lines_of rest
lines_step text line rest e =
    let next = a_piece (λ b. b == 10) rest in
    rw (e, next.2) refl

other : (b c : ℕ) → b ≢ c → (b == c) ≡ false
other b c h = grind (arith, nat_tests)

unlike : (c : ℕ) (xs : List ℕ) → All (λ b. b ≢ c) xs → All (λ b. (b == c) ≡ false) xs
unlike c xs h = λ k d lt. other (get_or xs k d) c (h k d lt)

filled : (b : ℕ) (more : List ℕ) → (length (b ∷ more) == 0) ≡ false
filled b more = grind (arith, nat_tests)

kept : (piece : List ℕ) → (length piece == 0) ≡ false → without_empty_end (piece ∷ []) ≡ piece ∷ []
kept piece e = ap (λ (t : Bool). cond t [] (piece ∷ [])) e

pub one_line : (line : List ℕ) → line ≢ [] → All (λ b. b ≢ 10) line → lines_of line ≡ line ∷ []
one_line [] some h = absurd (some refl)
one_line (b ∷ more) some h = ap without_empty_end (slice_split_none (λ x. x == 10) (b ∷ more) (unlike 10 (b ∷ more) h)) ∙ kept (b ∷ more) (filled b more)

pub first_line : (line rest : List ℕ) → All (λ b. b ≢ 10) line → lines_of (line ++ 10 ∷ rest) ≡ line ∷ lines_of rest
first_line line rest h = lines_step (line ++ 10 ∷ rest) line rest (slice_split_at (λ b. b == 10) line 10 rest (unlike 10 line h) refl)

pub one_field : (field : List ℕ) → All (λ b. b ≢ 32) field → fields_of field ≡ field ∷ []
one_field field h = slice_split_none (λ b. b == 32) field (unlike 32 field h)

pub first_field : (field rest : List ℕ) → All (λ b. b ≢ 32) field → fields_of (field ++ 32 ∷ rest) ≡ field ∷ fields_of rest
first_field field rest h = slice_split_at (λ b. b == 32) field 32 rest (unlike 32 field h) refl
