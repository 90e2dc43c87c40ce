-- A whole buffer is moved exactly where its answers add up.
use Rattle.std.proofs.Common.{◌≡◌, ℕ, ◌+◌, ◌-◌, ◌≤◌, ◌==◌, ◌&&◌, Bool, true, false, cond, T, List, [], ◌∷◌, ◌++◌, refl, sym, ap, ◌∙◌, subst, arith, eqb-true, add-zero}
use Rattle.std.specs.Prelude.{ℤ, pos, negsuc, nat_lt, sum_by}
use Rattle.std.specs.List.{AllByRecursion, fold}
use Rattle.std.specs.Int.{w32, cast_unsigned}
use Rattle.std.proofs.lemmas.Bool.Decides.{nat_tests}
use Rattle.uring_base.specs.declared.errno.TheConstants.{EINTR}
use Rattle.std.proofs.lemmas.List.Sums.{sum_by-cons}
use Rattle.rent_fs.specs.declared.answers.TheConstants.{MAX_BREAKS}
use Rattle.rent_fs.specs.declared.answers.Progress.TheVariants.{Going, Whole, Failed}
use Rattle.rent_fs.specs.declared.answers.WholeFault.{WholeFault}
use Rattle.rent_fs.specs.declared.answers.WholeFault.TheVariants.{Os, Nothing, Interrupted, BadCount}
use Rattle.rent_fs.specs.WholeBuffer.{TransferAnswer, going, after_answer, after_result, progress_of}
use Rattle.rent_fs.specs.Laws.{bytes_in, breaks_in, is_good, IsWholeExactly}

-- what ends stays so
stays_failed : (len : ℕ) (fault : WholeFault) (answers : List TransferAnswer) → fold (after_answer len) (Failed fault) answers ≡ Failed fault
stays_failed len fault [] = refl
stays_failed len fault (a ∷ xs) = stays_failed len fault xs

stays_whole : (len : ℕ) (answers : List TransferAnswer) → fold (after_answer len) Whole answers ≡ Whole
stays_whole len [] = refl
stays_whole len (a ∷ xs) = stays_whole len xs

-- the first answers are good, and add up to what is left
record AddsFrom (len rest breaks : ℕ) (answers : List TransferAnswer) : Type 0 where
  first : List TransferAnswer
  behind : List TransferAnswer
  all : answers ≡ first ++ behind
  good : AllByRecursion (λ a. is_good len a ≡ true) first
  whole : sum_by (λ a. bytes_in a.result) first ≡ rest
  few : breaks + sum_by (λ a. breaks_in a.result) first ≤ MAX_BREAKS

nothing_left : (len rest breaks : ℕ) (answers : List TransferAnswer) → (rest == 0) ≡ true → breaks ≤ MAX_BREAKS → AddsFrom len rest breaks answers
nothing_left len rest breaks answers e ok = record { first = []; behind = answers; all = refl; good = tt; whole = sym (eqb-true rest 0 e); few = omega arith }

-- one more answer in front
more : (len rest rest' breaks breaks' : ℕ) (a : TransferAnswer) (xs : List TransferAnswer) → is_good len a ≡ true → bytes_in a.result + rest' ≡ rest → breaks' ≡ breaks + breaks_in a.result → AddsFrom len rest' breaks' xs → AddsFrom len rest breaks (a ∷ xs)
more len rest rest' breaks breaks' a xs good r b from = record {
  first = a ∷ from.first;
  behind = from.behind;
  all = ap (λ ys. a ∷ ys) from.all;
  good = (good, from.good);
  whole = sum_by-cons (λ x. bytes_in x.result) a from.first ∙ ap (λ n. bytes_in a.result + n) from.whole ∙ r;
  few = let e = sum_by-cons (λ x. breaks_in x.result) a from.first in let f = from.few in omega (arith, e, f, b);
}

positive : (n : ℕ) → (n == 0) ≡ false → nat_lt 0 (n + 0) ≡ true
positive n e = grind (arith, nat_tests)

inside : (rest n : ℕ) → nat_lt rest n ≡ false → n + (rest - n) ≡ rest
inside rest n e = let le : n ≤ rest = grind (arith, nat_tests) in omega arith

few_more : (breaks : ℕ) → nat_lt breaks MAX_BREAKS ≡ true → breaks + 1 ≤ MAX_BREAKS
few_more breaks e = grind (arith, nat_tests)

no_more : (breaks more : ℕ) → nat_lt breaks MAX_BREAKS ≡ false → breaks + (1 + more) ≤ MAX_BREAKS → ⊥
no_more breaks more e le = grind (arith, nat_tests)

no_count : (n : ℕ) → (n == 0) ≡ true → nat_lt 0 (n + 0) ≡ true → ⊥
no_count n e some = grind (arith, nat_tests)

too_many : (rest n more : ℕ) → nat_lt rest n ≡ true → n + more ≡ rest → ⊥
too_many rest n more e whole = grind (arith, nat_tests)

is_good_as : (len : ℕ) (a : TransferAnswer) (z : ℤ) → a.result ≡ z → (a.length == len) ≡ true → nat_lt 0 (bytes_in z + breaks_in z) ≡ true → is_good len a ≡ true
is_good_as len a z is same some = rw (same, is) some

-- what adds up to the whole, by the answer in front

module _ (len rest breaks : ℕ) (a : TransferAnswer) (xs : List TransferAnswer) (ok : breaks ≤ MAX_BREAKS) (left : (rest == 0) ≡ false) (same : (a.length == len) ≡ true)
    (later : (rest' breaks' : ℕ) → breaks' ≤ MAX_BREAKS → fold (after_answer len) (going rest' breaks') xs ≡ Whole → AddsFrom len rest' breaks' xs) where
  by_count : (n : ℕ) (none over : Bool) → a.result ≡ pos n → (n == 0) ≡ none → nat_lt rest n ≡ over
      → fold (after_answer len) (cond none (Failed Nothing) (cond over (Failed BadCount) (going (rest - n) breaks))) xs ≡ Whole → AddsFrom len rest breaks (a ∷ xs)
  by_count n true over is e o whole = absurd (let f = stays_failed len Nothing xs in cc)
  by_count n false true is e o whole = absurd (let f = stays_failed len BadCount xs in cc)
  by_count n false false is e o whole =
      more len rest (rest - n) breaks breaks a xs (is_good_as len a (pos n) is same (positive n e)) (ap (λ z. bytes_in z + (rest - n)) is ∙ inside rest n o) (sym (ap (λ z. breaks + breaks_in z) is ∙ add-zero breaks)) (later (rest - n) breaks ok whole)

  by_errno : (n : ℕ) (eintr few : Bool) → a.result ≡ negsuc n → (n + 1 == cast_unsigned w32 EINTR) ≡ eintr → nat_lt breaks MAX_BREAKS ≡ few
      → fold (after_answer len) (cond eintr (cond few (Going (record { rest = rest; breaks = breaks + 1 })) (Failed Interrupted)) (Failed (Os (n + 1)))) xs ≡ Whole → AddsFrom len rest breaks (a ∷ xs)
  by_errno n false few is e f whole = absurd (let g = stays_failed len (Os (n + 1)) xs in cc)
  by_errno n true false is e f whole = absurd (let g = stays_failed len Interrupted xs in cc)
  by_errno n true true is e f whole =
      let one : breaks_in a.result ≡ 1 = ap breaks_in is ∙ ap (λ b. cond b 1 0) e in
      let bytes : bytes_in a.result ≡ 0 = ap bytes_in is in
      let some : nat_lt 0 (bytes_in (negsuc n) + breaks_in (negsuc n)) ≡ true = ap (λ b. nat_lt 0 (0 + cond b 1 0)) e in
      let ok' : breaks + 1 ≤ MAX_BREAKS = few_more breaks f in
      more len rest rest breaks (breaks + 1) a xs (is_good_as len a (negsuc n) is same some) (omega (arith, bytes)) (omega (arith, one))
      (later rest (breaks + 1) ok' (ap (λ b. fold (after_answer len) (cond b Whole (Going (record { rest = rest; breaks = breaks + 1 }))) xs) left ∙ whole))

  by_result : (z : ℤ) → a.result ≡ z → fold (after_answer len) (after_result (record { rest = rest; breaks = breaks }) z) xs ≡ Whole → AddsFrom len rest breaks (a ∷ xs)
  by_result (pos n) is whole = by_count n (n == 0) (nat_lt rest n) is refl refl whole
  by_result (negsuc n) is whole = by_errno n (n + 1 == cast_unsigned w32 EINTR) (nat_lt breaks MAX_BREAKS) is refl refl whole

by_length : (len rest breaks : ℕ) (a : TransferAnswer) (xs : List TransferAnswer) (same : Bool) → breaks ≤ MAX_BREAKS → (rest == 0) ≡ false → (a.length == len) ≡ same
    → ((rest' breaks' : ℕ) → breaks' ≤ MAX_BREAKS → fold (after_answer len) (going rest' breaks') xs ≡ Whole → AddsFrom len rest' breaks' xs)
    → fold (after_answer len) (cond same (after_result (record { rest = rest; breaks = breaks }) a.result) (Failed BadCount)) xs ≡ Whole → AddsFrom len rest breaks (a ∷ xs)
by_length len rest breaks a xs true ok left same later whole = by_result len rest breaks a xs ok left same later a.result refl whole
by_length len rest breaks a xs false ok left same later whole = absurd (let f = stays_failed len BadCount xs in cc)

by_rest : (len rest breaks : ℕ) (a : TransferAnswer) (xs : List TransferAnswer) (none : Bool) → breaks ≤ MAX_BREAKS → (rest == 0) ≡ none
    → ((rest' breaks' : ℕ) → breaks' ≤ MAX_BREAKS → fold (after_answer len) (going rest' breaks') xs ≡ Whole → AddsFrom len rest' breaks' xs)
    → fold (after_answer len) (after_answer len (cond none Whole (Going (record { rest = rest; breaks = breaks }))) a) xs ≡ Whole → AddsFrom len rest breaks (a ∷ xs)
by_rest len rest breaks a xs true ok none later whole = nothing_left len rest breaks (a ∷ xs) none ok
by_rest len rest breaks a xs false ok none later whole = by_length len rest breaks a xs (a.length == len) ok none refl later whole

at_end : (len rest breaks : ℕ) (none : Bool) → breaks ≤ MAX_BREAKS → (rest == 0) ≡ none → cond none Whole (Going (record { rest = rest; breaks = breaks })) ≡ Whole → AddsFrom len rest breaks []
at_end len rest breaks true ok none whole = nothing_left len rest breaks [] none ok
at_end len rest breaks false ok none whole = absurd cc

adds_from : (len rest breaks : ℕ) (answers : List TransferAnswer) → breaks ≤ MAX_BREAKS → fold (after_answer len) (going rest breaks) answers ≡ Whole → AddsFrom len rest breaks answers
adds_from len rest breaks [] ok whole = at_end len rest breaks (rest == 0) ok refl whole
adds_from len rest breaks (a ∷ xs) ok whole = by_rest len rest breaks a xs (rest == 0) ok refl (λ r b o w. adds_from len r b xs o w) whole

-- and the other way round

and_both : (a b : Bool) → (a && b) ≡ true → (a ≡ true) × (b ≡ true)
and_both true b e = (refl, e)
and_both false b e = absurd (subst T (sym e) tt)

module _ (len rest breaks : ℕ) (first behind : List TransferAnswer) (left : (rest == 0) ≡ false)
    (later : (rest' breaks' : ℕ) → sum_by (λ a. bytes_in a.result) first ≡ rest' → breaks' + sum_by (λ a. breaks_in a.result) first ≤ MAX_BREAKS → fold (after_answer len) (going rest' breaks') (first ++ behind) ≡ Whole) where
  whole_by_count : (n : ℕ) (none over : Bool) → (n == 0) ≡ none → nat_lt rest n ≡ over → nat_lt 0 (n + 0) ≡ true → n + sum_by (λ a. bytes_in a.result) first ≡ rest → breaks + (0 + sum_by (λ a. breaks_in a.result) first) ≤ MAX_BREAKS
      → fold (after_answer len) (cond none (Failed Nothing) (cond over (Failed BadCount) (going (rest - n) breaks))) (first ++ behind) ≡ Whole
  whole_by_count n true over e o some whole few = absurd (no_count n e some)
  whole_by_count n false true e o some whole few = absurd (too_many rest n (sum_by (λ a. bytes_in a.result) first) o whole)
  whole_by_count n false false e o some whole few = later (rest - n) breaks (omega arith) (omega arith)

  whole_by_errno : (n : ℕ) (eintr few : Bool) → nat_lt breaks MAX_BREAKS ≡ few → nat_lt 0 (0 + cond eintr 1 0) ≡ true → 0 + sum_by (λ a. bytes_in a.result) first ≡ rest → breaks + (cond eintr 1 0 + sum_by (λ a. breaks_in a.result) first) ≤ MAX_BREAKS
      → fold (after_answer len) (cond eintr (cond few (Going (record { rest = rest; breaks = breaks + 1 })) (Failed Interrupted)) (Failed (Os (n + 1)))) (first ++ behind) ≡ Whole
  whole_by_errno n false few f some whole le = absurd (subst T (sym some) tt)
  whole_by_errno n true false f some whole le = absurd (no_more breaks (sum_by (λ a. breaks_in a.result) first) f le)
  whole_by_errno n true true f some whole le =
      ap (λ b. fold (after_answer len) (cond b Whole (Going (record { rest = rest; breaks = breaks + 1 }))) (first ++ behind)) (sym left) ∙ later rest (breaks + 1) (omega arith) (omega arith)

  whole_by_result : (z : ℤ) → nat_lt 0 (bytes_in z + breaks_in z) ≡ true → bytes_in z + sum_by (λ a. bytes_in a.result) first ≡ rest → breaks + (breaks_in z + sum_by (λ a. breaks_in a.result) first) ≤ MAX_BREAKS
      → fold (after_answer len) (after_result (record { rest = rest; breaks = breaks }) z) (first ++ behind) ≡ Whole
  whole_by_result (pos n) some whole few = whole_by_count n (n == 0) (nat_lt rest n) refl refl some whole few
  whole_by_result (negsuc n) some whole few = whole_by_errno n (n + 1 == cast_unsigned w32 EINTR) (nat_lt breaks MAX_BREAKS) refl some whole few

whole_by_rest : (len rest breaks : ℕ) (a : TransferAnswer) (first behind : List TransferAnswer) (none : Bool) → (rest == 0) ≡ none → is_good len a ≡ true
    → bytes_in a.result + sum_by (λ x. bytes_in x.result) first ≡ rest → breaks + (breaks_in a.result + sum_by (λ x. breaks_in x.result) first) ≤ MAX_BREAKS
    → ((rest' breaks' : ℕ) → sum_by (λ x. bytes_in x.result) first ≡ rest' → breaks' + sum_by (λ x. breaks_in x.result) first ≤ MAX_BREAKS → fold (after_answer len) (going rest' breaks') (first ++ behind) ≡ Whole)
    → fold (after_answer len) (after_answer len (cond none Whole (Going (record { rest = rest; breaks = breaks }))) a) (first ++ behind) ≡ Whole
whole_by_rest len rest breaks a first behind true none good whole few later = stays_whole len (first ++ behind)
whole_by_rest len rest breaks a first behind false none good whole few later =
    let g = and_both (a.length == len) (nat_lt 0 (bytes_in a.result + breaks_in a.result)) good in
    ap (λ b. fold (after_answer len) (cond b (after_result (record { rest = rest; breaks = breaks }) a.result) (Failed BadCount)) (first ++ behind)) g.0
    ∙ whole_by_result len rest breaks first behind none later a.result g.1 whole few

whole_from : (len rest breaks : ℕ) (first behind : List TransferAnswer) → AllByRecursion (λ a. is_good len a ≡ true) first → sum_by (λ a. bytes_in a.result) first ≡ rest → breaks + sum_by (λ a. breaks_in a.result) first ≤ MAX_BREAKS
    → fold (after_answer len) (going rest breaks) (first ++ behind) ≡ Whole
whole_from len rest breaks [] behind good whole few = ap (λ r. fold (after_answer len) (going r breaks) behind) (sym whole) ∙ stays_whole len behind
whole_from len rest breaks (a ∷ first) behind good whole few =
    whole_by_rest len rest breaks a first behind (rest == 0) refl good.0
    (sym (sum_by-cons (λ x. bytes_in x.result) a first) ∙ whole)
    (subst (λ n. breaks + n ≤ MAX_BREAKS) (sum_by-cons (λ x. breaks_in x.result) a first) few)
    (λ r b w f. whole_from len r b first behind good.1 w f)

pub is_whole_exactly : IsWholeExactly
is_whole_exactly len answers = (
  λ whole. let a = adds_from len len 0 answers (omega arith) whole in
      record { first = a.first; behind = a.behind; all = a.all; good = a.good; whole = a.whole; few = let f = a.few in omega (arith, f) },
  λ adds. ap (λ ys. progress_of len ys) adds.all ∙ whole_from len len 0 adds.first adds.behind adds.good adds.whole (let f = adds.few in omega (arith, f)),
)
