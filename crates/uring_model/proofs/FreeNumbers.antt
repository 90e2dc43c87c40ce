-- The number that a new file gets, and below which number all are used.
use Rattle.std.proofs.Common.{◌≡◌, ℕ, zero, suc, ◌+◌, ◌-◌, ◌<◌, ◌≤◌, Bool, true, false, List, Option, Some, None, is_some, cond, nat_lt, refl, ap, sym, ◌∙◌, arith}
use Rattle.std.specs.Prelude.{if◌then◌else◌, min}
use Rattle.std.specs.Ordering.{nat_cmp, is_eq}
use Rattle.std.specs.Cmp.{nat_cmp_total}
use Rattle.std.proofs.lemmas.Bool.Decides.{nat_tests}
use Rattle.std.specs.BTreeMap.{is_at}
use Rattle.std.specs.FinMap.{get, insert, remove, contains_key, get-insert, get-remove, nat_cmp-IsAntisymmetric}
use Rattle.uring_model.specs.Machine.{Files}
use Rattle.uring_model.specs.FreeNumber.{least_free, least_free_from, AllUsed}
use Rattle.uring_model.specs.declared.files.TheConstants.{MAX_FILE_NUMBER}
use Rattle.uring_model.proofs.Keys.{is_equal}

-- one step of the search

step_on : (files : Files) (n left : ℕ) → contains_key files n ≡ true → least_free_from files n (suc left) ≡ least_free_from files (n + 1) left
unfolding least_free_from
step_on files n left e = ap (λ b. if b then least_free_from files (n + 1) left else Some n) e

step_here : (files : Files) (n left : ℕ) → contains_key files n ≡ false → least_free_from files n (suc left) ≡ Some n
unfolding least_free_from
step_here files n left e = ap (λ b. if b then least_free_from files (n + 1) left else Some n) e

step_end : (files : Files) (n : ℕ) → least_free_from files n zero ≡ None
unfolding least_free_from
step_end files n = refl

-- used numbers are passed over
passed : (files : Files) (n d left : ℕ) → AllUsed (n + d) files → least_free_from files n (d + left) ≡ least_free_from files (n + d) left
passed files n zero left used =
    let none : 0 + left ≡ left = omega arith in
    let same : n ≡ n + 0 = omega arith in
    ap (least_free_from files n) none ∙ ap (λ k. least_free_from files k left) same
passed files n (suc d) left used =
    let e : (n + 1) + d ≡ n + suc d = omega arith in
    let one : suc d + left ≡ suc (d + left) = omega arith in
    ap (least_free_from files n) one ∙ step_on files n (d + left) (used n (omega arith))
    ∙ passed files (n + 1) d left (λ m h. used m (omega arith))
    ∙ ap (λ k. least_free_from files k left) e

-- the first number that isn't used is the least free one
pub first_free : (files : Files) (n : ℕ) → AllUsed n files → n < MAX_FILE_NUMBER + 1 → contains_key files n ≡ false → least_free files ≡ Some n
first_free files n used h free =
    let whole : MAX_FILE_NUMBER + 1 ≡ n + suc (MAX_FILE_NUMBER - n) = omega arith in
    let start : 0 + n ≡ n = omega arith in
    ap (least_free_from files 0) whole ∙ passed files 0 n (suc (MAX_FILE_NUMBER - n)) (λ m l. used m (omega arith)) ∙ ap (λ k. least_free_from files k (suc (MAX_FILE_NUMBER - n))) start ∙ step_here files n (MAX_FILE_NUMBER - n) free

-- where all are used, there is none
pub none_free : (files : Files) (n : ℕ) → AllUsed n files → MAX_FILE_NUMBER + 1 ≤ n → least_free files ≡ None
none_free files n used h =
    let whole : MAX_FILE_NUMBER + 1 ≡ (MAX_FILE_NUMBER + 1) + 0 = omega arith in
    ap (least_free_from files 0) whole ∙ passed files 0 (MAX_FILE_NUMBER + 1) 0 (λ m l. used m (omega arith)) ∙ step_end files (0 + (MAX_FILE_NUMBER + 1))

-- one more is used
pub used_on : (files : Files) (n : ℕ) → AllUsed n files → contains_key files n ≡ true → AllUsed (n + 1) files
used_on files n used e m h = below (nat_lt m n) refl
  where
    below : (b : Bool) → nat_lt m n ≡ b → contains_key files m ≡ true
    below true l = used m (grind (arith, nat_tests))
    below false l = let same : n ≡ m = grind (arith, nat_tests) in ap (contains_key files) (sym same) ∙ e

-- a file that is put keeps what is used
some_so : (b : Bool) (x y : Option (List ℕ)) → is_some x ≡ true → is_some y ≡ true → is_some (cond b x y) ≡ true
some_so true x y p q = p
some_so false x y p q = q

pub used_put : (files : Files) (n k : ℕ) (bytes : List ℕ) → AllUsed n files → AllUsed n (insert files k bytes)
used_put files n k bytes used m h = ap is_some (get-insert nat_cmp_total files k bytes m) ∙ some_so (is_at (nat_cmp m) k) (Some bytes) (get files m) refl (used m h)

-- below a number that is taken away all stay used
apart : (m k : ℕ) (b : Bool) → m < k → is_at (nat_cmp m) k ≡ b → b ≡ false
apart m k false h e = refl
apart m k true h e = let same : m ≡ k = nat_cmp-IsAntisymmetric m k (is_equal (nat_cmp m k) e) in absurd (omega arith)

pub used_remove : (files : Files) (n k : ℕ) → AllUsed n files → AllUsed (min n k) (remove files k)
used_remove files n k used m h =
    ap is_some (get-remove nat_cmp_total files k m ∙ ap (λ b. cond b None (get files m)) (apart m k (is_at (nat_cmp m) k) (grind arith) refl))
    ∙ used m (grind arith)

-- what isn't there is none
pub is_none : {T : Type 0} (o : Option T) → is_some o ≡ false → o ≡ None
is_none None e = refl
is_none (Some x) e = absurd cc
