-- Marks of the numbers that have a value, and what the changes of both keep.
use Rattle.std.proofs.Common.{◌≡◌, ℕ, zero, suc, ◌+◌, ◌-◌, ◌<◌, ◌≤◌, ◌==◌, min, List, [], Bool, true, false, cond, length, Option, Some, None, is_some, refl, sym, ap, ◌∙◌, subst, arith, eqb-true, ne_eqb, get_or-set_same, get_or-set_other, length-set}
use Rattle.std.specs.Prelude.{slice_set}
use Rattle.std.proofs.lemmas.Bool.{eqb-false}
use Rattle.std.specs.Ordering.{nat_cmp, eq_by_cmp}
use Rattle.std.specs.Cmp.{nat_cmp_total, unsigned_tied}
use Rattle.std.specs.FinMap.{FinMap, get, insert, remove, len, empty, len-empty, get-remove, len-remove}
use Rattle.free_numbers.specs.Marks.{is_taken, AllTaken}
use Rattle.rent_table.specs.NumberedPlaces.{AreMarkedBelow, AreMarked}
use Rattle.rent_table.proofs.Picks.{len-taken, len-added, len-changed, put_at, out_at}

-- a mark is written

set_at_by : (marks : List Bool) (n q : ℕ) (b same : Bool) → q < length marks → (q == n) ≡ same → is_taken (slice_set marks n b) q ≡ cond same b (is_taken marks q)
set_at_by marks n q b true lt e = ap (λ x. is_taken (slice_set marks x b) q) (sym (eqb-true q n e)) ∙ get_or-set_same marks q b false lt
set_at_by marks n q b false lt e = get_or-set_other marks n q b false (eqb-false q n e)

pub set_at : (marks : List Bool) (n : ℕ) (b : Bool) (q : ℕ) → q < length marks → is_taken (slice_set marks n b) q ≡ cond (q == n) b (is_taken marks q)
set_at marks n b q lt = set_at_by marks n q b (q == n) lt refl

some_by : {V : Type 0} (same : Bool) (o p : Option V) → cond same (is_some o) (is_some p) ≡ is_some (cond same o p)
some_by true o p = refl
some_by false o p = refl

no_more : (b : Bool) (k l : ℕ) → k ≡ cond b (l - 1) l → k ≤ l
no_more true k l e = omega arith
no_more false k l e = omega arith

pub len-left : {V : Type 0} (m : FinMap nat_cmp V) (n : ℕ) → len (remove m n) ≤ len m
len-left m n = no_more _ _ (len m) (len-remove nat_cmp_total m n)

none_counted : {V : Type 0} (m : FinMap nat_cmp V) → m ≡ empty → len m ≡ 0
none_counted {V} m e = ap len e ∙ len-empty nat_cmp V

pub marked-empty : {V : Type 0} (m : FinMap nat_cmp V) (marks : List Bool) → m ≡ empty → marks ≡ [] → AreMarked m marks
marked-empty m marks e f = let none = none_counted m e in let short : length marks ≡ 0 = ap length f in record {
  right = λ n lt. absurd (omega (arith, lt, short));
  few = λ some. absurd (omega (arith, some, none));
}

module _ {V : Type 0} (m m' : FinMap nat_cmp V) (marks marks' : List Bool) (n : ℕ) where
  set_right : (b : Bool) (o : Option V) → b ≡ is_some o → marks' ≡ slice_set marks n b → ((q : ℕ) → get m' q ≡ cond (q == n) o (get m q)) → AreMarkedBelow (length marks) m marks → AreMarkedBelow (length marks) m' marks'
  set_right b o is f h old q lt =
      ap (λ x. is_taken x q) f ∙ set_at marks n b q lt
      ∙ ap (λ x. cond (q == n) x (is_taken marks q)) is ∙ ap (cond (q == n) (is_some o)) (old q lt)
      ∙ some_by (q == n) o (get m q) ∙ ap is_some (sym (h q))

  same_limit : (b : Bool) → marks' ≡ slice_set marks n b → length marks' ≡ length marks
  same_limit b f = ap length f ∙ length-set marks n b

  -- a number gets a value
  pub marked-added : (v : V) → m' ≡ insert m n v → marks' ≡ slice_set marks n true → is_some (get m n) ≡ false → len m + 1 < length marks → AreMarked m marks → AreMarked m' marks'
  marked-added v e f new room old = let same = same_limit true f in record {
    right = λ q lt. set_right true (Some v) refl f (λ x. ap (λ y. get y x) e ∙ put_at m n v x) old.right q (omega (arith, lt, same));
    few = let count = ap len e ∙ len-added m n v new in λ some. omega (arith, same, count, room);
  }

  -- a number has no value any more
  pub marked-left : m' ≡ remove m n → marks' ≡ slice_set marks n false → AreMarked m marks → AreMarked m' marks'
  marked-left e f old = let same = same_limit false f in record {
    right = λ q lt. set_right false None refl f (λ x. ap (λ y. get y x) e ∙ out_at m n x) old.right q (omega (arith, lt, same));
    few = let count = ap len e in let le = len-left m n in λ some. let h = old.few (omega (arith, some, count, le)) in omega (arith, same, count, le, h);
  }

  kept_mark : (v : V) (q : ℕ) (same : Bool) → (q == n) ≡ same → is_some (get m n) ≡ true → is_some (get m q) ≡ is_some (cond same (Some v) (get m q))
  kept_mark v q true e is = ap (λ x. is_some (get m x)) (eqb-true q n e) ∙ is
  kept_mark v q false e is = refl

  -- a value is changed
  pub marked-changed : (v : V) → m' ≡ insert m n v → is_some (get m n) ≡ true → AreMarked m marks → AreMarked m' marks
  marked-changed v e here old = record {
    right = λ q lt. old.right q lt ∙ kept_mark v q (q == n) refl here ∙ ap is_some (sym (ap (λ y. get y q) e ∙ put_at m n v q));
    few = let count = ap len e ∙ len-changed m n v here in λ some. let h = old.few (omega (arith, some, count)) in omega (arith, count, h);
  }

  -- a value is changed where there is one

  pub marked-exchanged : (v : V) (here : Bool) → is_some (get m n) ≡ here → m' ≡ cond here (insert m n v) m → AreMarked m marks → AreMarked m' marks
  marked-exchanged v true is e old = marked-changed v e is old
  marked-exchanged v false is e old = subst (λ x. AreMarked x marks) (sym e) old

  pub len-exchanged : (v : V) (here : Bool) → is_some (get m n) ≡ here → m' ≡ cond here (insert m n v) m → len m' ≡ len m
  len-exchanged v true is e = ap len e ∙ len-changed m n v is
  len-exchanged v false is e = ap len e

-- numbers below k that all have a value are at most as many as there are values

apart_keys : (n k : ℕ) → n < k → eq_by_cmp nat_cmp n k ≡ false
apart_keys n k lt = unsigned_tied n k ∙ ne_eqb n k (λ e. omega (arith, e, lt))

still_there : {V : Type 0} (m : FinMap nat_cmp V) (k n : ℕ) → n < k → get (remove m k) n ≡ get m n
still_there m k n lt = get-remove nat_cmp_total m k n ∙ ap (λ b. cond b None (get m n)) (apart_keys n k lt)

pigeon : {V : Type 0} (k : ℕ) (m : FinMap nat_cmp V) → ((n : ℕ) → n < k → is_some (get m n) ≡ true) → k ≤ len m
pigeon zero m h = omega arith
pigeon (suc k) m h =
    let p = pigeon k (remove m k) (λ n lt. ap is_some (still_there m k n lt) ∙ h n (omega (arith, lt))) in
    let q = len-taken m k (h k (omega arith)) in omega (arith, p, q)

fewer : (k l : ℕ) → (0 < k → k < l) → l ≤ k → k ≡ 0
fewer zero l few le = refl
fewer (suc k) l few le = let lt = few (omega arith) in omega (arith, lt, le)

-- where all numbers below the limit are taken there are no values
pub none_where_all_taken : {V : Type 0} (m : FinMap nat_cmp V) (marks : List Bool) → AreMarked m marks → AllTaken marks → len m ≡ 0
none_where_all_taken m marks is all = fewer (len m) (length marks) is.few (pigeon (length marks) m (λ n lt. sym (is.right n lt) ∙ all n lt))

-- how many more numbers fit

pub room_below : (s l k now : ℕ) → min s (l - (k + 1)) ≡ now → 0 < now → k + 1 < l
room_below s l k now e room = omega arith

pub spare-added : (s s' l l' k k' now : ℕ) → min s (l - (k + 1)) ≡ now → s ≤ s' + 1 → l' ≡ l → k' ≡ k + 1 → now ≤ min s' (l' - (k' + 1)) + 1
spare-added s s' l l' k k' now e a b c = omega arith

pub spare-left : (s s' l l' k k' now : ℕ) → min s (l - (k + 1)) ≡ now → s ≤ s' → l ≤ l' → k' ≤ k → now ≤ min s' (l' - (k' + 1))
spare-left s s' l l' k k' now e a b c = omega arith
