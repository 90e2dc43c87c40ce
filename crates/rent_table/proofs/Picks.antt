-- What is picked of a list of entries, as a finite map.
use Rattle.std.proofs.Common.{◌≡◌, ℕ, ◌+◌, ◌-◌, ◌≤◌, ◌==◌, zero, suc, List, [], ◌∷◌, length, Option, Some, None, Bool, true, false, cond, is_some, refl, ap, sym, ◌∙◌, arith, T, subst, eqb-true}
use Rattle.std.specs.Option.{option_and_then}
use Rattle.std.specs.Ordering.{nat_cmp, eq_by_cmp}
use Rattle.std.specs.Cmp.{nat_cmp_total, unsigned_tied, eq_by_cmp_equiv}
use Rattle.std.specs.FinMap.{FinMap, find, get, insert, remove, len, empty, entries, get-insert, get-remove, get-empty, get-entries, len-insert, len-remove, len-empty, len-entries, empty_of_len, same_map, nat_cmp-IsAntisymmetric}
use Rattle.rent_table.specs.NumberedSlab.{put, picked, indexed_place}

pub get-put : {V : Type 0} (n : ℕ) (o : Option V) (m : FinMap nat_cmp V) (q : ℕ) → get (put n o m) q ≡ cond (eq_by_cmp nat_cmp q n) o (get m q)
get-put n None m q = get-remove nat_cmp_total m n q
get-put n (Some v) m q = get-insert nat_cmp_total m n v q

either : {X V : Type 0} (pick : X → Option V) (b : Bool) (x : X) (o : Option X) → cond b (pick x) (option_and_then pick o) ≡ option_and_then pick (cond b (Some x) o)
either pick true x o = refl
either pick false x o = refl

-- what stands under a number is picked of what the first entry with the number has
pub get-picked : {X V : Type 0} (pick : X → Option V) (es : List (ℕ × X)) (q : ℕ) → get (picked pick es) q ≡ option_and_then pick (find nat_cmp q es)
get-picked pick [] q = get-empty nat_cmp q
get-picked pick (e ∷ es) q = get-put e.0 (pick e.1) (picked pick es) q ∙ ap (cond (eq_by_cmp nat_cmp q e.0) (pick e.1)) (get-picked pick es q) ∙ either pick (eq_by_cmp nat_cmp q e.0) e.1 (find nat_cmp q es)

turned : (n q : ℕ) → eq_by_cmp nat_cmp q n ≡ (n == q)
turned n q = (eq_by_cmp_equiv nat_cmp_total).symm q n ∙ unsigned_tied n q

-- maps that differ at one number alone
pub one_put : {V : Type 0} (m k : FinMap nat_cmp V) (n : ℕ) (o : Option V) → ((q : ℕ) → get k q ≡ cond (n == q) o (get m q)) → k ≡ put n o m
one_put m k n o h = same_map nat_cmp_total nat_cmp-IsAntisymmetric _ _ (λ q. h q ∙ ap (λ b. cond b o (get m q)) (sym (turned n q)) ∙ sym (get-put n o m q))

pub same_all : {V : Type 0} (m k : FinMap nat_cmp V) → ((q : ℕ) → get k q ≡ get m q) → k ≡ m
same_all m k h = same_map nat_cmp_total nat_cmp-IsAntisymmetric _ _ h

-- by the places of an index
find_place : {X : Type 0} (es : List (ℕ × X)) (q : ℕ) → find nat_cmp q es ≡ indexed_place es q
find_place [] q = refl
find_place (e ∷ es) q = ap (λ b. cond b (Some e.1) (find nat_cmp q es)) (unsigned_tied q e.0) ∙ ap (cond (q == e.0) (Some e.1)) (find_place es q)

pub get-at : {X V : Type 0} (pick : X → Option V) (es : List (ℕ × X)) (q : ℕ) → get (picked pick es) q ≡ option_and_then pick (indexed_place es q)
get-at pick es q = get-picked pick es q ∙ ap (option_and_then pick) (find_place es q)

-- nothing is picked of no entries
pub nothing_at : {X V : Type 0} (pick : X → Option V) (es : List (ℕ × X)) (q : ℕ) → length es ≡ 0 → get (picked pick es) q ≡ None
nothing_at pick [] q e = get-empty nat_cmp q
nothing_at pick (x ∷ es) q e = absurd (omega (arith, e))

-- by the entries of a map
pub get-part : {X V : Type 0} (pick : X → Option V) (m : FinMap nat_cmp X) (q : ℕ) → get (picked pick (entries m)) q ≡ option_and_then pick (get m q)
get-part pick m q = get-picked pick (entries m) q ∙ ap (option_and_then pick) (sym (get-entries m q))

through : {X V : Type 0} (pick : X → Option V) (b : Bool) (o p : Option X) → option_and_then pick (cond b o p) ≡ cond b (option_and_then pick o) (option_and_then pick p)
through pick true o p = refl
through pick false o p = refl

pub part-insert : {X V : Type 0} (pick : X → Option V) (m : FinMap nat_cmp X) (n : ℕ) (x : X) → picked pick (entries (insert m n x)) ≡ put n (pick x) (picked pick (entries m))
part-insert pick m n x = one_put _ _ n (pick x) (λ q.
    get-part pick (insert m n x) q ∙ ap (option_and_then pick) (get-insert nat_cmp_total m n x q ∙ ap (λ b. cond b (Some x) (get m q)) (turned n q))
    ∙ through pick (n == q) (Some x) (get m q) ∙ ap (cond (n == q) (pick x)) (sym (get-part pick m q)))

pub part-remove : {X V : Type 0} (pick : X → Option V) (m : FinMap nat_cmp X) (n : ℕ) → picked pick (entries (remove m n)) ≡ remove (picked pick (entries m)) n
part-remove pick m n = one_put _ _ n None (λ q.
    get-part pick (remove m n) q ∙ ap (option_and_then pick) (get-remove nat_cmp_total m n q ∙ ap (λ b. cond b None (get m q)) (turned n q))
    ∙ through pick (n == q) None (get m q) ∙ ap (cond (n == q) None) (sym (get-part pick m q)))

pub part-empty : {X V : Type 0} (pick : X → Option V) → picked pick (entries (empty {X = X} {R = nat_cmp})) ≡ empty
part-empty pick = same_all _ _ (λ q. get-part pick empty q ∙ ap (option_and_then pick) (get-empty nat_cmp q) ∙ sym (get-empty nat_cmp q))

kept_out : {V : Type 0} (b : Bool) (o : Option V) → (b ≡ true → o ≡ None) → o ≡ cond b None o
kept_out true o h = h refl
kept_out false o h = refl

same_number : {V : Type 0} (m : FinMap nat_cmp V) (n q : ℕ) → (n == q) ≡ true → get m q ≡ get m n
same_number m n q e = ap (get m) (sym (eqb-true n q e))

-- what stands under no number isn't taken out
pub nothing_out : {V : Type 0} (m : FinMap nat_cmp V) (n : ℕ) → get m n ≡ None → m ≡ remove m n
nothing_out m n none = one_put m m n None (λ q. kept_out (n == q) (get m q) (λ e. same_number m n q e ∙ none))

-- what stands already is put there
stays : {V : Type 0} (b : Bool) (o p : Option V) → (b ≡ true → o ≡ p) → o ≡ cond b p o
stays true o p h = h refl
stays false o p h = refl

pub put_same : {V : Type 0} (m : FinMap nat_cmp V) (n : ℕ) (o : Option V) → get m n ≡ o → put n o m ≡ m
put_same m n o at = sym (one_put m m n o (λ q. stays (n == q) (get m q) o (λ e. same_number m n q e ∙ at)))

-- how many
pub none_there : {V : Type 0} (m : FinMap nat_cmp V) (n : ℕ) → len m ≡ 0 → is_some (get m n) ≡ false
none_there m n e = ap (λ x. is_some (get x n)) (empty_of_len m e) ∙ ap is_some (get-empty nat_cmp n)

at_least : (k : ℕ) (b : Bool) → b ≡ true → (k ≡ 0 → b ≡ false) → 1 ≤ k
at_least zero b is un = let e : true ≡ false = sym is ∙ un refl in absurd (subst T e tt)
at_least (suc k) b is un = omega arith

pub len-above : {V : Type 0} (m : FinMap nat_cmp V) (n : ℕ) → is_some (get m n) ≡ true → 1 ≤ len m
len-above m n is = at_least (len m) (is_some (get m n)) is (none_there m n)

pub len-taken : {V : Type 0} (m : FinMap nat_cmp V) (n : ℕ) → is_some (get m n) ≡ true → len (remove m n) + 1 ≡ len m
len-taken m n is = let e : len (remove m n) ≡ len m - 1 = rw (len-remove nat_cmp_total m n, is) refl in let p = len-above m n is in omega (arith, e, p)

pub len-added : {V : Type 0} (m : FinMap nat_cmp V) (n : ℕ) (v : V) → is_some (get m n) ≡ false → len (insert m n v) ≡ len m + 1
len-added m n v new = rw (len-insert nat_cmp_total m n v, new) refl

no_more : (o : Bool) (n m k : ℕ) → n ≡ cond o m (m + 1) → m ≤ k → n ≤ suc k
no_more true n m k e le = omega arith
no_more false n m k e le = omega arith

no_more_out : (o : Bool) (n m k : ℕ) → n ≡ cond o (m - 1) m → m ≤ k → n ≤ suc k
no_more_out true n m k e le = omega arith
no_more_out false n m k e le = omega arith

len-put : {V : Type 0} (n : ℕ) (o : Option V) (m : FinMap nat_cmp V) (k : ℕ) → len m ≤ k → len (put n o m) ≤ suc k
len-put n None m k le = no_more_out _ _ (len m) k (len-remove nat_cmp_total m n) le
len-put n (Some v) m k le = no_more _ _ (len m) k (len-insert nat_cmp_total m n v) le

picked_few : {X V : Type 0} (pick : X → Option V) (es : List (ℕ × X)) → len (picked pick es) ≤ length es
picked_few {V = V} pick [] = let e = len-empty nat_cmp V in omega (arith, e)
picked_few pick (e ∷ es) = len-put e.0 (pick e.1) (picked pick es) (length es) (picked_few pick es)

-- no more are picked than there are
pub part_few : {X V : Type 0} (pick : X → Option V) (m : FinMap nat_cmp X) → len (picked pick (entries m)) ≤ len m
part_few pick m = let a = picked_few pick (entries m) in let b = len-entries m in omega (arith, a, b)

-- what a change of one number leaves under each
pub put_at : {V : Type 0} (m : FinMap nat_cmp V) (n : ℕ) (v : V) (q : ℕ) → get (insert m n v) q ≡ cond (q == n) (Some v) (get m q)
put_at m n v q = get-insert nat_cmp_total m n v q ∙ ap (λ b. cond b (Some v) (get m q)) (unsigned_tied q n)

pub out_at : {V : Type 0} (m : FinMap nat_cmp V) (n q : ℕ) → get (remove m n) q ≡ cond (q == n) None (get m q)
out_at m n q = get-remove nat_cmp_total m n q ∙ ap (λ b. cond b None (get m q)) (unsigned_tied q n)

pub put-at : {V : Type 0} (m : FinMap nat_cmp V) (n : ℕ) (o : Option V) (q : ℕ) → get (put n o m) q ≡ cond (q == n) o (get m q)
put-at m n None q = out_at m n q
put-at m n (Some v) q = put_at m n v q

pub one_changed : {V : Type 0} (m k : FinMap nat_cmp V) (n : ℕ) (o : Option V) → ((q : ℕ) → get k q ≡ cond (q == n) o (get m q)) → k ≡ put n o m
one_changed m k n o h = one_put m k n o (λ q. h q ∙ ap (λ b. cond b o (get m q)) (sym (unsigned_tied q n) ∙ turned n q))

-- a value that stands is changed
pub len-changed : {V : Type 0} (m : FinMap nat_cmp V) (n : ℕ) (v : V) → is_some (get m n) ≡ true → len (insert m n v) ≡ len m
len-changed m n v here = rw (len-insert nat_cmp_total m n v, here) refl

once : {V : Type 0} (b : Bool) (o p x : Option V) → cond b o (cond b p x) ≡ cond b o x
once true o p x = refl
once false o p x = refl

-- what is put last counts
pub put_twice : {V : Type 0} (n : ℕ) (o p : Option V) (m : FinMap nat_cmp V) → put n o (put n p m) ≡ put n o m
put_twice n o p m = one_changed m (put n o (put n p m)) n o (λ q. put-at (put n p m) n o q ∙ ap (cond (q == n) o) (put-at m n p q) ∙ once (q == n) o p (get m q))
