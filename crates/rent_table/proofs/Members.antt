-- Which numbers a list has, also when it is filtered.
use Rattle.std.proofs.Common.{◌≡◌, ℕ, ◌==◌, ◌||◌, ◌&&◌, Bool, true, false, cond, List, [], ◌∷◌, Option, Some, None, is_some, unwrap_or, refl, ap, sym, ◌∙◌, subst, T, eqb-true}
use Rattle.std.specs.Cmp.{nat_cmp_total, unsigned_tied, eq_by_cmp_equiv}
use Rattle.std.specs.FinMap.{get}
use Rattle.std.specs.List.{filter, list_any}
use Rattle.std.specs.List.Sorted.{IsStrictlyIncreasing}
use Rattle.std.proofs.lemmas.List.Kept.{IsStrictlyIncreasing-filter}
use Rattle.rent_table.specs.declared.ops.Flight.{Flight}
use Rattle.rent_table.specs.Lists.{has}
use Rattle.rent_table.specs.Ops.{Ops, flight_at, done_at, knows, AreJoinsOfFlights}
use Rattle.rent_table.specs.Joins.{is_joined, AreJoined}
use Rattle.rent_table.proofs.Endings.{first}

pub flipped : (n m : ℕ) → (n == m) ≡ (m == n)
flipped n m = sym (unsigned_tied n m) ∙ (eq_by_cmp_equiv nat_cmp_total).symm n m ∙ unsigned_tied m n

pub has_any : (n : ℕ) (xs : List ℕ) → has n xs ≡ list_any (λ x. n == x) xs
has_any n [] = refl
has_any n (x ∷ xs) = ap (λ b. (n == x) || b) (has_any n xs)

pub has_that : (n : ℕ) (xs : List ℕ) → has n xs ≡ list_any (λ x. x == n) xs
has_that n [] = refl
has_that n (x ∷ xs) = ap (λ b. b || has n xs) (flipped n x) ∙ ap (λ b. (x == n) || b) (has_that n xs)

with_true : (b : Bool) → (b && true) ≡ b
with_true true = refl
with_true false = refl

with_false : (b : Bool) → (b && false) ≡ false
with_false true = refl
with_false false = refl

one_kept : (p : ℕ → Bool) (n x : ℕ) (xs ys : List ℕ) (same picks : Bool) → (n == x) ≡ same → p x ≡ picks → has n ys ≡ (p n && has n xs) → has n (cond picks (x ∷ ys) ys) ≡ (p n && ((n == x) || has n xs))
one_kept p n x xs ys true true s k h = first (n == x) (has n ys) s ∙ sym (ap (λ b. p n && (b || has n xs)) s ∙ with_true (p n) ∙ ap p (eqb-true n x s) ∙ k)
one_kept p n x xs ys true false s k h =
    let out : p n ≡ false = ap p (eqb-true n x s) ∙ k in
    h ∙ ap (λ b. b && has n xs) out ∙ sym (ap (λ b. b && ((n == x) || has n xs)) out)
one_kept p n x xs ys false true s k h = ap (λ b. b || has n ys) s ∙ h ∙ sym (ap (λ b. p n && (b || has n xs)) s)
one_kept p n x xs ys false false s k h = h ∙ sym (ap (λ b. p n && (b || has n xs)) s)

has-filter : (p : ℕ → Bool) (n : ℕ) (xs : List ℕ) → has n (filter p xs) ≡ (p n && has n xs)
has-filter p n [] = sym (with_false (p n))
has-filter p n (x ∷ xs) = one_kept p n x xs (filter p xs) (n == x) (p x) refl refl (has-filter p n xs)

and_both : (a b : Bool) → (a ≡ true → b ≡ true) → (a && b) ≡ a
and_both true b h = h refl
and_both false b h = refl

flies_by : (h : ℕ) (o : Option Flight) (joins : Option (List ℕ)) → (o ≡ None → joins ≡ None) → has h (unwrap_or joins []) ≡ true → is_some o ≡ true
flies_by h None joins none is = absurd (subst T (sym is ∙ ap (λ j. has h (unwrap_or j [])) (none refl)) tt)
flies_by h (Some flight) joins none is = refl

flies : (ops : Ops) (h n : ℕ) → AreJoinsOfFlights ops → is_joined ops h n ≡ true → is_some (flight_at ops n) ≡ true
flies ops h n of is = flies_by h (flight_at ops n) (get ops.joins n) (of n) is

-- those that are joined, of all that are known
pub are_joined : (ops : Ops) (h : ℕ) (all ns : List ℕ) → AreJoinsOfFlights ops → ((n : ℕ) → has n all ≡ knows ops n) → IsStrictlyIncreasing all → ns ≡ filter (λ n. is_joined ops h n) all → AreJoined ops h ns
are_joined ops h all ns of each up e =
    let exactly : (n : ℕ) → has n ns ≡ is_joined ops h n = λ n. ap (has n) e ∙ has-filter (λ n. is_joined ops h n) n all ∙ ap (λ b. is_joined ops h n && b) (each n) ∙ and_both _ _ (λ is. first _ (is_some (done_at ops n)) (flies ops h n of is)) in
    record {
      exactly = exactly;
      in_flight = λ n is. flies ops h n of (sym (exactly n) ∙ is);
      rising = subst IsStrictlyIncreasing (sym e) (IsStrictlyIncreasing-filter (λ n. is_joined ops h n) all up);
    }
