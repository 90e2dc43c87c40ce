-- A map from numbers, by its entries.
use Rattle.std.proofs.Common.{◌≡◌, ℕ, Bool, true, false, List, [], ◌∷◌, Option, Some, None, is_some, cond, refl, ap, sym, ◌∙◌, Bor}
use Rattle.std.specs.Prelude.{option_copied, MatchOption}
use Rattle.std.specs.Ordering.{nat_cmp, is_eq}
use Rattle.std.specs.declared.cmp.Ordering.{Ordering}
use Rattle.std.specs.declared.cmp.Ordering.TheVariants.{Less, Equal, Greater}
use Rattle.std.specs.Cmp.{nat_cmp_total, eq_by_cmp_equiv}
use Rattle.std.specs.FinMap.{FinMap, find, get, insert, remove, from_entries, get-from_entries, get-insert, get-remove, same_map, nat_cmp-IsAntisymmetric}
use Rattle.std.specs.Map.{lookup}
use Rattle.std.specs.BTreeMap.{is_at}

abbrev pub at_number : {X : Type 0} → List (ℕ × X) → ℕ → Option X
at_number es q = lookup (is_at (nat_cmp q)) es

find_at : {X : Type 0} (es : List (ℕ × X)) (q : ℕ) → find nat_cmp q es ≡ at_number es q
find_at [] q = refl
find_at (e ∷ es) q = ap (cond (is_at (nat_cmp q) e.0) (Some e.1)) (find_at es q)

-- what the map that the entries make has at a number
pub get_at : {X : Type 0} (es : List (ℕ × X)) (q : ℕ) → get (from_entries {R = nat_cmp} es) q ≡ at_number es q
get_at es q = get-from_entries nat_cmp_total es q ∙ find_at es q

-- entries that differ at one number make maps that differ there
pub one_put : {X : Type 0} (es fs : List (ℕ × X)) (k : ℕ) (v : X) → ((q : ℕ) → at_number fs q ≡ cond (is_at (nat_cmp k) q) (Some v) (at_number es q)) → from_entries {R = nat_cmp} fs ≡ insert (from_entries es) k v
one_put es fs k v h = same_map nat_cmp_total nat_cmp-IsAntisymmetric _ _ (λ q.
    get_at fs q ∙ h q ∙ ap (λ b. cond b (Some v) (at_number es q)) ((eq_by_cmp_equiv nat_cmp_total).symm k q)
    ∙ sym (get-insert nat_cmp_total (from_entries es) k v q ∙ ap (cond (is_at (nat_cmp q) k) (Some v)) (get_at es q)))

-- entries that lack one number make the map without it
pub one_gone : {X : Type 0} (es fs : List (ℕ × X)) (k : ℕ) → ((q : ℕ) → at_number fs q ≡ cond (is_at (nat_cmp k) q) None (at_number es q)) → from_entries {R = nat_cmp} fs ≡ remove (from_entries es) k
one_gone es fs k h = same_map nat_cmp_total nat_cmp-IsAntisymmetric _ _ (λ q.
    get_at fs q ∙ h q ∙ ap (λ b. cond b None (at_number es q)) ((eq_by_cmp_equiv nat_cmp_total).symm k q)
    ∙ sym (get-remove nat_cmp_total (from_entries es) k q ∙ ap (cond (is_at (nat_cmp q) k) None) (get_at es q)))

-- a value that is put twice under one number stands there as it was put last
cond_twice : {X : Type 0} (b : Bool) (v w : Option X) (x : Option X) → cond b w (cond b v x) ≡ cond b w x
cond_twice true v w x = refl
cond_twice false v w x = refl

pub put_twice : {X : Type 0} (m : FinMap nat_cmp X) (k : ℕ) (v w : X) → insert (insert m k v) k w ≡ insert m k w
put_twice m k v w = same_map nat_cmp_total nat_cmp-IsAntisymmetric _ _ (λ q.
    get-insert nat_cmp_total (insert m k v) k w q ∙ ap (cond (is_at (nat_cmp q) k) (Some w)) (get-insert nat_cmp_total m k v q)
    ∙ cond_twice (is_at (nat_cmp q) k) (Some v) (Some w) (get m q) ∙ sym (get-insert nat_cmp_total m k w q))

-- an option that is there
pub copied_some : {T : Type 0} (r : Option (Bor T)) → is_some (option_copied r) ≡ is_some r
copied_some None = refl
copied_some (Some x) = refl

pub where_some : {T : Type 0} (o : Option T) (N S : Type 0) → is_some o ≡ true → S → MatchOption o N (λ _. S)
where_some None N S e s = absurd cc
where_some (Some x) N S e s = s

pub never : {T : Type 0} (o : Option T) → is_some o ≡ true → o ≡ None → ⊥
never None some none = absurd cc
never (Some x) some none = absurd cc

pub is_equal : (o : Ordering) → is_eq o ≡ true → o ≡ Equal
is_equal Less e = absurd cc
is_equal Equal e = refl
is_equal Greater e = absurd cc

-- a value that is put where it stood leaves the map as it was
pub put_back : {X : Type 0} (m : FinMap nat_cmp X) (k : ℕ) (v : X) → get m k ≡ Some v → insert m k v ≡ m
put_back m k v stood = same_map nat_cmp_total nat_cmp-IsAntisymmetric _ _ (λ q. get-insert nat_cmp_total m k v q ∙ same_at q (is_at (nat_cmp q) k) refl)
  where
    same_at : (q : ℕ) (b : Bool) → is_at (nat_cmp q) k ≡ b → cond b (Some v) (get m q) ≡ get m q
    same_at q true e = sym (ap (get m) (nat_cmp-IsAntisymmetric q k (is_equal (nat_cmp q k) e)) ∙ stood)
    same_at q false e = refl

pub put_is_there : {X : Type 0} (m : FinMap nat_cmp X) (k : ℕ) (v : X) → get (insert m k v) k ≡ Some v
put_is_there m k v = get-insert nat_cmp_total m k v k ∙ ap (λ b. cond b (Some v) (get m k)) ((eq_by_cmp_equiv nat_cmp_total).refl k)
