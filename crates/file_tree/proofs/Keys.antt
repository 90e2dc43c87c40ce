-- A map from places or numbers, by its entries.
use Rattle.std.proofs.Common.{◌≡◌, Bool, true, false, T, ◌&&◌, List, [], ◌∷◌, Option, Some, None, cond, map, refl, ap, sym, ◌∙◌}
use Rattle.std.specs.List.{AllByRecursion}
use Rattle.std.specs.List.Sorted.{IsStrictlySortedBy}
use Rattle.std.specs.Ordering.{nat_cmp, is_eq, ordering_then}
use Rattle.std.specs.declared.cmp.Ordering.{Ordering}
use Rattle.std.specs.declared.cmp.Ordering.TheVariants.{Less, Equal, Greater}
use Rattle.std.specs.Cmp.{IsTotalOrder, nat_cmp_total, then_total, on_total, eq_by_cmp_equiv}
use Rattle.std.specs.Cmp.Lexicographic.{slice_cmp, nat_list_cmp_total}
use Rattle.std.specs.FinMap.{FinMap, IsAntisymmetric, find, get, insert, remove, entries, from_entries, from_sorted, entries-from_sorted, get-from_sorted, is_sorted, get-from_entries, get-insert, get-remove, same_map, nat_cmp-IsAntisymmetric, slice_cmp-IsAntisymmetric}
use Rattle.std.specs.FinMap.Entries.{below_all}
use Rattle.std.specs.Map.{lookup}
use Rattle.std.specs.BTreeMap.{is_at}
use Rattle.file_tree.specs.Places.{place_cmp}

pub place_total : IsTotalOrder place_cmp
place_total = then_total (on_total (λ p. p.dir) nat_cmp_total) (on_total (λ p. p.name) nat_list_cmp_total)

both : (a b : Ordering) → ordering_then a b ≡ Equal → (a ≡ Equal) × (b ≡ Equal)
both Less b e = absurd cc
both Equal b e = (refl, e)
both Greater b e = absurd cc

pub place_apart : IsAntisymmetric place_cmp
place_apart p q e =
    let h = both (nat_cmp p.dir q.dir) (slice_cmp nat_cmp p.name q.name) e in
    let dirs : p.dir ≡ q.dir = nat_cmp-IsAntisymmetric p.dir q.dir h.0 in
    let names : p.name ≡ q.name = slice_cmp-IsAntisymmetric nat_cmp-IsAntisymmetric p.name q.name h.1 in
    λ i. record { dir = dirs i; name = names i }

is_equal : (r : Ordering) → is_eq r ≡ true → r ≡ Equal
is_equal Less e = absurd cc
is_equal Equal e = refl
is_equal Greater e = absurd cc

module _ {K X : Type 0} {R : K → K → Ordering} (o : IsTotalOrder R) (apart : IsAntisymmetric R) where
  abbrev pub at_key : List (K × X) → K → Option X
  at_key es q = lookup (is_at (R q)) es

  find_at : (es : List (K × X)) (q : K) → find R q es ≡ at_key es q
  find_at [] q = refl
  find_at (e ∷ es) q = ap (cond (is_at (R q) e.0) (Some e.1)) (find_at es q)

  -- what the map that the entries make has at a key
  pub get_at : (es : List (K × X)) (q : K) → get (from_entries {R = R} es) q ≡ at_key es q
  get_at es q = get-from_entries o es q ∙ find_at es q

  -- entries that differ at one key make maps that differ there
  pub one_put : (es fs : List (K × X)) (k : K) (v : X) → ((q : K) → at_key fs q ≡ cond (is_at (R k) q) (Some v) (at_key es q)) → from_entries {R = R} fs ≡ insert (from_entries es) k v
  one_put es fs k v h = same_map o apart _ _ (λ q.
      get_at fs q ∙ h q ∙ ap (λ b. cond b (Some v) (at_key es q)) ((eq_by_cmp_equiv o).symm k q)
      ∙ sym (get-insert o (from_entries es) k v q ∙ ap (cond (is_at (R q) k) (Some v)) (get_at es q)))

  -- entries that lack one key make the map without it
  pub one_gone : (es fs : List (K × X)) (k : K) → ((q : K) → at_key fs q ≡ cond (is_at (R k) q) None (at_key es q)) → from_entries {R = R} fs ≡ remove (from_entries es) k
  one_gone es fs k h = same_map o apart _ _ (λ q.
      get_at fs q ∙ h q ∙ ap (λ b. cond b None (at_key es q)) ((eq_by_cmp_equiv o).symm k q)
      ∙ sym (get-remove o (from_entries es) k q ∙ ap (cond (is_at (R q) k) None) (get_at es q)))

  -- what is put where nothing stood, and taken out again, leaves the map as it was
  pub put_out : (m : FinMap R X) (k : K) (v : X) → get m k ≡ None → remove (insert m k v) k ≡ m
  put_out m k v none = same_map o apart _ _ (λ q. get-remove o (insert m k v) k q ∙ ap (cond (is_at (R q) k) None) (get-insert o m k v q) ∙ back q (is_at (R q) k) refl)
    where
      back : (q : K) (b : Bool) → is_at (R q) k ≡ b → cond b None (cond b (Some v) (get m q)) ≡ get m q
      back q true e = sym (ap (get m) (apart q k (is_equal (R q k) e)) ∙ none)
      back q false e = refl

-- keys that strictly rise make a map with these very entries
both_so : (a b : Bool) → T a → T b → T (a && b)
both_so true b p q = q
both_so false b p q = absurd p

module _ {K X : Type 0} (R : K → K → Ordering) where
  below : (x : K) (es : List (K × X)) → AllByRecursion (λ y. R x y ≡ Less) (map (λ e. e.0) es) → T (below_all R x es)
  below x [] h = tt
  below x (e ∷ es) h = rw h.0 (below x es h.1)

  sorted_from : (es : List (K × X)) → IsStrictlySortedBy R (map (λ e. e.0) es) → T (is_sorted R es)
  unfolding IsStrictlySortedBy
  sorted_from [] h = tt
  sorted_from (e ∷ es) h = both_so (below_all R e.0 es) (is_sorted R es) (below e.0 es h.0) (sorted_from es h.1)

  pub kept : IsTotalOrder R → IsAntisymmetric R → (es : List (K × X)) → IsStrictlySortedBy R (map (λ e. e.0) es) → entries (from_entries {R = R} es) ≡ es
  kept o apart es h =
      let s = sorted_from es h in
      ap entries (same_map o apart (from_entries es) (from_sorted es) (λ q. get-from_entries o es q ∙ sym (get-from_sorted R es q s))) ∙ entries-from_sorted R es s
