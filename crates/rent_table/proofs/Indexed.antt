-- An index of places in a slab, and what the changes of both keep.
use Rattle.std.proofs.Common.{◌≡◌, ◌≢◌, ℕ, suc, ◌+◌, ◌==◌, List, [], ◌∷◌, length, Option, Some, None, Bool, true, false, cond, is_some, refl, ap, sym, ◌∙◌, add-one, T, subst, eqb-true, eq-eqb}
use Rattle.std.proofs.lemmas.Option.{same_Some}
use Rattle.std.specs.Option.{option_and_then}
use Rattle.std.specs.Ordering.{nat_cmp}
use Rattle.std.specs.Cmp.{nat_cmp_total}
use Rattle.std.specs.FinMap as map
use Rattle.std.specs.Map.{keys_of}
use Rattle.std.specs.List.{IsDistinct, AllByRecursion}
use Rattle.slab.specs.Slab.{Slab, get, Updates}
use Rattle.rent_table.specs.NumberedSlab.{put, picked, indexed_place, IsIndexed}
use Rattle.rent_table.proofs.Picks.{get-at, one_put, same_all}

no_place : {A : Type 0} (x : A) → None ≡ Some x → ⊥
no_place x e = subst T (sym (ap is_some e)) tt

pub no_value : {A : Type 0} (o : Option A) → o ≡ None → is_some o ≡ true → ⊥
no_value o none is = subst T (sym is ∙ ap is_some none) tt

no_key : (k : ℕ) (es : List (ℕ × ℕ)) → AllByRecursion (λ y. (k == y) ≡ false) (keys_of es) → indexed_place es k ≡ None
no_key k [] h = refl
no_key k (e ∷ es) h = ap (λ b. cond b (Some e.1) (indexed_place es k)) h.0 ∙ no_key k es h.1

behind : (e : ℕ × ℕ) (es : List (ℕ × ℕ)) (q p : ℕ) (b : Bool) → (q == e.0) ≡ b → indexed_place es e.0 ≡ None → indexed_place es q ≡ Some p → cond b (Some e.1) (indexed_place es q) ≡ Some p
behind e es q p true same none at = absurd (no_place p (sym none ∙ sym (ap (indexed_place es) (eqb-true q e.0 same)) ∙ at))
behind e es q p false same none at = at

module _ {V : Type 0} where
  pub IsIndexed-empty : (es : List (ℕ × ℕ)) (s : Slab V) → es ≡ [] → IsIndexed es s
  IsIndexed-empty es s e = record {
    taken = λ n p at. absurd (no_place p (sym (ap (λ x. indexed_place x n) e) ∙ at));
    apart = λ n m p at also. absurd (no_place p (sym (ap (λ x. indexed_place x n) e) ∙ at));
  }

  pub IsIndexed-same : (es fs : List (ℕ × ℕ)) (s t : Slab V) → ((q : ℕ) → indexed_place fs q ≡ indexed_place es q) → ((p : ℕ) → get t p ≡ get s p) → IsIndexed es s → IsIndexed fs t
  IsIndexed-same es fs s t h k i = record {
    taken = λ n p at. ap is_some (k p) ∙ i.taken n p (sym (h n) ∙ at);
    apart = λ n m p at also. i.apart n m p (sym (h n) ∙ at) (sym (h m) ∙ also);
  }

  and_then_same : (s t : Slab V) (o : Option ℕ) → ((p : ℕ) → o ≡ Some p → get t p ≡ get s p) → option_and_then (get t) o ≡ option_and_then (get s) o
  and_then_same s t None h = refl
  and_then_same s t (Some p) h = h p refl

  pub picked-same : (es fs : List (ℕ × ℕ)) (s t : Slab V) → ((q : ℕ) → indexed_place fs q ≡ indexed_place es q) → ((p : ℕ) → get t p ≡ get s p) → picked (get t) fs ≡ picked (get s) es
  picked-same es fs s t h k = same_all _ _ (λ q. get-at (get t) fs q ∙ ap (option_and_then (get t)) (h q) ∙ and_then_same s t (indexed_place es q) (λ p at. k p) ∙ sym (get-at (get s) es q))

  -- a number has a value where it has a place
  at_by : (s : Slab V) (o : Option ℕ) → ((p : ℕ) → o ≡ Some p → is_some (get s p) ≡ true) → is_some (option_and_then (get s) o) ≡ is_some o
  at_by s None taken = refl
  at_by s (Some p) taken = taken p refl

  pub at-some : (es : List (ℕ × ℕ)) (s : Slab V) (n : ℕ) → IsIndexed es s → is_some (map.get (picked (get s) es) n) ≡ is_some (indexed_place es n)
  at-some es s n i = ap is_some (get-at (get s) es n) ∙ at_by s (indexed_place es n) (i.taken n)

  -- a value is put under a number, at a vacant place
  module _ (es fs : List (ℕ × ℕ)) (s t : Slab V) (n place : ℕ) (v : V) (h : (q : ℕ) → indexed_place fs q ≡ cond (n == q) (Some place) (indexed_place es q)) (vacant : get s place ≡ None) (u : Updates s t place (Some v)) (i : IsIndexed es s) where
    elsewhere : (q p : ℕ) → indexed_place es q ≡ Some p → get t p ≡ get s p
    elsewhere q p at = u.others p (λ same. no_value (get s p) (ap (get s) same ∙ vacant) (i.taken q p at))

    added_at : (q : ℕ) (b : Bool) → option_and_then (get t) (cond b (Some place) (indexed_place es q)) ≡ cond b (Some v) (option_and_then (get s) (indexed_place es q))
    added_at q true = u.changed
    added_at q false = and_then_same s t (indexed_place es q) (elsewhere q)

    pub picked-added : picked (get t) fs ≡ map.insert (picked (get s) es) n v
    picked-added = one_put _ _ n (Some v) (λ q. get-at (get t) fs q ∙ ap (option_and_then (get t)) (h q) ∙ added_at q (n == q) ∙ ap (cond (n == q) (Some v)) (sym (get-at (get s) es q)))

    taken_at : (q p : ℕ) (b : Bool) → cond b (Some place) (indexed_place es q) ≡ Some p → is_some (get t p) ≡ true
    taken_at q p true at = ap is_some (ap (get t) (sym (same_Some _ _ at)) ∙ u.changed)
    taken_at q p false at = ap is_some (elsewhere q p at) ∙ i.taken q p at

    not_new : (q p : ℕ) → Some place ≡ Some p → indexed_place es q ≡ Some p → ⊥
    not_new q p at also = no_value (get s p) (ap (get s) (sym (same_Some _ _ at)) ∙ vacant) (i.taken q p also)

    apart_at : (q r p : ℕ) (b c : Bool) → (n == q) ≡ b → (n == r) ≡ c → cond b (Some place) (indexed_place es q) ≡ Some p → cond c (Some place) (indexed_place es r) ≡ Some p → q ≡ r
    apart_at q r p true true e f at also = sym (eqb-true n q e) ∙ eqb-true n r f
    apart_at q r p true false e f at also = absurd (not_new r p at also)
    apart_at q r p false true e f at also = absurd (not_new q p also at)
    apart_at q r p false false e f at also = i.apart q r p at also

    pub IsIndexed-added : IsIndexed fs t
    IsIndexed-added = record {
      taken = λ q p at. taken_at q p (n == q) (sym (h q) ∙ at);
      apart = λ q r p at also. apart_at q r p (n == q) (n == r) refl refl (sym (h q) ∙ at) (sym (h r) ∙ also);
    }

  -- the value that a number has is changed, or taken out with its place
  module _ (es : List (ℕ × ℕ)) (s t : Slab V) (n place : ℕ) (o : Option V) (here : indexed_place es n ≡ Some place) (u : Updates s t place o) (i : IsIndexed es s) where
    not_here : (q p : ℕ) → (n == q) ≡ false → indexed_place es q ≡ Some p → p ≢ place
    not_here q p e at same = subst T (sym (eq-eqb n q (i.apart n q p (here ∙ ap Some (sym same)) at)) ∙ e) tt

    others_stay : (q : ℕ) → (n == q) ≡ false → option_and_then (get t) (indexed_place es q) ≡ option_and_then (get s) (indexed_place es q)
    others_stay q e = and_then_same s t (indexed_place es q) (λ p at. u.others p (not_here q p e at))

    here_now : (q : ℕ) → (n == q) ≡ true → option_and_then (get t) (indexed_place es q) ≡ o
    here_now q e = ap (λ x. option_and_then (get t) (indexed_place es x)) (sym (eqb-true n q e)) ∙ ap (option_and_then (get t)) here ∙ u.changed

    changed_at : (q : ℕ) (b : Bool) → (n == q) ≡ b → option_and_then (get t) (indexed_place es q) ≡ cond b o (option_and_then (get s) (indexed_place es q))
    changed_at q true e = here_now q e
    changed_at q false e = others_stay q e

  pub picked-changed : (es : List (ℕ × ℕ)) (s t : Slab V) (n place : ℕ) (v : V) → indexed_place es n ≡ Some place → Updates s t place (Some v) → IsIndexed es s → picked (get t) es ≡ map.insert (picked (get s) es) n v
  picked-changed es s t n place v here u i = one_put _ _ n (Some v) (λ q. get-at (get t) es q ∙ changed_at es s t n place (Some v) here u i q (n == q) refl ∙ ap (cond (n == q) (Some v)) (sym (get-at (get s) es q)))

  module _ (es fs : List (ℕ × ℕ)) (s t : Slab V) (n place : ℕ) (h : (q : ℕ) → indexed_place fs q ≡ cond (n == q) None (indexed_place es q)) (here : indexed_place es n ≡ Some place) (u : Updates s t place None) (i : IsIndexed es s) where
    left_at : (q : ℕ) (b : Bool) → (n == q) ≡ b → option_and_then (get t) (cond b None (indexed_place es q)) ≡ cond b None (option_and_then (get s) (indexed_place es q))
    left_at q true e = refl
    left_at q false e = others_stay es s t n place None here u i q e

    pub picked-left : picked (get t) fs ≡ map.remove (picked (get s) es) n
    picked-left = one_put _ _ n None (λ q. get-at (get t) fs q ∙ ap (option_and_then (get t)) (h q) ∙ left_at q (n == q) refl ∙ ap (cond (n == q) None) (sym (get-at (get s) es q)))

    left_taken : (q p : ℕ) (b : Bool) → (n == q) ≡ b → cond b None (indexed_place es q) ≡ Some p → is_some (get t p) ≡ true
    left_taken q p true e at = absurd (no_place p at)
    left_taken q p false e at = ap is_some (u.others p (not_here es s t n place None here u i q p e at)) ∙ i.taken q p at

    stood : (q p : ℕ) (b : Bool) → cond b None (indexed_place es q) ≡ Some p → indexed_place es q ≡ Some p
    stood q p true at = absurd (no_place p at)
    stood q p false at = at

    pub IsIndexed-left : IsIndexed fs t
    IsIndexed-left = record {
      taken = λ q p at. left_taken q p (n == q) refl (sym (h q) ∙ at);
      apart = λ q r p at also. i.apart q r p (stood q p (n == q) (sym (h q) ∙ at)) (stood r p (n == r) (sym (h r) ∙ also));
    }

  -- a number that has no place is taken out
  none_at : (s : Slab V) (o : Option ℕ) (b : Bool) → option_and_then (get s) (cond b None o) ≡ cond b None (option_and_then (get s) o)
  none_at s o true = refl
  none_at s o false = refl

  pub picked-absent : (es fs : List (ℕ × ℕ)) (s : Slab V) (n : ℕ) → ((q : ℕ) → indexed_place fs q ≡ cond (n == q) None (indexed_place es q)) → picked (get s) fs ≡ map.remove (picked (get s) es) n
  picked-absent es fs s n h = one_put _ _ n None (λ q. get-at (get s) fs q ∙ ap (option_and_then (get s)) (h q) ∙ none_at s (indexed_place es q) (n == q) ∙ ap (cond (n == q) None) (sym (get-at (get s) es q)))

  -- how many
  len_more : (m : map.FinMap nat_cmp V) (n : ℕ) (o : Option V) (k : ℕ) → is_some o ≡ true → map.get m n ≡ None → map.len m ≡ k → map.len (put n o m) ≡ suc k
  len_more m n None k is none e = absurd (subst T (sym is) tt)
  len_more m n (Some v) k is none e = map.len-insert nat_cmp_total m n v ∙ ap (λ x. cond (is_some x) (map.len m) (map.len m + 1)) none ∙ ap (λ x. x + 1) e ∙ add-one k

  pub len-picked : (es : List (ℕ × ℕ)) (s : Slab V) → IsDistinct (λ x y. x == y) (keys_of es) → ((number place : ℕ) → indexed_place es number ≡ Some place → is_some (get s place) ≡ true) → map.len (picked (get s) es) ≡ length es
  unfolding IsDistinct
  len-picked [] s d t = map.len-empty nat_cmp V
  len-picked (e ∷ es) s d t =
      let none = no_key e.0 es d.0 in
      len_more (picked (get s) es) e.0 (get s e.1) (length es) (t e.0 e.1 (ap (λ b. cond b (Some e.1) (indexed_place es e.0)) (eq-eqb e.0 e.0 refl)))
      (get-at (get s) es e.0 ∙ ap (option_and_then (get s)) none)
      (len-picked es s d.1 (λ q p at. t q p (behind e es q p (q == e.0) refl none at)))

  -- a number that has a value has a place with it
  pub no_place_of_it : (es : List (ℕ × ℕ)) (s : Slab V) (n : ℕ) → is_some (map.get (picked (get s) es) n) ≡ true → indexed_place es n ≡ None → ⊥
  no_place_of_it es s n is none = no_value _ (get-at (get s) es n ∙ ap (option_and_then (get s)) none) is
