-- Values of which some stand in a list, and what the changes of both keep.
use Rattle.std.proofs.Common.{◌≡◌, ℕ, zero, suc, ◌+◌, ◌-◌, ◌<◌, ◌≤◌, ◌==◌, ◌++◌, List, [], ◌∷◌, Bool, true, false, cond, ◌&&◌, ◌||◌, length, min, unwrap_or, set, get_or, Option, Some, None, is_some, refl, sym, ap, ◌∙◌, subst, arith, eqb-true, ne_eqb, T, length-append, lt-ltb, le-ltb, ltb-true, ltb-false, ltb, get_or-set_same, get_or-set_other, length-set}
use Rattle.std.proofs.lemmas.Bool.{eqb-false}
use Rattle.std.proofs.lemmas.Option.{same_Some, slice_get-get_or, slice_get_past, unwrap_or-slice_get}
use Rattle.std.specs.Prelude.{slice_index}
use Rattle.std.specs.Ordering.{nat_cmp}
use Rattle.std.specs.Cmp.{nat_cmp_total}
use Rattle.std.specs.FinMap.{FinMap, get, insert, remove, len, len-remove}
use Rattle.rent_table.specs.Lists.{has}
use Rattle.rent_table.specs.NumberedSlab.{put}
use lib.ListN.{get_or-append}
use lib.Seq.{get_or-append_seam}
use Rattle.rent_table.specs.NumberedValues.{near_value, over, all_values, AreApart}
use Rattle.rent_table.proofs.Picks.{put-at, out_at, one_changed, same_all}
use Rattle.rent_table.proofs.Marked.{len-left}
use Rattle.rent_table.proofs.Rising.{has-index}

count_out : (b : Bool) (k l : ℕ) → l ≡ cond b (k - 1) k → k - cond b 1 0 ≡ l
count_out true k l e = sym e
count_out false k l e = let s : k - 0 ≡ k = omega arith in s ∙ sym e

-- within a list the default isn't asked
pub any_default : {A : Type 0} (xs : List A) (i : ℕ) (d e : A) → i < length xs → get_or xs i d ≡ get_or xs i e
any_default xs i d e lt = same_Some _ _ (sym (slice_get-get_or xs i d lt) ∙ slice_get-get_or xs i e lt)

-- how many more fit

pub room-added : (s s' l l' k k' now : ℕ) → min s (l - k) ≡ now → s ≤ s' + 1 → l' ≡ l → k' ≡ k + 1 → now ≤ min s' (l' - k') + 1
room-added s s' l l' k k' now e a b c = omega arith

pub room-same : (s s' l l' k k' now : ℕ) → min s (l - k) ≡ now → s' ≡ s → l' ≡ l → k' ≡ k → min s' (l' - k') ≡ now
room-same s s' l l' k k' now e a b c = omega arith

pub room-left : (s s' l l' k k' now : ℕ) → min s (l - k) ≡ now → s ≤ s' → l' ≡ l → k' ≤ k → now ≤ min s' (l' - k')
room-left s s' l l' k k' now e a b c = omega arith

module _ {V : Type 0} where
  -- what a number has, by whether it has a place in the list
  below_next : (q n : ℕ) (same below : Bool) (o p : Option V) (f : ℕ → Option V) → (q == n) ≡ same → ltb q n ≡ below → cond same (f n) (cond below (f q) p) ≡ cond (ltb q (suc n)) (f q) p
  below_next q n true below o p f e b = ap f (sym (eqb-true q n e)) ∙ ap (λ x. cond x (f q) p) (sym (lt-ltb q (suc n) (let s = eqb-true q n e in omega (arith, s))))
  below_next q n false true o p f e b = ap (λ x. cond x (f q) p) (sym (lt-ltb q (suc n) (let lt = ltb-true q n b in omega (arith, lt))))
  below_next q n false false o p f e b = ap (λ x. cond x (f q) p) (sym (le-ltb q (suc n) (let le = ltb-false q n b in let ne = eqb-false q n e in omega (arith, le, ne))))

  get-over : (n : ℕ) (near : List (Option V)) (far : FinMap nat_cmp V) (q : ℕ) → get (over n near far) q ≡ cond (ltb q n) (near_value near q) (get far q)
  get-over zero near far q = ap (λ b. cond b (near_value near q) (get far q)) (sym (le-ltb q 0 (omega arith)))
  get-over (suc n) near far q =
      put-at (over n near far) n (near_value near n) q
      ∙ ap (cond (q == n) (near_value near n)) (get-over n near far q)
      ∙ below_next q n (q == n) (ltb q n) None (get far q) (near_value near) refl refl

  pub get-values : (near : List (Option V)) (far : FinMap nat_cmp V) (q : ℕ) → get (all_values near far) q ≡ cond (ltb q (length near)) (near_value near q) (get far q)
  get-values near far q = get-over (length near) near far q

  pub value_near : (near : List (Option V)) (far : FinMap nat_cmp V) (q : ℕ) → q < length near → get (all_values near far) q ≡ near_value near q
  value_near near far q lt = get-values near far q ∙ ap (λ b. cond b (near_value near q) (get far q)) (lt-ltb q (length near) lt)

  pub value_far : (near : List (Option V)) (far : FinMap nat_cmp V) (q : ℕ) → length near ≤ q → get (all_values near far) q ≡ get far q
  value_far near far q le = get-values near far q ∙ ap (λ b. cond b (near_value near q) (get far q)) (le-ltb q (length near) le)

  -- what stands in a number's place is changed
  set_value : (near : List (Option V)) (n q : ℕ) (o : Option V) (same : Bool) → q < length near → (q == n) ≡ same → near_value (set near n o) q ≡ cond same o (near_value near q)
  set_value near n q o true lt e = ap (λ x. near_value (set near x o) q) (sym (eqb-true q n e)) ∙ get_or-set_same near q o None lt
  set_value near n q o false lt e = get_or-set_other near n q o None (eqb-false q n e)

  near_changed_at : (near : List (Option V)) (far : FinMap nat_cmp V) (n q : ℕ) (o : Option V) (below same : Bool) → n < length near → ltb q (length near) ≡ below → (q == n) ≡ same → cond below (near_value (set near n o) q) (get far q) ≡ cond same o (cond below (near_value near q) (get far q))
  near_changed_at near far n q o true same lt b e = set_value near n q o same (ltb-true q (length near) b) e
  near_changed_at near far n q o false false lt b e = refl
  near_changed_at near far n q o false true lt b e = absurd (let le = ltb-false q (length near) b in let s = eqb-true q n e in omega (arith, le, s, lt))

  pub near_changed : (near near' : List (Option V)) (far : FinMap nat_cmp V) (n : ℕ) (o : Option V) → n < length near → near' ≡ set near n o → all_values near' far ≡ put n o (all_values near far)
  near_changed near near' far n o lt e = one_changed _ _ n o (λ q.
      ap (λ x. get (all_values x far) q) e ∙ get-values (set near n o) far q ∙ ap (λ l. cond (ltb q l) (near_value (set near n o) q) (get far q)) (length-set near n o)
      ∙ near_changed_at near far n q o (ltb q (length near)) (q == n) lt refl refl ∙ ap (cond (q == n) o) (sym (get-values near far q)))

  -- a number without a place is changed
  far_changed_at : (near : List (Option V)) (n q : ℕ) (o p : Option V) (below same : Bool) → length near ≤ n → ltb q (length near) ≡ below → (q == n) ≡ same → cond below (near_value near q) (cond same o p) ≡ cond same o (cond below (near_value near q) p)
  far_changed_at near n q o p false same le b e = refl
  far_changed_at near n q o p true false le b e = refl
  far_changed_at near n q o p true true le b e = absurd (let lt = ltb-true q (length near) b in let s = eqb-true q n e in omega (arith, le, s, lt))

  pub far_changed : (near : List (Option V)) (far far' : FinMap nat_cmp V) (n : ℕ) (o : Option V) → length near ≤ n → far' ≡ put n o far → all_values near far' ≡ put n o (all_values near far)
  far_changed near far far' n o le e = one_changed _ _ n o (λ q.
      get-values near far' q ∙ ap (cond (ltb q (length near)) (near_value near q)) (ap (λ x. get x q) e ∙ put-at far n o q)
      ∙ far_changed_at near n q o (get far q) (ltb q (length near)) (q == n) le refl refl ∙ ap (cond (q == n) o) (sym (get-values near far q)))

  pub apart-far : (near : List (Option V)) (far far' : FinMap nat_cmp V) (n : ℕ) (o : Option V) → length near ≤ n → far' ≡ put n o far → AreApart near far → AreApart near far'
  apart-far near far far' n o le e apart q lt = ap (λ x. get x q) e ∙ put-at far n o q ∙ ap (λ b. cond b o (get far q)) (ne_eqb q n (λ s. omega (arith, s, le, lt))) ∙ apart q lt

  -- a value is changed where there is one

  exchanged_by : (m m' k : FinMap nat_cmp V) (n : ℕ) (v : V) (here there : Bool) → here ≡ there → (there ≡ true → m' ≡ insert m n v) → (there ≡ false → m' ≡ m) → m' ≡ cond here (insert m n v) m
  exchanged_by m m' k n v true true same there elsewhere = there refl
  exchanged_by m m' k n v false false same there elsewhere = elsewhere refl
  exchanged_by m m' k n v true false same there elsewhere = absurd (subst T same tt)
  exchanged_by m m' k n v false true same there elsewhere = absurd (subst T (sym same) tt)

  pub exchanged-far : (near : List (Option V)) (far far' : FinMap nat_cmp V) (n : ℕ) (v : V) → length near ≤ n → far' ≡ cond (is_some (get far n)) (insert far n v) far
      → all_values near far' ≡ cond (is_some (get (all_values near far) n)) (insert (all_values near far) n v) (all_values near far)
  exchanged-far near far far' n v le e =
      exchanged_by (all_values near far) (all_values near far') far n v (is_some (get (all_values near far) n)) (is_some (get far n)) (ap is_some (value_far near far n le))
      (λ is. far_changed near far far' n (Some v) le (e ∙ ap (λ b. cond b (insert far n v) far) is))
      (λ is. ap (all_values near) (e ∙ ap (λ b. cond b (insert far n v) far) is))

  apart_by : (near : List (Option V)) (far far' : FinMap nat_cmp V) (n : ℕ) (v : V) (here : Bool) → length near ≤ n → far' ≡ cond here (insert far n v) far → AreApart near far → AreApart near far'
  apart_by near far far' n v true le e apart = apart-far near far far' n (Some v) le e apart
  apart_by near far far' n v false le e apart = subst (λ x. AreApart near x) (sym e) apart

  pub apart-exchanged : (near : List (Option V)) (far far' : FinMap nat_cmp V) (n : ℕ) (v : V) → length near ≤ n → far' ≡ cond (is_some (get far n)) (insert far n v) far → AreApart near far → AreApart near far'
  apart-exchanged near far far' n v = apart_by near far far' n v (is_some (get far n))

  -- how many

  pub counted-left : (m m' : FinMap nat_cmp V) (n k : ℕ) → m' ≡ remove m n → k ≡ len m → k - cond (is_some (get m n)) 1 0 ≡ len m'
  counted-left m m' n k e c = ap (λ x. x - cond (is_some (get m n)) 1 0) c ∙ count_out (is_some (get m n)) (len m) (len m') (ap len e ∙ len-remove nat_cmp_total m n)

  pub no_fewer : (m m' : FinMap nat_cmp V) (n : ℕ) → m' ≡ remove m n → len m' ≤ len m
  no_fewer m m' n e = let le = len-left m n in let s = ap len e in omega (arith, le, s)

  -- the place behind the list gets what the map has there
  module _ (near : List (Option V)) (far : FinMap nat_cmp V) where
    abbrev pub longer : List (Option V)
    longer = near ++ get far (length near) ∷ []

    one_longer : length longer ≡ length near + 1
    one_longer = length-append near (get far (length near) ∷ [])

    moved_at : (q : ℕ) (below same : Bool) → ltb q (length near) ≡ below → (q == length near) ≡ same
        → cond (ltb q (length longer)) (near_value longer q) (get (remove far (length near)) q) ≡ cond (ltb q (length near)) (near_value near q) (get far q)
    moved_at q true same b s =
        let lt = ltb-true q (length near) b in
        ap (λ x. cond x (near_value longer q) (get (remove far (length near)) q)) (lt-ltb q (length longer) (let l = one_longer in omega (arith, lt, l)))
        ∙ get_or-append near (get far (length near) ∷ []) None q lt ∙ ap (λ x. cond x (near_value near q) (get far q)) (sym b)
    moved_at q false true b s =
        let is = eqb-true q (length near) s in
        ap (λ x. cond x (near_value longer q) (get (remove far (length near)) q)) (lt-ltb q (length longer) (let l = one_longer in omega (arith, is, l)))
        ∙ ap (near_value longer) is ∙ get_or-append_seam near (get far (length near)) [] None ∙ ap (get far) (sym is) ∙ ap (λ x. cond x (near_value near q) (get far q)) (sym b)
    moved_at q false false b s =
        let le = ltb-false q (length near) b in
        let ne = eqb-false q (length near) s in
        ap (λ x. cond x (near_value longer q) (get (remove far (length near)) q)) (le-ltb q (length longer) (let l = one_longer in omega (arith, le, ne, l)))
        ∙ out_at far (length near) q ∙ ap (λ x. cond x None (get far q)) s ∙ ap (λ x. cond x (near_value near q) (get far q)) (sym b)

    pub brought_near : (near' : List (Option V)) (far' : FinMap nat_cmp V) → near' ≡ longer → far' ≡ remove far (length near) → all_values near' far' ≡ all_values near far
    brought_near near' far' e f = same_all (all_values near far) (all_values near' far') (λ q.
        ap (λ x. get (all_values x far') q) e ∙ ap (λ x. get (all_values longer x) q) f
        ∙ get-values longer (remove far (length near)) q ∙ moved_at q (ltb q (length near)) (q == length near) refl refl ∙ sym (get-values near far q))

    still_apart : (q : ℕ) (same : Bool) → (q == length near) ≡ same → q < length longer → AreApart near far → cond same None (get far q) ≡ None
    still_apart q true s lt apart = refl
    still_apart q false s lt apart = apart q (let l = one_longer in let ne = eqb-false q (length near) s in omega (arith, lt, l, ne))

    pub apart-near : (near' : List (Option V)) (far' : FinMap nat_cmp V) → near' ≡ longer → far' ≡ remove far (length near) → AreApart near far → AreApart near' far'
    apart-near near' far' e f apart q lt = ap (λ x. get x q) f ∙ out_at far (length near) q ∙ still_apart q (q == length near) refl (subst (λ x. q < length x) e lt) apart

  -- past the end of the list nothing stands
  past_none : (near : List (Option V)) (n : ℕ) → length near ≤ n → near_value near n ≡ None
  past_none near n le = sym (unwrap_or-slice_get near n None) ∙ ap (λ o. unwrap_or o None) (slice_get_past near n le)

  all_by : (near : List (Option V)) (m n : ℕ) (below : Bool) → ltb n m ≡ below → length near ≤ m → (below && is_some (near_value near n)) ≡ is_some (near_value near n)
  all_by near m n true b le = refl
  all_by near m n false b le = ap is_some (sym (past_none near n (let past = ltb-false n m b in omega (arith, le, past))))

  pub all_near : (near : List (Option V)) (m n : ℕ) → length near ≤ m → (ltb n m && is_some (near_value near n)) ≡ is_some (near_value near n)
  all_near near m n le = all_by near m n (ltb n m) refl le

  either_by : (near : List (Option V)) (far : FinMap nat_cmp V) (n : ℕ) (below : Bool) → ltb n (length near) ≡ below → AreApart near far → (is_some (near_value near n) || is_some (get far n)) ≡ is_some (cond below (near_value near n) (get far n))
  either_by near far n true b apart = ap (λ o. is_some (near_value near n) || is_some o) (apart n (ltb-true n (length near) b)) ∙ no_other (is_some (near_value near n))
    where
      no_other : (a : Bool) → (a || false) ≡ a
      no_other true = refl
      no_other false = refl
  either_by near far n false b apart = ap (λ o. is_some o || is_some (get far n)) (past_none near n (ltb-false n (length near) b))

  -- a number has a value where one stands in its place, or in the map
  pub either : (near : List (Option V)) (far : FinMap nat_cmp V) (n : ℕ) → AreApart near far → (is_some (near_value near n) || is_some (get far n)) ≡ is_some (get (all_values near far) n)
  either near far n apart = either_by near far n (ltb n (length near)) refl apart ∙ ap is_some (sym (get-values near far n))

  from_by : (near : List (Option V)) (far : FinMap nat_cmp V) (n : ℕ) (below : Bool) → ltb n (length near) ≡ below → AreApart near far → is_some (get far n) ≡ true → length near ≤ n
  from_by near far n true b apart is = absurd (subst T (sym is ∙ ap is_some (apart n (ltb-true n (length near) b))) tt)
  from_by near far n false b apart is = ltb-false n (length near) b

  -- the numbers of the map are past the list
  pub from_far : (near : List (Option V)) (far : FinMap nat_cmp V) (xs : List ℕ) → AreApart near far → ((n : ℕ) → has n xs ≡ is_some (get far n)) → (k : ℕ) → k < length xs → length near ≤ slice_index xs k
  from_far near far xs apart each k lt = let n = slice_index xs k in from_by near far n (ltb n (length near)) refl apart (sym (each n) ∙ has-index xs k lt)
