-- What putting a number into a list and taking one out keep.
use Rattle.std.proofs.Common.{◌≡◌, ℕ, zero, suc, ◌+◌, ◌<◌, ◌≤◌, ◌==◌, Bool, true, false, cond, Option, Some, None, is_some, refl, sym, ap, ◌∙◌, subst, T, arith, ◌⊎◌, inl, inr, eqb-true, eq-eqb, ne_eqb}
use Rattle.std.specs.Option.{option_map}
use Rattle.std.proofs.lemmas.Option.{same_Some}
use Rattle.rent_table.specs.declared.waiters.Link.{Link}
use Rattle.rent_table.specs.Links.{names, with_above, with_below, IsBeside, IsLinked}

both : (b : Bool) → (b ≡ true) ⊎ (b ≡ false)
both true = inl refl
both false = inr refl

clash : (b : Bool) → b ≡ true → b ≡ false → ⊥
clash b t f = subst T (sym t ∙ f) tt

pub no_Some : {A : Type 0} (x : A) → None ≡ Some x → ⊥
no_Some x e = subst T (sym (ap is_some e)) tt

named : (o : Option ℕ) (q : ℕ) → names o q ≡ true → o ≡ Some q
named None q e = absurd (subst T (sym e) tt)
named (Some n) q e = ap Some (sym (eqb-true q n e))

names_it : (o : Option ℕ) (q : ℕ) → o ≡ Some q → names o q ≡ true
names_it o q e = ap (λ x. names x q) e ∙ eq-eqb q q refl

unmap : {A B : Type 0} (f : A → B) (o : Option A) (y : B) → option_map f o ≡ Some y → (x : A) × (o ≡ Some x) × (y ≡ f x)
unmap f None y e = absurd (no_Some y e)
unmap f (Some x) y e = (x, refl, sym (same_Some _ _ e))

apart : (n q : ℕ) → (q ≡ n → ⊥) → (q == n) ≡ false
apart n q isnt = ne_eqb q n isnt

-- what one change of a link leaves
module _ (o a : Option ℕ) (q : ℕ) (l : Link) where
  above_next : (with_above o a q l).next ≡ l.next
  above_next = elim (names o q) as (λ b. (cond b (record l { above = a }) l).next ≡ l.next) [ true ↦ refl | false ↦ refl ]

  above_below : (with_above o a q l).below ≡ l.below
  above_below = elim (names o q) as (λ b. (cond b (record l { above = a }) l).below ≡ l.below) [ true ↦ refl | false ↦ refl ]

  above_set : names o q ≡ true → (with_above o a q l).above ≡ a
  above_set e = ap (λ b. (cond b (record l { above = a }) l).above) e

  above_kept : names o q ≡ false → (with_above o a q l).above ≡ l.above
  above_kept e = ap (λ b. (cond b (record l { above = a }) l).above) e

  below_next : (with_below o a q l).next ≡ l.next
  below_next = elim (names o q) as (λ b. (cond b (record l { below = a }) l).next ≡ l.next) [ true ↦ refl | false ↦ refl ]

  below_above : (with_below o a q l).above ≡ l.above
  below_above = elim (names o q) as (λ b. (cond b (record l { below = a }) l).above ≡ l.above) [ true ↦ refl | false ↦ refl ]

  below_set : names o q ≡ true → (with_below o a q l).below ≡ a
  below_set e = ap (λ b. (cond b (record l { below = a }) l).below) e

  below_kept : names o q ≡ false → (with_below o a q l).below ≡ l.below
  below_kept e = ap (λ b. (cond b (record l { below = a }) l).below) e

module _ (L : ℕ → Option Link) (H : ℕ → Option ℕ) (i : IsLinked L H) where
  -- Where a list has no top, none waits: from any number that did, one would come upwards to the top.
  climbs : (m k n : ℕ) (l : Link) → H m ≡ None → i.most ≤ k + i.rank n → L n ≡ Some l → l.next ≡ m → ⊥
  climbs m zero n l none le at next = let r = i.ranked n l at in omega (arith, le, r)
  climbs m (suc k) n l none le at next = elim l.above as (λ o. l.above ≡ o → ⊥) [
    | None ↦ λ e. no_Some n (sym none ∙ ap H (sym next) ∙ i.topped n l at e)
    | Some a ↦ λ e. let u = i.upward n a l at e in let r = u.1 in let up = u.2 in climbs m k a u.0.link none (omega (arith, le, up)) u.0.at (u.0.next_is ∙ next)
  ] refl

  pub none_waits : (m n : ℕ) (l : Link) → H m ≡ None → L n ≡ Some l → l.next ≡ m → ⊥
  none_waits m n l none at next = climbs m i.most n l none (omega arith) at next

  same_link : (n : ℕ) (l k : Link) → L n ≡ Some l → L n ≡ Some k → k ≡ l
  same_link n l k at also = same_Some _ _ (sym also ∙ at)

  -- a number that doesn't wait is put on top of a list
  module _ (n m : ℕ) (new : L n ≡ None) (L' : ℕ → Option Link) (H' : ℕ → Option ℕ)
      (put : (q : ℕ) → L' q ≡ cond (q == n) (Some (record { next = m; above = None; below = H m })) (option_map (with_above (H m) (Some n) q) (L q)))
      (topping : (q : ℕ) → H' q ≡ cond (q == m) (Some n) (H q)) where
    abbrev fresh : Link
    fresh = record { next = m; above = None; below = H m }

    abbrev raised : ℕ → Link → Link
    raised q l = with_above (H m) (Some n) q l

    here : L' n ≡ Some fresh
    here = put n ∙ ap (λ b. cond b (Some fresh) (option_map (raised n) (L n))) (eq-eqb n n refl)

    there : (q : ℕ) → (q == n) ≡ false → L' q ≡ option_map (raised q) (L q)
    there q e = put q ∙ ap (λ b. cond b (Some fresh) (option_map (raised q) (L q))) e

    there_at : (q : ℕ) (l : Link) → (q == n) ≡ false → L q ≡ Some l → L' q ≡ Some (raised q l)
    there_at q l e at = there q e ∙ ap (option_map (raised q)) at

    old : (q : ℕ) (l : Link) → L q ≡ Some l → (q == n) ≡ false
    old q l at = apart n q (λ same. no_Some l (sym new ∙ ap L (sym same) ∙ at))

    was : (q : ℕ) (k : Link) → (q == n) ≡ false → L' q ≡ Some k → (l : Link) × (L q ≡ Some l) × (k ≡ raised q l)
    was q k e at = unmap (raised q) (L q) k (sym (there q e) ∙ at)

    is_fresh : (q : ℕ) (k : Link) → (q == n) ≡ true → L' q ≡ Some k → k ≡ fresh
    is_fresh q k e at = same_Some _ _ (sym at ∙ ap L' (eqb-true q n e) ∙ here)

    topped_here : (q : ℕ) → (q == m) ≡ true → H' q ≡ Some n
    topped_here q e = topping q ∙ ap (λ b. cond b (Some n) (H q)) e

    topped_there : (q : ℕ) → (q == m) ≡ false → H' q ≡ H q
    topped_there q e = topping q ∙ ap (λ b. cond b (Some n) (H q)) e

    abbrev rank' : ℕ → ℕ
    rank' q = cond (q == n) i.most (i.rank q)

    rank_here : (q : ℕ) → (q == n) ≡ true → rank' q ≡ i.most
    rank_here q e = ap (λ b. cond b i.most (i.rank q)) e

    rank_there : (q : ℕ) → (q == n) ≡ false → rank' q ≡ i.rank q
    rank_there q e = ap (λ b. cond b i.most (i.rank q)) e

    ranked' : (q : ℕ) (k : Link) → L' q ≡ Some k → ((q == n) ≡ true) ⊎ ((q == n) ≡ false) → rank' q < suc i.most
    ranked' q k at (inl e) = let r = rank_here q e in omega (arith, r)
    ranked' q k at (inr e) = let r = rank_there q e in let w = was q k e at in let le = i.ranked q w.0 w.1 in omega (arith, r, le)

    -- the top of another list
    other_top : (p q : ℕ) → (p == m) ≡ false → H p ≡ Some q → (b : IsBeside L' p q) × (b.link.above ≡ None)
    other_top p q e at =
        let t = i.top p q at in
        let l = t.0.link in
        let free : names (H m) q ≡ false = not_named p q e t.0 in
        (record { link = raised q l; at = there_at q l (old q l t.0.at) t.0.at; next_is = above_next (H m) (Some n) q l ∙ t.0.next_is }, above_kept (H m) (Some n) q l free ∙ t.1)
      where
        to_false : (b : Bool) → (b ≡ true → ⊥) → b ≡ false
        to_false true isnt = absurd (isnt refl)
        to_false false isnt = refl

        not_named : (p q : ℕ) → (p == m) ≡ false → IsBeside L p q → names (H m) q ≡ false
        not_named p q e b = to_false _ (λ is.
            let t = i.top m q (named (H m) q is) in
            let same = same_link q b.link t.0.link b.at t.0.at in
            clash _ (eq-eqb p m (sym b.next_is ∙ sym (ap (λ x. x.next) same) ∙ t.0.next_is)) e)

    top' : (p q : ℕ) → H' p ≡ Some q → ((p == m) ≡ true) ⊎ ((p == m) ≡ false) → (b : IsBeside L' p q) × (b.link.above ≡ None)
    top' p q at (inl e) =
        let same : n ≡ q = same_Some _ _ (sym (topped_here p e) ∙ at) in
        subst (λ x. (b : IsBeside L' p x) × (b.link.above ≡ None)) same (record { link = fresh; at = here; next_is = sym (eqb-true p m e) }, refl)
    top' p q at (inr e) = other_top p q e (sym (topped_there p e) ∙ at)

    topped' : (q : ℕ) (k : Link) → L' q ≡ Some k → k.above ≡ None → ((q == n) ≡ true) ⊎ ((q == n) ≡ false) → H' k.next ≡ Some q
    topped' q k at none (inl e) = ap (λ x. H' x.next) (is_fresh q k e at) ∙ topped_here m (eq-eqb m m refl) ∙ ap Some (sym (eqb-true q n e))
    topped' q k at none (inr e) = other (was q k e at) (both (names (H m) q))
      where
        other : (w : (l : Link) × (L q ≡ Some l) × (k ≡ raised q l)) → (names (H m) q ≡ true) ⊎ (names (H m) q ≡ false) → H' k.next ≡ Some q
        other w (inl is) = absurd (no_Some n (sym none ∙ ap (λ x. x.above) w.2 ∙ above_set (H m) (Some n) q w.0 is))
        other w (inr isnt) =
            let up = i.topped q w.0 w.1 (sym (above_kept (H m) (Some n) q w.0 isnt) ∙ sym (ap (λ x. x.above) w.2) ∙ none) in
            let elsewhere : (w.0.next == m) ≡ false = apart m w.0.next (λ same. clash _ (names_it (H m) q (ap H (sym same) ∙ up)) isnt) in
            ap H' (ap (λ x. x.next) w.2 ∙ above_next (H m) (Some n) q w.0) ∙ topped_there w.0.next elsewhere ∙ up

    upward' : (q a : ℕ) (k : Link) → L' q ≡ Some k → k.above ≡ Some a → ((q == n) ≡ true) ⊎ ((q == n) ≡ false) → (b : IsBeside L' k.next a) × (b.link.below ≡ Some q) × (rank' q < rank' a)
    upward' q a k at up (inl e) = absurd (no_Some a (sym (ap (λ x. x.above) (is_fresh q k e at)) ∙ up))
    upward' q a k at up (inr e) = other (was q k e at) (both (names (H m) q))
      where
        other : (w : (l : Link) × (L q ≡ Some l) × (k ≡ raised q l)) → (names (H m) q ≡ true) ⊎ (names (H m) q ≡ false) → (b : IsBeside L' k.next a) × (b.link.below ≡ Some q) × (rank' q < rank' a)
        other w (inl is) =
            let a_is : a ≡ n = same_Some _ _ (sym up ∙ ap (λ x. x.above) w.2 ∙ above_set (H m) (Some n) q w.0 is) in
            let t = i.top m q (named (H m) q is) in
            let next : k.next ≡ m = ap (λ x. x.next) w.2 ∙ above_next (H m) (Some n) q w.0 ∙ sym (ap (λ x. x.next) (same_link q w.0 t.0.link w.1 t.0.at)) ∙ t.0.next_is in
            let low = i.ranked q w.0 w.1 in
            let r = rank_there q e in
            let s = rank_here a (eq-eqb a n a_is) in
            (record { link = fresh; at = ap L' a_is ∙ here; next_is = sym next }, named (H m) q is, omega (arith, low, r, s))
        other w (inr isnt) =
            let u = i.upward q a w.0 w.1 (sym (above_kept (H m) (Some n) q w.0 isnt) ∙ sym (ap (λ x. x.above) w.2) ∙ up) in
            let b = u.0 in
            let else = old a b.link b.at in
            let rise = u.2 in
            let r = rank_there q e in
            let s = rank_there a else in (
              record { link = raised a b.link; at = there_at a b.link else b.at; next_is = above_next (H m) (Some n) a b.link ∙ b.next_is ∙ sym (ap (λ x. x.next) w.2 ∙ above_next (H m) (Some n) q w.0) },
              above_below (H m) (Some n) a b.link ∙ u.1,
              omega (arith, rise, r, s),
            )

    downward' : (q a : ℕ) (k : Link) → L' q ≡ Some k → k.below ≡ Some a → ((q == n) ≡ true) ⊎ ((q == n) ≡ false) → (b : IsBeside L' k.next a) × (b.link.above ≡ Some q)
    downward' q a k at down (inl e) =
        let f = is_fresh q k e at in
        let topmost : H m ≡ Some a = sym (ap (λ x. x.below) f) ∙ down in
        let t = i.top m a topmost in
        let l = t.0.link in (
          record { link = raised a l; at = there_at a l (old a l t.0.at) t.0.at; next_is = above_next (H m) (Some n) a l ∙ t.0.next_is ∙ sym (ap (λ x. x.next) f) },
          above_set (H m) (Some n) a l (names_it (H m) a topmost) ∙ ap Some (sym (eqb-true q n e)),
        )
    downward' q a k at down (inr e) = other (was q k e at)
      where
        other : (w : (l : Link) × (L q ≡ Some l) × (k ≡ raised q l)) → (b : IsBeside L' k.next a) × (b.link.above ≡ Some q)
        other w =
            let d = i.downward q a w.0 w.1 (sym (ap (λ x. x.below) w.2 ∙ above_below (H m) (Some n) q w.0) ∙ down) in
            let b = d.0 in (
              record { link = raised a b.link; at = there_at a b.link (old a b.link b.at) b.at; next_is = above_next (H m) (Some n) a b.link ∙ b.next_is ∙ sym (ap (λ x. x.next) w.2 ∙ above_next (H m) (Some n) q w.0) },
              held d (both (names (H m) a)),
            )
          where
            held : (d : (b : IsBeside L w.0.next a) × (b.link.above ≡ Some q)) → (names (H m) a ≡ true) ⊎ (names (H m) a ≡ false) → (raised a d.0.link).above ≡ Some q
            held d (inl is) = let t = i.top m a (named (H m) a is) in absurd (no_Some q (sym t.1 ∙ ap (λ x. x.above) (same_link a d.0.link t.0.link d.0.at t.0.at) ∙ d.1))
            held d (inr isnt) = above_kept (H m) (Some n) a d.0.link isnt ∙ d.1

    pub IsLinked-more : IsLinked L' H'
    IsLinked-more = record {
      rank = rank';
      most = suc i.most;
      ranked = λ q k at. ranked' q k at (both (q == n));
      top = λ p q at. top' p q at (both (p == m));
      topped = λ q k at none. topped' q k at none (both (q == n));
      upward = λ q a k at up. upward' q a k at up (both (q == n));
      downward = λ q a k at down. downward' q a k at down (both (q == n));
    }

  -- a number is taken out
  module _ (n : ℕ) (l : Link) (it : L n ≡ Some l) (L' : ℕ → Option Link) (H' : ℕ → Option ℕ)
      (out : (q : ℕ) → L' q ≡ option_map (with_above l.below l.above q) (option_map (with_below l.above l.below q) (cond (q == n) None (L q))))
      (passed : l.above ≡ None → (q : ℕ) → H' q ≡ cond (q == l.next) l.below (H q))
      (kept : (a : ℕ) → l.above ≡ Some a → (q : ℕ) → H' q ≡ H q) where
    abbrev lowered : ℕ → Link → Link
    lowered q k = with_below l.above l.below q k

    abbrev joined : ℕ → Link → Link
    joined q k = with_above l.below l.above q (lowered q k)

    joined_next : (q : ℕ) (k : Link) → (joined q k).next ≡ k.next
    joined_next q k = above_next l.below l.above q (lowered q k) ∙ below_next l.above l.below q k

    joined_above : (q : ℕ) (k : Link) → names l.below q ≡ false → (joined q k).above ≡ k.above
    joined_above q k isnt = above_kept l.below l.above q (lowered q k) isnt ∙ below_above l.above l.below q k

    joined_up : (q : ℕ) (k : Link) → names l.below q ≡ true → (joined q k).above ≡ l.above
    joined_up q k is = above_set l.below l.above q (lowered q k) is

    joined_below : (q : ℕ) (k : Link) → names l.above q ≡ false → (joined q k).below ≡ k.below
    joined_below q k isnt = above_below l.below l.above q (lowered q k) ∙ below_kept l.above l.below q k isnt

    joined_down : (q : ℕ) (k : Link) → names l.above q ≡ true → (joined q k).below ≡ l.below
    joined_down q k is = above_below l.below l.above q (lowered q k) ∙ below_set l.above l.below q k is

    stays : (q : ℕ) (k : Link) → (q == n) ≡ false → L q ≡ Some k → L' q ≡ Some (joined q k)
    stays q k e at = out q ∙ ap (λ o. option_map (with_above l.below l.above q) (option_map (lowered q) o)) (ap (λ b. cond b None (L q)) e ∙ at)

    stood : (q : ℕ) (k : Link) → L' q ≡ Some k → ((q == n) ≡ true) ⊎ ((q == n) ≡ false) → ((q == n) ≡ false) × (j : Link) × (L q ≡ Some j) × (k ≡ joined q j)
    stood q k at (inl e) = absurd (no_Some k (sym (out q ∙ ap (λ b. option_map (with_above l.below l.above q) (option_map (lowered q) (cond b None (L q)))) e) ∙ at))
    stood q k at (inr e) =
        let a = unmap (with_above l.below l.above q) (option_map (lowered q) (L q)) k (sym (out q ∙ ap (λ b. option_map (with_above l.below l.above q) (option_map (lowered q) (cond b None (L q)))) e) ∙ at) in
        let b = unmap (lowered q) (L q) a.0 a.1 in
        (e, b.0, b.1, a.2 ∙ ap (with_above l.below l.above q) b.2)

    lower : (q : ℕ) → i.rank q < i.rank n → (q == n) ≡ false
    lower q lt = apart n q (λ same. let s = ap i.rank same in omega (arith, lt, s))

    higher : (q : ℕ) → i.rank n < i.rank q → (q == n) ≡ false
    higher q lt = apart n q (λ same. let s = ap i.rank same in omega (arith, lt, s))

    -- who stands below
    beneath : (q : ℕ) → names l.below q ≡ true → (b : IsBeside L l.next q) × (b.link.above ≡ Some n) × (i.rank q < i.rank n)
    beneath q is =
        let d = i.downward n q l it (named l.below q is) in
        (d.0, d.1, (i.upward q n d.0.link d.0.at d.1).2)

    same_number : (a b : ℕ) → (a == b) ≡ false → a ≡ b → ⊥
    same_number a b e same = clash _ (eq-eqb a b same) e

    -- a list keeps its top where another number is taken out
    stays_top : (p q : ℕ) → H p ≡ Some q → (q == n) ≡ false → (b : IsBeside L' p q) × (b.link.above ≡ None)
    stays_top p q at e = from (i.top p q at) (both (names l.below q))
      where
        from : (t : (b : IsBeside L p q) × (b.link.above ≡ None)) → (names l.below q ≡ true) ⊎ (names l.below q ≡ false) → (b : IsBeside L' p q) × (b.link.above ≡ None)
        from t (inl is) = let d = beneath q is in absurd (no_Some n (sym t.1 ∙ ap (λ x. x.above) (same_link q d.0.link t.0.link d.0.at t.0.at) ∙ d.1))
        from t (inr isnt) = (record { link = joined q t.0.link; at = stays q t.0.link e t.0.at; next_is = joined_next q t.0.link ∙ t.0.next_is }, joined_above q t.0.link isnt ∙ t.1)

    -- the number taken out is the top of no list but its own, and of that only where none is above it
    its_list : (p q : ℕ) → H p ≡ Some q → q ≡ n → (p ≡ l.next) × (l.above ≡ None)
    its_list p q at same =
        let t = i.top p q at in
        let is : t.0.link ≡ l = same_Some _ _ (sym t.0.at ∙ ap L same ∙ it) in
        (sym t.0.next_is ∙ ap (λ x. x.next) is, sym (ap (λ x. x.above) is) ∙ t.1)

    top-none : (p q : ℕ) → l.above ≡ None → H' p ≡ Some q → ((p == l.next) ≡ true) ⊎ ((p == l.next) ≡ false) → (b : IsBeside L' p q) × (b.link.above ≡ None)
    top-none p q none at (inl e) =
        let low : l.below ≡ Some q = sym (passed none p ∙ ap (λ b. cond b l.below (H p)) e) ∙ at in
        let is = names_it l.below q low in
        let d = beneath q is in
        (record { link = joined q d.0.link; at = stays q d.0.link (lower q d.2) d.0.at; next_is = joined_next q d.0.link ∙ d.0.next_is ∙ sym (eqb-true p l.next e) }, joined_up q d.0.link is ∙ none)
    top-none p q none at (inr e) =
        let was = sym (passed none p ∙ ap (λ b. cond b l.below (H p)) e) ∙ at in
        stays_top p q was (apart n q (λ same. same_number p l.next e (its_list p q was same).0))

    top-some : (p q a : ℕ) → l.above ≡ Some a → H' p ≡ Some q → (b : IsBeside L' p q) × (b.link.above ≡ None)
    top-some p q a some at =
        let was = sym (kept a some p) ∙ at in
        stays_top p q was (apart n q (λ same. no_Some a (sym (its_list p q was same).1 ∙ some)))

    out-top : (p q : ℕ) → H' p ≡ Some q → (b : IsBeside L' p q) × (b.link.above ≡ None)
    out-top p q at = elim l.above as (λ o. l.above ≡ o → (b : IsBeside L' p q) × (b.link.above ≡ None)) [
      | None ↦ λ e. top-none p q e at (both (p == l.next))
      | Some a ↦ λ e. top-some p q a e at
    ] refl

    out-topped : (q : ℕ) (k : Link) → L' q ≡ Some k → k.above ≡ None → H' k.next ≡ Some q
    out-topped q k at none = from (stood q k at (both (q == n))) (both (names l.below q))
      where
        kept_top : (j : Link) → L q ≡ Some j → j.above ≡ None → (q == n) ≡ false → H' j.next ≡ Some q
        kept_top j was up e =
            let t = i.topped q j was up in
            elim l.above as (λ o. l.above ≡ o → H' j.next ≡ Some q) [
              | None ↦ λ none. elim (both (j.next == l.next)) [
                | inl s ↦ absurd (same_number q n e (same_Some _ _ (sym t ∙ ap H (eqb-true j.next l.next s) ∙ i.topped n l it none)))
                | inr s ↦ passed none j.next ∙ ap (λ b. cond b l.below (H j.next)) s ∙ t
              ]
              | Some a ↦ λ some. kept a some j.next ∙ t
            ] refl

        from : (w : ((q == n) ≡ false) × (j : Link) × (L q ≡ Some j) × (k ≡ joined q j)) → (names l.below q ≡ true) ⊎ (names l.below q ≡ false) → H' k.next ≡ Some q
        from w (inl is) =
            let d = beneath q is in
            let next : k.next ≡ l.next = ap (λ x. x.next) w.3 ∙ joined_next q w.1 ∙ ap (λ x. x.next) (same_link q d.0.link w.1 d.0.at w.2) ∙ d.0.next_is in
            let up : l.above ≡ None = sym (joined_up q w.1 is) ∙ sym (ap (λ x. x.above) w.3) ∙ none in
            passed up k.next ∙ ap (λ b. cond b l.below (H k.next)) (eq-eqb k.next l.next next) ∙ named l.below q is
        from w (inr isnt) =
            ap H' (ap (λ x. x.next) w.3 ∙ joined_next q w.1) ∙ kept_top w.1 w.2 (sym (joined_above q w.1 isnt) ∙ sym (ap (λ x. x.above) w.3) ∙ none) w.0

    out-upward : (q a : ℕ) (k : Link) → L' q ≡ Some k → k.above ≡ Some a → (b : IsBeside L' k.next a) × (b.link.below ≡ Some q) × (i.rank q < i.rank a)
    out-upward q a k at up = from (stood q k at (both (q == n))) (both (names l.below q))
      where
        aside : (b : ℕ → Option Link) → (j u : Link) → L q ≡ Some j → (q == n) ≡ false → L a ≡ Some u → u.below ≡ Some q → names l.above a ≡ false
        aside b j u was e at below = elim (both (names l.above a)) [
          | inl is ↦
              let v = i.upward n a l it (named l.above a is) in
              absurd (same_number q n e (same_Some _ _ (sym below ∙ sym (ap (λ x. x.below) (same_link a u v.0.link at v.0.at)) ∙ v.1)))
          | inr isnt ↦ isnt
        ]

        from : (w : ((q == n) ≡ false) × (j : Link) × (L q ≡ Some j) × (k ≡ joined q j)) → (names l.below q ≡ true) ⊎ (names l.below q ≡ false) → (b : IsBeside L' k.next a) × (b.link.below ≡ Some q) × (i.rank q < i.rank a)
        from w (inl is) =
            let d = beneath q is in
            let over : l.above ≡ Some a = sym (joined_up q w.1 is) ∙ sym (ap (λ x. x.above) w.3) ∙ up in
            let u = i.upward n a l it over in
            let rise = u.2 in
            let low = d.2 in
            let next : k.next ≡ l.next = ap (λ x. x.next) w.3 ∙ joined_next q w.1 ∙ ap (λ x. x.next) (same_link q d.0.link w.1 d.0.at w.2) ∙ d.0.next_is in (
              record { link = joined a u.0.link; at = stays a u.0.link (higher a rise) u.0.at; next_is = joined_next a u.0.link ∙ u.0.next_is ∙ sym next },
              joined_down a u.0.link (names_it l.above a over) ∙ named l.below q is,
              omega (arith, rise, low),
            )
        from w (inr isnt) =
            let u = i.upward q a w.1 w.2 (sym (joined_above q w.1 isnt) ∙ sym (ap (λ x. x.above) w.3) ∙ up) in
            let b = u.0 in
            let else : (a == n) ≡ false = apart n a (λ same. clash _ (names_it l.below q (sym (ap (λ x. x.below) (same_Some _ _ (sym b.at ∙ ap L same ∙ it))) ∙ u.1)) isnt) in (
              record { link = joined a b.link; at = stays a b.link else b.at; next_is = joined_next a b.link ∙ b.next_is ∙ sym (ap (λ x. x.next) w.3 ∙ joined_next q w.1) },
              joined_below a b.link (aside L w.1 b.link w.2 w.0 b.at u.1) ∙ u.1,
              u.2,
            )

    out-downward : (q a : ℕ) (k : Link) → L' q ≡ Some k → k.below ≡ Some a → (b : IsBeside L' k.next a) × (b.link.above ≡ Some q)
    out-downward q a k at down = from (stood q k at (both (q == n))) (both (names l.above q))
      where
        from : (w : ((q == n) ≡ false) × (j : Link) × (L q ≡ Some j) × (k ≡ joined q j)) → (names l.above q ≡ true) ⊎ (names l.above q ≡ false) → (b : IsBeside L' k.next a) × (b.link.above ≡ Some q)
        from w (inl is) =
            let over = i.upward n q l it (named l.above q is) in
            let under : l.below ≡ Some a = sym (joined_down q w.1 is) ∙ sym (ap (λ x. x.below) w.3) ∙ down in
            let low = names_it l.below a under in
            let d = beneath a low in
            let next : k.next ≡ l.next = ap (λ x. x.next) w.3 ∙ joined_next q w.1 ∙ ap (λ x. x.next) (same_link q over.0.link w.1 over.0.at w.2) ∙ over.0.next_is in
            (record { link = joined a d.0.link; at = stays a d.0.link (lower a d.2) d.0.at; next_is = joined_next a d.0.link ∙ d.0.next_is ∙ sym next }, joined_up a d.0.link low ∙ named l.above q is)
        from w (inr isnt) =
            let d = i.downward q a w.1 w.2 (sym (joined_below q w.1 isnt) ∙ sym (ap (λ x. x.below) w.3) ∙ down) in
            let b = d.0 in
            let else : (a == n) ≡ false = apart n a (λ same. clash _ (names_it l.above q (sym (ap (λ x. x.above) (same_Some _ _ (sym b.at ∙ ap L same ∙ it))) ∙ d.1)) isnt) in
            let free : names l.below a ≡ false = elim (both (names l.below a)) [
              | inl is ↦ let v = beneath a is in absurd (same_number q n w.0 (same_Some _ _ (sym d.1 ∙ sym (ap (λ x. x.above) (same_link a b.link v.0.link b.at v.0.at)) ∙ v.1)))
              | inr f ↦ f
            ] in
            (record { link = joined a b.link; at = stays a b.link else b.at; next_is = joined_next a b.link ∙ b.next_is ∙ sym (ap (λ x. x.next) w.3 ∙ joined_next q w.1) }, joined_above a b.link free ∙ d.1)

    pub IsLinked-less : IsLinked L' H'
    IsLinked-less = record {
      rank = i.rank;
      most = i.most;
      ranked = λ q k at. let w = stood q k at (both (q == n)) in i.ranked q w.1 w.2;
      top = out-top;
      topped = out-topped;
      upward = out-upward;
      downward = out-downward;
    }

pub IsLinked-empty : (L : ℕ → Option Link) (H : ℕ → Option ℕ) → ((q : ℕ) → L q ≡ None) → ((q : ℕ) → H q ≡ None) → IsLinked L H
IsLinked-empty L H none bare = record {
  rank = λ q. 0;
  most = 0;
  ranked = λ q k at. absurd (no_Some k (sym (none q) ∙ at));
  top = λ p q at. absurd (no_Some q (sym (bare p) ∙ at));
  topped = λ q k at up. absurd (no_Some k (sym (none q) ∙ at));
  upward = λ q a k at up. absurd (no_Some k (sym (none q) ∙ at));
  downward = λ q a k at up. absurd (no_Some k (sym (none q) ∙ at));
}

pub IsLinked-same : (L M : ℕ → Option Link) (H G : ℕ → Option ℕ) → IsLinked L H → ((q : ℕ) → M q ≡ L q) → ((q : ℕ) → G q ≡ H q) → IsLinked M G
IsLinked-same L M H G i m g = record {
  rank = i.rank;
  most = i.most;
  ranked = λ q k at. i.ranked q k (sym (m q) ∙ at);
  top = λ p q at. let t = i.top p q (sym (g p) ∙ at) in (record { link = t.0.link; at = m q ∙ t.0.at; next_is = t.0.next_is }, t.1);
  topped = λ q k at up. g k.next ∙ i.topped q k (sym (m q) ∙ at) up;
  upward = λ q a k at up. let t = i.upward q a k (sym (m q) ∙ at) up in (record { link = t.0.link; at = m a ∙ t.0.at; next_is = t.0.next_is }, t.1, t.2);
  downward = λ q a k at up. let t = i.downward q a k (sym (m q) ∙ at) up in (record { link = t.0.link; at = m a ∙ t.0.at; next_is = t.0.next_is }, t.1);
}
