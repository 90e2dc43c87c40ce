-- What the links say of who waits for whom.
use Rattle.std.proofs.Common.{◌≡◌, ◌≢◌, ℕ, ◌==◌, Bool, true, false, cond, Option, Some, None, refl, sym, ap, ◌∙◌, IfSome, IfNone, eqb-true}
use Rattle.std.specs.Option.{option_map, option_and_then}
use Rattle.std.specs.Ordering.{nat_cmp}
use Rattle.std.specs.FinMap.{FinMap, get, insert, remove}
use Rattle.std.proofs.lemmas.Option.{same_Some}
use Rattle.rent_table.proofs.Picks.{get-part, one_changed, nothing_out, put_at, out_at, put-at}
use Rattle.rent_table.specs.declared.waiters.Link.{Link}
use Rattle.rent_table.specs.Waiting.{next_in, next_of}
use Rattle.rent_table.specs.Links.{names, with_above, with_below, passed_by, passed, IsLinked}
use Rattle.rent_table.proofs.Linked.{no_Some, none_waits}

abbrev LinkMap : Type 0
LinkMap = FinMap nat_cmp Link

pub next-at : (links : LinkMap) (q : ℕ) → get (next_of links) q ≡ option_and_then next_in (get links q)
next-at links q = get-part next_in links q

same_above : (o a : Option ℕ) (q : ℕ) (x : Option Link) → option_and_then next_in (option_map (with_above o a q) x) ≡ option_and_then next_in x
same_above o a q None = refl
same_above o a q (Some l) = elim (names o q) as (λ b. Some (cond b (record l { above = a }) l).next ≡ Some l.next) [ true ↦ refl | false ↦ refl ]

same_below : (o a : Option ℕ) (q : ℕ) (x : Option Link) → option_and_then next_in (option_map (with_below o a q) x) ≡ option_and_then next_in x
same_below o a q None = refl
same_below o a q (Some l) = elim (names o q) as (λ b. Some (cond b (record l { below = a }) l).next ≡ Some l.next) [ true ↦ refl | false ↦ refl ]

through : (b : Bool) (x y : Option Link) → option_and_then next_in (cond b x y) ≡ cond b (option_and_then next_in x) (option_and_then next_in y)
through true x y = refl
through false x y = refl

-- a number was put in, behind one change
pub next-more : (links mid after : LinkMap) (n m : ℕ) (o a b c : Option ℕ) → ((q : ℕ) → get mid q ≡ option_map (with_above o a q) (get links q)) → after ≡ insert mid n (record { next = m; above = b; below = c }) → next_of after ≡ insert (next_of links) n m
next-more links mid after n m o a b c h e = one_changed _ _ n (Some m) (λ q.
    next-at after q ∙ ap (λ x. option_and_then next_in (get x q)) e ∙ ap (option_and_then next_in) (put_at mid n _ q)
    ∙ through (q == n) _ (get mid q)
    ∙ ap (cond (q == n) (Some m)) (ap (option_and_then next_in) (h q) ∙ same_above o a q (get links q) ∙ sym (next-at links q)))

-- a number was taken out, before two changes
pub next-less : (links mid after : LinkMap) (n : ℕ) (o a p b : Option ℕ) → ((q : ℕ) → get mid q ≡ option_map (with_below p b q) (get (remove links n) q)) → ((q : ℕ) → get after q ≡ option_map (with_above o a q) (get mid q)) → next_of after ≡ remove (next_of links) n
next-less links mid after n o a p b g h = one_changed _ _ n None (λ q.
    next-at after q ∙ ap (option_and_then next_in) (h q) ∙ same_above o a q (get mid q)
    ∙ ap (option_and_then next_in) (g q) ∙ same_below p b q (get (remove links n) q)
    ∙ ap (option_and_then next_in) (out_at links n q) ∙ through (q == n) None (get links q)
    ∙ ap (cond (q == n) None) (sym (next-at links q)))

pub next-absent : (links : LinkMap) (n : ℕ) → get links n ≡ None → next_of links ≡ remove (next_of links) n
next-absent links n none = nothing_out (next_of links) n (next-at links n ∙ ap (option_and_then next_in) none)

no_link : (x : Option Link) → option_and_then next_in x ≡ None → x ≡ None
no_link None e = refl
no_link (Some l) e = absurd (no_Some l.next (sym e))

pub not_linked : (links : LinkMap) (n : ℕ) → get (next_of links) n ≡ None → get links n ≡ None
not_linked links n e = no_link (get links n) (sym (next-at links n) ∙ e)

linked : (x : Option Link) (m : ℕ) → option_and_then next_in x ≡ Some m → (l : Link) × (x ≡ Some l) × (l.next ≡ m)
linked None m e = absurd (no_Some m e)
linked (Some l) m e = (l, refl, same_Some _ _ e)

-- who is on top waits, and where none is, none waits
module _ (links : LinkMap) (tops : FinMap nat_cmp ℕ) (i : IsLinked (get links) (get tops)) (m : ℕ) where
  pub top_waits : (o : Option ℕ) → o ≡ get tops m → IfSome o (λ n. get (next_of links) n ≡ Some m)
  top_waits None e = tt
  top_waits (Some n) e = let t = i.top m n (sym e) in next-at links n ∙ ap (option_and_then next_in) t.0.at ∙ ap Some t.0.next_is

  pub no_top : (o : Option ℕ) → o ≡ get tops m → IfNone o ((n : ℕ) → get (next_of links) n ≢ Some m)
  no_top None e = λ n at. let w = linked (get links n) m (sym (next-at links n) ∙ at) in none_waits (get links) (get tops) i m n w.0 (sym e) w.1 w.2
  no_top (Some n) e = tt

changed : (o : Option Link) (f : Link → Link) (l : Link) → o ≡ Some l → Some (f l) ≡ option_map f o
changed o f l e = ap (option_map f) (sym e)

unchanged : (o x : Option ℕ) (q n : ℕ) (y : Option Link) → o ≡ Some n → (q == n) ≡ false → (y ≡ option_map (with_above o x q) y) × (y ≡ option_map (with_below o x q) y)
unchanged o x q n None e d = (refl, refl)
unchanged o x q n (Some l) e d =
    let other = ap (λ s. names s q) e ∙ d in
    (ap (λ b. Some (cond b (record l { above = x }) l)) (sym other), ap (λ b. Some (cond b (record l { below = x }) l)) (sym other))

named_self : (o : Option ℕ) (q n : ℕ) → o ≡ Some n → (q == n) ≡ true → names o q ≡ true
named_self o q n e same = ap (λ s. names s q) e ∙ same

-- one link was changed
module _ (links after : LinkMap) (o : Option ℕ) (n : ℕ) (l : Link) (x : Option ℕ) (is : o ≡ Some n) (at : get links n ≡ Some l) where
  above_at : (q : ℕ) (b : Bool) → (q == n) ≡ b → cond b (Some (record l { above = x })) (get links q) ≡ option_map (with_above o x q) (get links q)
  above_at q true e = ap (λ b. Some (cond b (record l { above = x }) l)) (sym (named_self o q n is e)) ∙ changed (get links q) (with_above o x q) l (ap (get links) (eqb-true q n e) ∙ at)
  above_at q false e = (unchanged o x q n (get links q) is e).0

  pub one_above : after ≡ insert links n (record l { above = x }) → (q : ℕ) → get after q ≡ option_map (with_above o x q) (get links q)
  one_above e q = ap (λ m. get m q) e ∙ put_at links n _ q ∙ above_at q (q == n) refl

  below_at : (q : ℕ) (b : Bool) → (q == n) ≡ b → cond b (Some (record l { below = x })) (get links q) ≡ option_map (with_below o x q) (get links q)
  below_at q true e = ap (λ b. Some (cond b (record l { below = x }) l)) (sym (named_self o q n is e)) ∙ changed (get links q) (with_below o x q) l (ap (get links) (eqb-true q n e) ∙ at)
  below_at q false e = (unchanged o x q n (get links q) is e).1

  pub one_below : after ≡ insert links n (record l { below = x }) → (q : ℕ) → get after q ≡ option_map (with_below o x q) (get links q)
  one_below e q = ap (λ m. get m q) e ∙ put_at links n _ q ∙ below_at q (q == n) refl

module _ (link : Link) (tops after : FinMap nat_cmp ℕ) (e : after ≡ passed link tops) where
  pub passed_on : link.above ≡ None → (q : ℕ) → get after q ≡ cond (q == link.next) link.below (get tops q)
  passed_on none q = ap (λ m. get m q) (e ∙ ap (λ o. passed_by o link tops) none) ∙ put-at tops link.next link.below q

  pub not_passed : (a : ℕ) → link.above ≡ Some a → (q : ℕ) → get after q ≡ get tops q
  not_passed a some q = ap (λ m. get m q) (e ∙ ap (λ o. passed_by o link tops) some)
