-- What quiet ends make of the operations, and that they reach exactly what hangs on the number.
use Rattle.std.proofs.Common.{◌≡◌, ℕ, zero, suc, ◌+◌, ◌==◌, ◌||◌, ◌&&◌, Bool, true, false, cond, List, [], ◌∷◌, ◌++◌, length, Option, Some, None, is_some, unwrap_or, refl, sym, ap, ◌∙◌, subst, T, arith, ◌⊎◌, inl, inr, eqb-true, eq-eqb}
use Rattle.std.specs.Ordering.{nat_cmp}
use Rattle.std.specs.Cmp.{unsigned_tied}
use Rattle.std.specs.FinMap.{FinMap, find, get, insert, len, entries, get-entries}
use Rattle.rent_table.proofs.Picks.{put_at, out_at, same_all, len-taken, nothing_out}
use Rattle.rent_table.specs.declared.ops.Flight.{Flight}
use Rattle.rent_table.specs.declared.ops.OpDone.{OpDone}
use Rattle.rent_table.specs.Ops.{Ops, flight_at, done_at, next_by, next_at, quiet_outcome, quietly_resolved_by, quietly_resolved, all_quietly_resolved, hangs_by, hangs, numbers_where, hanging, with_hanging_resolved}
use Rattle.rent_table.specs.Lists.{has}
use Rattle.rent_table.specs.QuietEnds.{is_resolved, QuietlyEnding}
use Rattle.rent_table.specs.Laws.{OnlyWhatHangs, FlightsAfter, OutcomesAfter, JoinsAfter}

pub both : (b : Bool) → (b ≡ true) ⊎ (b ≡ false)
both true = inl refl
both false = inr refl

clash : (b : Bool) → b ≡ true → b ≡ false → ⊥
clash b t f = subst T (sym t ∙ f) tt

pub no_Some : {A : Type 0} (x : A) → None ≡ Some x → ⊥
no_Some x e = subst T (sym (ap is_some e)) tt

pub either : (a b : Bool) → (a || b) ≡ true → (a ≡ true) ⊎ (b ≡ true)
either true b e = inl refl
either false b e = inr e

pub first : (a b : Bool) → a ≡ true → (a || b) ≡ true
first a b e = ap (λ x. x || b) e

pub second : (a b : Bool) → b ≡ true → (a || b) ≡ true
second true b e = refl
second false b e = e

same_bool : (a b : Bool) → (a ≡ true → b ≡ true) → (b ≡ true → a ≡ true) → a ≡ b
same_bool true b f g = sym (f refl)
same_bool false true f g = g refl
same_bool false false f g = refl

-- one number is resolved quietly

told_flight_by : (o : Option Flight) (n : ℕ) (ops : Ops) (q : ℕ) → flight_at ops n ≡ o → flight_at (quietly_resolved_by o n ops) q ≡ cond (q == n) None (flight_at ops q)
told_flight_by None n ops q e = ap (λ m. get m q) (nothing_out ops.in_flight n e) ∙ out_at ops.in_flight n q
told_flight_by (Some f) n ops q e = out_at ops.in_flight n q

pub told_flight : (n : ℕ) (ops : Ops) (q : ℕ) → flight_at (quietly_resolved n ops) q ≡ cond (q == n) None (flight_at ops q)
told_flight n ops q = told_flight_by (flight_at ops n) n ops q refl

-- what a quiet end leaves as the outcome of a number
abbrev pub done_told : Option Flight → Option OpDone → Option OpDone
done_told None d = d
done_told (Some f) d = cond f.forgotten d (Some quiet_outcome)

pub done_if : (forgotten : Bool) (m : FinMap nat_cmp OpDone) (n q : ℕ) (outcome : OpDone) (b : Bool) → (q == n) ≡ b → get (cond forgotten m (insert m n outcome)) q ≡ cond b (cond forgotten (get m q) (Some outcome)) (get m q)
done_if true m n q outcome true e = refl
done_if true m n q outcome false e = refl
done_if false m n q outcome b e = put_at m n outcome q ∙ ap (λ x. cond x (Some outcome) (get m q)) e

told_done_by : (o : Option Flight) (n : ℕ) (ops : Ops) (q : ℕ) (b : Bool) → flight_at ops n ≡ o → (q == n) ≡ b → done_at (quietly_resolved_by o n ops) q ≡ cond b (done_told (flight_at ops q) (done_at ops q)) (done_at ops q)
told_done_by None n ops q true e same = ap (λ f. done_told f (done_at ops q)) (sym (ap (flight_at ops) (eqb-true q n same) ∙ e))
told_done_by None n ops q false e same = refl
told_done_by (Some f) n ops q true e same = done_if f.forgotten ops.done n q quiet_outcome true same ∙ ap (λ x. done_told x (done_at ops q)) (sym (ap (flight_at ops) (eqb-true q n same) ∙ e))
told_done_by (Some f) n ops q false e same = done_if f.forgotten ops.done n q quiet_outcome false same

told_done : (n : ℕ) (ops : Ops) (q : ℕ) → done_at (quietly_resolved n ops) q ≡ cond (q == n) (done_told (flight_at ops q) (done_at ops q)) (done_at ops q)
told_done n ops q = told_done_by (flight_at ops n) n ops q (q == n) refl refl

-- all numbers of a list are

twice : {A : Type 0} (a b : Bool) (x : Option A) → cond a None (cond b None x) ≡ cond (a || b) None x
twice true b x = refl
twice false b x = refl

pub all_flight : (ns : List ℕ) (ops : Ops) (q : ℕ) → flight_at (all_quietly_resolved ns ops) q ≡ cond (has q ns) None (flight_at ops q)
all_flight [] ops q = refl
all_flight (n ∷ ns) ops q = told_flight n (all_quietly_resolved ns ops) q ∙ ap (cond (q == n) None) (all_flight ns ops q) ∙ twice (q == n) (has q ns) (flight_at ops q)

told_twice : (a b : Bool) (f : Option Flight) (d : Option OpDone) → cond a (done_told (cond b None f) (cond b (done_told f d) d)) (cond b (done_told f d) d) ≡ cond (a || b) (done_told f d) d
told_twice true true f d = refl
told_twice true false f d = refl
told_twice false b f d = refl

pub all_done : (ns : List ℕ) (ops : Ops) (q : ℕ) → done_at (all_quietly_resolved ns ops) q ≡ cond (has q ns) (done_told (flight_at ops q) (done_at ops q)) (done_at ops q)
all_done [] ops q = refl
all_done (n ∷ ns) ops q =
    told_done n (all_quietly_resolved ns ops) q
    ∙ ap (λ f. cond (q == n) (done_told f (done_at (all_quietly_resolved ns ops) q)) (done_at (all_quietly_resolved ns ops) q)) (all_flight ns ops q)
    ∙ ap (λ d. cond (q == n) (done_told (cond (has q ns) None (flight_at ops q)) d) d) (all_done ns ops q)
    ∙ told_twice (q == n) (has q ns) (flight_at ops q) (done_at ops q)

-- what a quiet end leaves as the joins of a number
abbrev joins_told : Option Flight → Option (List ℕ) → Option (List ℕ)
joins_told None joins = joins
joins_told (Some f) joins = None

told_joins_by : (o : Option Flight) (n : ℕ) (ops : Ops) (q : ℕ) (b : Bool) → flight_at ops n ≡ o → (q == n) ≡ b → get (quietly_resolved_by o n ops).joins q ≡ cond b (joins_told (flight_at ops q) (get ops.joins q)) (get ops.joins q)
told_joins_by None n ops q true e same = ap (λ f. joins_told f (get ops.joins q)) (sym (ap (flight_at ops) (eqb-true q n same) ∙ e))
told_joins_by None n ops q false e same = refl
told_joins_by (Some f) n ops q true e same = out_at ops.joins n q ∙ ap (λ x. cond x None (get ops.joins q)) same ∙ ap (λ x. joins_told x (get ops.joins q)) (sym (ap (flight_at ops) (eqb-true q n same) ∙ e))
told_joins_by (Some f) n ops q false e same = out_at ops.joins n q ∙ ap (λ x. cond x None (get ops.joins q)) same

told_joins : (n : ℕ) (ops : Ops) (q : ℕ) → get (quietly_resolved n ops).joins q ≡ cond (q == n) (joins_told (flight_at ops q) (get ops.joins q)) (get ops.joins q)
told_joins n ops q = told_joins_by (flight_at ops n) n ops q (q == n) refl refl

joins_twice : (a b : Bool) (f : Option Flight) (d : Option (List ℕ)) → cond a (joins_told (cond b None f) (cond b (joins_told f d) d)) (cond b (joins_told f d) d) ≡ cond (a || b) (joins_told f d) d
joins_twice true true f d = refl
joins_twice true false f d = refl
joins_twice false b f d = refl

all_joins : (ns : List ℕ) (ops : Ops) (q : ℕ) → get (all_quietly_resolved ns ops).joins q ≡ cond (has q ns) (joins_told (flight_at ops q) (get ops.joins q)) (get ops.joins q)
all_joins [] ops q = refl
all_joins (n ∷ ns) ops q =
    told_joins n (all_quietly_resolved ns ops) q
    ∙ ap (λ f. cond (q == n) (joins_told f (get (all_quietly_resolved ns ops).joins q)) (get (all_quietly_resolved ns ops).joins q)) (all_flight ns ops q)
    ∙ ap (λ d. cond (q == n) (joins_told (cond (has q ns) None (flight_at ops q)) d) d) (all_joins ns ops q)
    ∙ joins_twice (q == n) (has q ns) (flight_at ops q) (get ops.joins q)

-- lists with the same numbers come to the same
same_told : (ns ms : List ℕ) (ops : Ops) → ((q : ℕ) → has q ns ≡ has q ms) → all_quietly_resolved ns ops ≡ all_quietly_resolved ms ops
same_told ns ms ops h = λ i. record {
  in_flight = same_all (all_quietly_resolved ms ops).in_flight (all_quietly_resolved ns ops).in_flight (λ q. all_flight ns ops q ∙ ap (λ b. cond b None (flight_at ops q)) (h q) ∙ sym (all_flight ms ops q)) i;
  done = same_all (all_quietly_resolved ms ops).done (all_quietly_resolved ns ops).done (λ q. all_done ns ops q ∙ ap (λ b. cond b (done_told (flight_at ops q) (done_at ops q)) (done_at ops q)) (h q) ∙ sym (all_done ms ops q)) i;
  joins = same_all (all_quietly_resolved ms ops).joins (all_quietly_resolved ns ops).joins (λ q. all_joins ns ops q ∙ ap (λ b. cond b (joins_told (flight_at ops q) (get ops.joins q)) (get ops.joins q)) (h q) ∙ sym (all_joins ms ops q)) i;
}

-- which numbers hang on u

abbrev has_key : ℕ → List (ℕ × Flight) → Bool
has_key q es = is_some (find nat_cmp q es)

none_there : (b : Bool) → false ≡ (b && false)
none_there true = refl
none_there false = refl

with_true : (b : Bool) → (b && true) ≡ b
with_true true = refl
with_true false = refl

one_those : (p : ℕ → Bool) (e : ℕ × Flight) (es : List (ℕ × Flight)) (q : ℕ) (same picks : Bool) → (q == e.0) ≡ same → p e.0 ≡ picks → has q (numbers_where p es) ≡ (p q && has_key q es)
    → has q (cond picks (e.0 ∷ numbers_where p es) (numbers_where p es)) ≡ (p q && is_some (cond same (Some e.1) (find nat_cmp q es)))
one_those p e es q true true s k h = first (q == e.0) (has q (numbers_where p es)) s ∙ sym (with_true (p q) ∙ ap p (eqb-true q e.0 s) ∙ k)
one_those p e es q true false s k h =
    let nope : p q ≡ false = ap p (eqb-true q e.0 s) ∙ k in
    h ∙ ap (λ b. b && has_key q es) nope ∙ sym (ap (λ b. b && true) nope)
one_those p e es q false true s k h = ap (λ b. b || has q (numbers_where p es)) s ∙ h
one_those p e es q false false s k h = h

those_at : (p : ℕ → Bool) (es : List (ℕ × Flight)) (q : ℕ) → has q (numbers_where p es) ≡ (p q && has_key q es)
those_at p [] q = none_there (p q)
those_at p (e ∷ es) q = one_those p e es q (q == e.0) (p e.0) refl refl (those_at p es q) ∙ ap (λ b. p q && is_some (cond b (Some e.1) (find nat_cmp q es))) (sym (unsigned_tied q e.0))

further : (f g : ℕ → Bool) (u : ℕ) (o : Option ℕ) → ((m : ℕ) → f m ≡ true → g m ≡ true) → hangs_by f u o ≡ true → hangs_by g u o ≡ true
further f g u None h e = absurd (subst T (sym e) tt)
further f g u (Some m) h e = elim (either (m == u) (f m) e) [ inl a ↦ first _ _ a | inr b ↦ second _ _ (h m b) ]

longer : (k : ℕ) (ops : Ops) (u n : ℕ) → hangs k ops u n ≡ true → hangs (suc k) ops u n ≡ true
longer zero ops u n e = absurd (subst T (sym e) tt)
longer (suc k) ops u n e = further (hangs k ops u) (hangs (suc k) ops u) u (next_at ops n) (λ m. longer k ops u m) e

much_longer : (j k : ℕ) (ops : Ops) (u n : ℕ) → hangs k ops u n ≡ true → hangs (j + k) ops u n ≡ true
much_longer zero k ops u n e = let same : zero + k ≡ k = omega arith in subst (λ x. hangs x ops u n ≡ true) (sym same) e
much_longer (suc j) k ops u n e = let same : suc j + k ≡ suc (j + k) = omega arith in subst (λ x. hangs x ops u n ≡ true) (sym same) (longer (j + k) ops u n (much_longer j k ops u n e))

in_flight_by : (f : ℕ → Bool) (u : ℕ) (o : Option Flight) → hangs_by f u (next_by o) ≡ true → is_some o ≡ true
in_flight_by f u None e = e
in_flight_by f u (Some flight) e = refl

pub hangs_in_flight : (k : ℕ) (ops : Ops) (u n : ℕ) → hangs k ops u n ≡ true → is_some (flight_at ops n) ≡ true
hangs_in_flight zero ops u n e = absurd (subst T (sym e) tt)
hangs_in_flight (suc k) ops u n e = in_flight_by (hangs k ops u) u (flight_at ops n) e

and_both : (a b : Bool) → (a ≡ true → b ≡ true) → (a && b) ≡ a
and_both true b h = h refl
and_both false b h = refl

hanging_at : (ops : Ops) (u q : ℕ) → has q (hanging ops u) ≡ hangs (len ops.in_flight) ops u q
hanging_at ops u q =
    those_at (hangs (len ops.in_flight) ops u) (entries ops.in_flight) q
    ∙ ap (λ o. hangs (len ops.in_flight) ops u q && is_some o) (sym (get-entries ops.in_flight q))
    ∙ and_both _ _ (hangs_in_flight (len ops.in_flight) ops u q)

-- the steps of the quiet ends

pub begins : (u : ℕ) (start : Ops) → QuietlyEnding u start start (u ∷ [])
begins u start = record {
  gone = [];
  quietly_resolved = refl;
  count = omega arith;
  hang = λ n e. absurd (subst T (sym e) tt);
  listed = λ n e. e;
  open_ones = λ n m at e. e;
}

module _ (u : ℕ) (start now : Ops) where
  pub same_work : (v w : List ℕ) → ((n : ℕ) → has n v ≡ has n w) → QuietlyEnding u start now v → QuietlyEnding u start now w
  same_work v w h t = record {
    gone = t.gone;
    quietly_resolved = t.quietly_resolved;
    count = t.count;
    hang = t.hang;
    listed = λ n e. t.listed n (h n ∙ e);
    open_ones = λ n m at e. sym (h m) ∙ t.open_ones n m at e;
  }

  -- none waits for the first any more
  pub drained : (w : ℕ) (work : List ℕ) → QuietlyEnding u start now (w ∷ work) → ((n : ℕ) → next_at now n ≡ Some w → ⊥) → QuietlyEnding u start now work
  drained w work t none = record {
    gone = t.gone;
    quietly_resolved = t.quietly_resolved;
    count = t.count;
    hang = t.hang;
    listed = λ n e. t.listed n (second _ _ e);
    open_ones = λ n m at e. elim (either (m == w) (has m work) (t.open_ones n m at e)) [ inl same ↦ absurd (none n (at ∙ ap Some (eqb-true m w same))) | inr b ↦ b ];
  }

  over_more : (n : ℕ) (gone : List ℕ) (q : ℕ) → is_resolved u gone q ≡ true → is_resolved u (n ∷ gone) q ≡ true
  over_more n gone q e = elim (either (q == u) (has q gone) e) [ inl a ↦ first _ _ a | inr b ↦ second (q == u) _ (second (q == n) _ b) ]

  -- one that waits for the first is resolved quietly
  module _ (w n : ℕ) (work : List ℕ) (flight : Flight) (t : QuietlyEnding u start now (w ∷ work)) (at : flight_at now n ≡ Some flight) (waits : flight.next ≡ Some w) where
    was_at : flight_at now n ≡ cond (has n t.gone) None (flight_at start n)
    was_at = ap (λ o. flight_at o n) t.quietly_resolved ∙ all_flight t.gone start n

    from_start : (b : Bool) → flight_at now n ≡ cond b None (flight_at start n) → flight_at start n ≡ Some flight
    from_start true e = absurd (no_Some flight (sym e ∙ at))
    from_start false e = sym e ∙ at

    next_start : next_at start n ≡ Some w
    next_start = ap next_by (from_start (has n t.gone) was_at) ∙ waits

    new_hangs : hangs (suc (length t.gone)) start u n ≡ true
    new_hangs = ap (hangs_by (hangs (length t.gone) start u) u) next_start ∙ reached
      where
        reached : ((w == u) || hangs (length t.gone) start u w) ≡ true
        reached = elim (either (w == u) (has w t.gone) (t.listed w (first _ _ (eq-eqb w w refl)))) [ inl a ↦ first _ _ a | inr b ↦ second _ _ (t.hang w b) ]

    fewer : len (quietly_resolved n now).in_flight + 1 ≡ len now.in_flight
    fewer = ap (λ o. len (quietly_resolved_by o n now).in_flight + 1) at ∙ len-taken now.in_flight n (ap is_some at)

    still : (q m : ℕ) → next_at (quietly_resolved n now) q ≡ Some m → next_at now q ≡ Some m
    still q m e = left (q == n) (sym (ap next_by (told_flight n now q)) ∙ e)
      where
        left : (b : Bool) → next_by (cond b None (flight_at now q)) ≡ Some m → next_at now q ≡ Some m
        left true x = absurd (no_Some m x)
        left false x = x

    pub one_told : QuietlyEnding u start (quietly_resolved n now) (n ∷ (w ∷ work))
    one_told = record {
      gone = n ∷ t.gone;
      quietly_resolved = ap (quietly_resolved n) t.quietly_resolved;
      count = let c = t.count in let f = fewer in omega (arith, c, f);
      hang = λ q e. elim (either (q == n) (has q t.gone) e) [
        | inl a ↦ ap (hangs (suc (length t.gone)) start u) (eqb-true q n a) ∙ new_hangs
        | inr b ↦ longer (length t.gone) start u q (t.hang q b)
      ];
      listed = λ q e. elim (either (q == n) (has q (w ∷ work)) e) [
        | inl a ↦ second (q == u) _ (first _ _ a)
        | inr b ↦ over_more n t.gone q (t.listed q b)
      ];
      open_ones = λ q m next e. elim (either (m == u) ((m == n) || has m t.gone) e) [
        | inl a ↦ second (m == n) _ (t.open_ones q m (still q m next) (first _ _ a))
        | inr b ↦ elim (either (m == n) (has m t.gone) b) [
          | inl a ↦ first _ _ a
          | inr g ↦ second (m == n) _ (t.open_ones q m (still q m next) (second (m == u) _ g))
        ]
      ];
    }

  -- all that hangs on u is gone, where no work is left
  gone_by : (t : QuietlyEnding u start now []) (q : ℕ) (o : Option Flight) (b : Bool) → flight_at start q ≡ o → has q t.gone ≡ b → (m : ℕ) → next_by o ≡ Some m → is_resolved u t.gone m ≡ true → b ≡ true
  gone_by t q o true at e m next over = refl
  gone_by t q o false at e m next over =
      absurd (clash false (t.open_ones q m (ap (λ x. next_at x q) t.quietly_resolved ∙ ap next_by (all_flight t.gone start q ∙ ap (λ x. cond x None (flight_at start q)) e ∙ at) ∙ next) over) refl)

  gone_next : (t : QuietlyEnding u start now []) (k q : ℕ) (o : Option ℕ) → next_at start q ≡ o → ((m : ℕ) → hangs k start u m ≡ true → has m t.gone ≡ true) → hangs_by (hangs k start u) u o ≡ true → has q t.gone ≡ true
  gone_next t k q None next below h = absurd (subst T (sym h) tt)
  gone_next t k q (Some m) next below h = gone_by t q (flight_at start q) (has q t.gone) refl refl m next (elim (either (m == u) (hangs k start u m) h) [
    | inl a ↦ first _ _ a
    | inr b ↦ second (m == u) _ (below m b)
  ])

  all_gone : (t : QuietlyEnding u start now []) (k q : ℕ) → hangs k start u q ≡ true → has q t.gone ≡ true
  all_gone t zero q e = absurd (subst T (sym e) tt)
  all_gone t (suc k) q e = gone_next t k q (next_at start q) refl (λ m. all_gone t k m) e

  enough : (t : QuietlyEnding u start now []) (q : ℕ) → has q t.gone ≡ true → hangs (len start.in_flight) start u q ≡ true
  enough t q e =
      let c = t.count in
      let same : len now.in_flight + length t.gone ≡ len start.in_flight = omega (arith, c) in
      subst (λ k. hangs k start u q ≡ true) same (much_longer (len now.in_flight) (length t.gone) start u q (t.hang q e))

  pub finished : QuietlyEnding u start now [] → now ≡ with_hanging_resolved u start
  finished t = t.quietly_resolved ∙ same_told t.gone (hanging start u) start (λ q. same_bool _ _ (enough t q) (all_gone t (len start.in_flight) q) ∙ sym (hanging_at start u q))

-- the last of a list, put in front
pub has_last : (n : ℕ) (ms : List ℕ) (m : ℕ) → has n (ms ++ m ∷ []) ≡ has n (m ∷ ms)
has_last n [] m = refl
has_last n (k ∷ ms) m = ap (λ b. (n == k) || b) (has_last n ms m) ∙ swapped (n == k) (n == m) (has n ms)
  where
    swapped : (a b c : Bool) → (a || (b || c)) ≡ (b || (a || c))
    swapped true true c = refl
    swapped true false c = refl
    swapped false b c = refl

-- the same for the loops

flight_with : (o : Option Flight) (w : ℕ) → next_by o ≡ Some w → (f : Flight) × (o ≡ Some f) × (f.next ≡ Some w)
flight_with None w e = absurd (no_Some w e)
flight_with (Some f) w e = (f, refl, e)

pub fewer_told : (now : Ops) (n w : ℕ) → next_at now n ≡ Some w → len (quietly_resolved n now).in_flight + 1 ≡ len now.in_flight
fewer_told now n w e = let f = flight_with (flight_at now n) w e in ap (λ o. len (quietly_resolved_by o n now).in_flight + 1) f.1 ∙ len-taken now.in_flight n (ap is_some f.1)

swapped : (a b c : Bool) → (a || (b || c)) ≡ (b || (a || c))
swapped true true c = refl
swapped true false c = refl
swapped false b c = refl

pub told_last : (u : ℕ) (start now after' : Ops) (w n : ℕ) (work work' : List ℕ) → QuietlyEnding u start now (w ∷ work) → next_at now n ≡ Some w → after' ≡ quietly_resolved n now → work' ≡ work ++ n ∷ [] → QuietlyEnding u start after' (w ∷ work')
told_last u start now after' w n work work' t e is last =
    let f = flight_with (flight_at now n) w e in
    subst (λ o. QuietlyEnding u start o (w ∷ work')) (sym is)
    (same_work u start (quietly_resolved n now) (n ∷ (w ∷ work)) (w ∷ work') (λ q. swapped (q == n) (q == w) (has q work) ∙ ap (λ b. (q == w) || b) (sym (ap (has q) last ∙ has_last q work n)))
    (one_told u start now w n work f.0 t f.1 f.2))

pub first_work : (u : ℕ) (start now : Ops) (over : ℕ) (work rest : List ℕ) → QuietlyEnding u start now work → work ≡ rest ++ over ∷ [] → QuietlyEnding u start now (over ∷ rest)
first_work u start now over work rest t e = same_work u start now work (over ∷ rest) (λ q. ap (has q) e ∙ has_last q rest over) t

-- at the end none in flight waits for one that was resolved

not_over : (u : ℕ) (start now : Ops) (t : QuietlyEnding u start now []) (n m : ℕ) → next_at now n ≡ Some m → ((m == u) ≡ true) ⊎ (has m t.gone ≡ true) → ⊥
not_over u start now t n m next (inl e) = clash false (t.open_ones n m next (first _ _ e)) refl
not_over u start now t n m next (inr e) = clash false (t.open_ones n m next (second (m == u) _ e)) refl

to_false : (b : Bool) → (b ≡ true → ⊥) → b ≡ false
to_false true h = absurd (h refl)
to_false false h = refl

pub closed : (u : ℕ) (start now : Ops) → QuietlyEnding u start now [] → (n m : ℕ) → next_at now n ≡ Some m → (m ≡ u → ⊥) × (flight_at now m ≡ flight_at start m)
closed u start now t n m next = (
  λ e. not_over u start now t n m next (inl (eq-eqb m u e)),
  ap (λ o. flight_at o m) t.quietly_resolved ∙ all_flight t.gone start m ∙ ap (λ b. cond b None (flight_at start m)) (to_false (has m t.gone) (λ e. not_over u start now t n m next (inr e))),
)

-- nothing else hangs on u

least_by : (k : ℕ) (ops : Ops) (u n : ℕ) (o : Option ℕ) (p : ℕ → Bool) → next_at ops n ≡ o → ((q : ℕ) → next_at ops q ≡ Some u → p q ≡ true) → ((q m : ℕ) → next_at ops q ≡ Some m → p m ≡ true → p q ≡ true) → ((m : ℕ) → hangs k ops u m ≡ true → p m ≡ true) → hangs_by (hangs k ops u) u o ≡ true → p n ≡ true
least_by k ops u n None p next base step below e = absurd (subst T (sym e) tt)
least_by k ops u n (Some m) p next base step below e = elim (either (m == u) (hangs k ops u m) e) [
  | inl a ↦ base n (next ∙ ap Some (eqb-true m u a))
  | inr b ↦ step n m next (below m b)
]

least_in : (k : ℕ) (ops : Ops) (u n : ℕ) (p : ℕ → Bool) → ((q : ℕ) → next_at ops q ≡ Some u → p q ≡ true) → ((q m : ℕ) → next_at ops q ≡ Some m → p m ≡ true → p q ≡ true) → hangs k ops u n ≡ true → p n ≡ true
least_in zero ops u n p base step e = absurd (subst T (sym e) tt)
least_in (suc k) ops u n p base step e = least_by k ops u n (next_at ops n) p refl base step (λ m. least_in k ops u m p base step) e

pub only_what_hangs : OnlyWhatHangs
only_what_hangs ops u n p base step e = least_in (len ops.in_flight) ops u n p base step e

pub resolved_flights : FlightsAfter
resolved_flights u ops n = all_flight (hanging ops u) ops n ∙ ap (λ b. cond b None (flight_at ops n)) (hanging_at ops u n)

pub resolved_outcomes : OutcomesAfter
resolved_outcomes u ops n flight at = all_done (hanging ops u) ops n ∙ ap (λ b. cond b (done_told (flight_at ops n) (done_at ops n)) (done_at ops n)) (hanging_at ops u n) ∙ ap (λ o. cond (hangs (len ops.in_flight) ops u n) (done_told o (done_at ops n)) (done_at ops n)) at

joins_by : (b : Bool) (o : Option Flight) (d : Option (List ℕ)) → (b ≡ true → is_some o ≡ true) → unwrap_or (cond b (joins_told o d) d) [] ≡ cond b [] (unwrap_or d [])
joins_by true None d here = absurd (subst T (sym (here refl)) tt)
joins_by true (Some f) d here = refl
joins_by false o d here = refl

pub resolved_joins : JoinsAfter
resolved_joins u ops n =
    ap (λ d. unwrap_or d []) (all_joins (hanging ops u) ops n ∙ ap (λ b. cond b (joins_told (flight_at ops n) (get ops.joins n)) (get ops.joins n)) (hanging_at ops u n))
    ∙ joins_by (hangs (len ops.in_flight) ops u n) (flight_at ops n) (get ops.joins n) (hangs_in_flight (len ops.in_flight) ops u n)
