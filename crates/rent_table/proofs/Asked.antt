-- Who may be asked for, and that no steps are kept of others.
use Rattle.std.proofs.Common.{◌≡◌, ℕ, ◌==◌, ◌||◌, not, Bool, true, false, cond, List, [], ◌∷◌, drop, Option, Some, None, is_some, unwrap_or, refl, sym, ap, ◌∙◌, subst, T, eqb-true}
use Rattle.std.specs.Ordering.{nat_cmp}
use Rattle.std.specs.FinMap.{get, remove, empty, get-empty}
use Rattle.rent_table.specs.declared.ops.Flight.{Flight}
use Rattle.rent_table.specs.declared.ops.OpDone.{OpDone}
use Rattle.rent_table.specs.declared.ops.Step.{Step}
use Rattle.rent_table.specs.Lists.{if_any, list_at, with_list}
use Rattle.rent_table.specs.Ops.{Ops, flight_at, done_at, knows, started, resolved_as, resolved, forgotten_by, forgotten, is_asked_by, is_asked, quiet_outcome, quietly_resolved_by, all_quietly_resolved, hanging, AreApart}
use Rattle.rent_table.specs.Steps.{KeptSteps, keeps_by, keeps_steps, AreOfAsked}
use Rattle.rent_table.specs.Laws.{ResolvesAsked}
use Rattle.rent_table.proofs.Picks.{put_at, out_at, put-at}
use Rattle.rent_table.proofs.Endings.{done_if}

-- one number is resolved
module _ (flight : Flight) (n : ℕ) (outcome : OpDone) (ops : Ops) (at : flight_at ops n ≡ Some flight) (apart : AreApart ops) where
  flight_as : (q : ℕ) (b : Bool) → (q == n) ≡ b → flight_at (resolved_as flight n outcome ops) q ≡ cond b None (flight_at ops q)
  flight_as q b e = out_at ops.in_flight n q ∙ ap (λ x. cond x None (flight_at ops q)) e

  done_as : (q : ℕ) (b : Bool) → (q == n) ≡ b → done_at (resolved_as flight n outcome ops) q ≡ cond b (cond flight.forgotten (done_at ops q) (Some outcome)) (done_at ops q)
  done_as q b e = done_if flight.forgotten ops.done n q outcome b e

  unless_forgotten : (b : Bool) (d : Option OpDone) → d ≡ None → is_some (cond b d (Some outcome)) ≡ not b
  unless_forgotten true d none = ap is_some none
  unless_forgotten false d none = refl

  there : (q : ℕ) → (q == n) ≡ true → flight_at ops q ≡ Some flight
  there q e = ap (flight_at ops) (eqb-true q n e) ∙ at

  asked_by : (q : ℕ) (b : Bool) → (q == n) ≡ b → is_asked (resolved_as flight n outcome ops) q ≡ is_asked ops q
  asked_by q true e =
      ap (λ o. is_asked_by o (done_at (resolved_as flight n outcome ops) q)) (flight_as q true e) ∙ ap is_some (done_as q true e)
      ∙ unless_forgotten flight.forgotten (done_at ops q) (apart q (ap is_some (there q e)))
      ∙ sym (ap (λ o. is_asked_by o (done_at ops q)) (there q e))
  asked_by q false e = ap (λ o. is_asked_by o (done_at (resolved_as flight n outcome ops) q)) (flight_as q false e) ∙ ap (is_asked_by (flight_at ops q)) (done_as q false e)

  pub asked_as : (q : ℕ) → is_asked (resolved_as flight n outcome ops) q ≡ is_asked ops q
  asked_as q = asked_by q (q == n) refl

  apart_by : (q : ℕ) (b : Bool) → (q == n) ≡ b → is_some (flight_at (resolved_as flight n outcome ops) q) ≡ true → done_at (resolved_as flight n outcome ops) q ≡ None
  apart_by q true e is = absurd (subst T (sym is ∙ ap is_some (flight_as q true e)) tt)
  apart_by q false e is = done_as q false e ∙ apart q (sym (ap is_some (flight_as q false e)) ∙ is)

  pub apart_as : AreApart (resolved_as flight n outcome ops)
  apart_as = λ q is. apart_by q (q == n) refl is

-- and all that hang on it

quietly_apart_by : (o : Option Flight) (n : ℕ) (ops : Ops) → flight_at ops n ≡ o → AreApart ops → AreApart (quietly_resolved_by o n ops)
quietly_apart_by None n ops at apart = apart
quietly_apart_by (Some flight) n ops at apart = apart_as flight n quiet_outcome ops at apart

pub all_apart : (ns : List ℕ) (ops : Ops) → AreApart ops → AreApart (all_quietly_resolved ns ops)
all_apart [] ops apart = apart
all_apart (n ∷ ns) ops apart = let all = all_quietly_resolved ns ops in quietly_apart_by (flight_at all n) n all refl (all_apart ns ops apart)

quietly_asked_by : (o : Option Flight) (n : ℕ) (ops : Ops) → flight_at ops n ≡ o → AreApart ops → (q : ℕ) → is_asked (quietly_resolved_by o n ops) q ≡ is_asked ops q
quietly_asked_by None n ops at apart q = refl
quietly_asked_by (Some flight) n ops at apart q = asked_as flight n quiet_outcome ops at apart q

all_asked : (ns : List ℕ) (ops : Ops) → AreApart ops → (q : ℕ) → is_asked (all_quietly_resolved ns ops) q ≡ is_asked ops q
all_asked [] ops apart q = refl
all_asked (n ∷ ns) ops apart q = let all = all_quietly_resolved ns ops in quietly_asked_by (flight_at all n) n all refl (all_apart ns ops apart) q ∙ all_asked ns ops apart q

pub resolves_asked : ResolvesAsked
resolves_asked ops u flight outcome q apart at =
    let mid = resolved_as flight u outcome ops in
    all_asked (hanging mid u) mid (apart_as flight u outcome ops at apart) q ∙ asked_as flight u outcome ops at apart q

-- the kept steps

pub asked_empty : (ops : Ops) (steps : KeptSteps) → steps ≡ empty → AreOfAsked ops steps
asked_empty ops steps e n un = ap (λ m. get m n) e ∙ get-empty nat_cmp n

pub asked_resolved : (ops mid after : Ops) (steps : KeptSteps) (u : ℕ) (flight : Flight) (outcome : OpDone) → AreApart ops → flight_at ops u ≡ Some flight → after ≡ resolved flight u outcome ops → AreOfAsked ops steps → AreOfAsked after steps
asked_resolved ops mid after steps u flight outcome apart at e asked n un = asked n (sym (ap (λ o. is_asked o n) e ∙ resolves_asked ops u flight outcome n apart at) ∙ un)

none_known : (a : Option Flight) (d : Option OpDone) → (is_some a || is_some d) ≡ false → is_asked_by a d ≡ false
none_known None d e = e
none_known (Some f) d e = absurd (subst T e tt)

started_by : (ops : Ops) (n q : ℕ) (lent : Bool) (next : Option ℕ) (b : Bool) → (q == n) ≡ b → knows ops n ≡ false → is_asked (started n lent next ops) q ≡ false → is_asked ops q ≡ false
started_by ops n q lent next true e unknown un = ap (is_asked ops) (eqb-true q n e) ∙ none_known (flight_at ops n) (done_at ops n) unknown
started_by ops n q lent next false e unknown un =
    let f : Flight = record { lent = lent; forgotten = false; next = next } in
    sym (ap (λ o. is_asked_by o (done_at ops q)) (put_at ops.in_flight n f q ∙ ap (λ x. cond x (Some f) (flight_at ops q)) e)) ∙ un

pub asked_started : (ops after : Ops) (steps : KeptSteps) (n : ℕ) (lent : Bool) (next : Option ℕ) → knows ops n ≡ false → after ≡ started n lent next ops → AreOfAsked ops steps → AreOfAsked after steps
asked_started ops after steps n lent next unknown e asked q un = asked q (started_by ops n q lent next (q == n) refl unknown (sym (ap (λ o. is_asked o q) e) ∙ un))

pub none_of_unknown : (ops : Ops) (steps : KeptSteps) (n : ℕ) → AreOfAsked ops steps → knows ops n ≡ false → list_at steps n ≡ []
none_of_unknown ops steps n asked unknown = ap (λ o. unwrap_or o []) (asked n (none_known (flight_at ops n) (done_at ops n) unknown))

-- where nothing but one number changes, and its steps are dropped
dropped_by : (ops after : Ops) (steps : KeptSteps) (n q : ℕ) (b : Bool) → (q == n) ≡ b → ((q == n) ≡ false → is_asked after q ≡ is_asked ops q) → AreOfAsked ops steps → is_asked after q ≡ false → get (remove steps n) q ≡ None
dropped_by ops after steps n q true e same asked un = out_at steps n q ∙ ap (λ x. cond x None (get steps q)) e
dropped_by ops after steps n q false e same asked un = out_at steps n q ∙ ap (λ x. cond x None (get steps q)) e ∙ asked q (sym (same e) ∙ un)

pub asked_dropped : (ops after : Ops) (steps left : KeptSteps) (n : ℕ) → ((q : ℕ) → (q == n) ≡ false → is_asked after q ≡ is_asked ops q) → left ≡ remove steps n → AreOfAsked ops steps → AreOfAsked after left
asked_dropped ops after steps left n same e asked q un = ap (λ m. get m q) e ∙ dropped_by ops after steps n q (q == n) refl (same q) asked un

pub taken_same : (ops after : Ops) (n q : ℕ) → after ≡ record ops { done = remove ops.done n } → (q == n) ≡ false → is_asked after q ≡ is_asked ops q
taken_same ops after n q e other = ap (λ o. is_asked o q) e ∙ ap (is_asked_by (flight_at ops q)) (out_at ops.done n q ∙ ap (λ x. cond x None (done_at ops q)) other)

forgotten_same_by : (o : Option Flight) (ops : Ops) (n q : ℕ) → (q == n) ≡ false → is_asked (forgotten_by o n ops) q ≡ is_asked ops q
forgotten_same_by None ops n q other = ap (is_asked_by (flight_at ops q)) (out_at ops.done n q ∙ ap (λ x. cond x None (done_at ops q)) other)
forgotten_same_by (Some flight) ops n q other = let f : Flight = record flight { forgotten = true } in ap (λ o. is_asked_by o (done_at ops q)) (put_at ops.in_flight n f q ∙ ap (λ x. cond x (Some f) (flight_at ops q)) other)

pub forgotten_same : (ops after : Ops) (n q : ℕ) → after ≡ forgotten n ops → (q == n) ≡ false → is_asked after q ≡ is_asked ops q
forgotten_same ops after n q e other = ap (λ o. is_asked o q) e ∙ forgotten_same_by (flight_at ops n) ops n q other

-- a step is kept
keeps_asked : (o : Option Flight) (d : Option OpDone) → keeps_by o ≡ true → is_asked_by o d ≡ true
keeps_asked None d e = absurd (subst T (sym e) tt)
keeps_asked (Some flight) d e = e

kept_by : (ops : Ops) (steps : KeptSteps) (n q : ℕ) (o : Option (List Step)) (b : Bool) → (q == n) ≡ b → keeps_steps ops n ≡ true → AreOfAsked ops steps → is_asked ops q ≡ false → cond b o (get steps q) ≡ None
kept_by ops steps n q o true e keeps asked un = absurd (subst T (sym (keeps_asked (flight_at ops n) (done_at ops n) keeps) ∙ ap (is_asked ops) (sym (eqb-true q n e)) ∙ un) tt)
kept_by ops steps n q o false e keeps asked un = asked q un

pub asked_kept : (ops : Ops) (steps after : KeptSteps) (n : ℕ) (xs : List Step) → keeps_steps ops n ≡ true → after ≡ with_list n xs steps → AreOfAsked ops steps → AreOfAsked ops after
asked_kept ops steps after n xs keeps e asked q un = ap (λ m. get m q) e ∙ put-at steps n (if_any xs) q ∙ kept_by ops steps n q (if_any xs) (q == n) refl keeps asked un

-- one is taken out
next_by : (steps : KeptSteps) (n q : ℕ) (b : Bool) → (q == n) ≡ b → get steps q ≡ None → cond b (if_any (drop 1 (list_at steps n))) (get steps q) ≡ None
next_by steps n q true e none = ap (λ o. if_any (drop 1 (unwrap_or o []))) (sym (ap (get steps) (eqb-true q n e)) ∙ none)
next_by steps n q false e none = none

pub asked_next : (ops : Ops) (steps after : KeptSteps) (n : ℕ) → after ≡ with_list n (drop 1 (list_at steps n)) steps → AreOfAsked ops steps → AreOfAsked ops after
asked_next ops steps after n e asked q un = ap (λ m. get m q) e ∙ put-at steps n _ q ∙ next_by steps n q (q == n) refl (asked q un)
