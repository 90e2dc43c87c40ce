-- What the changes of a table make of the operations in flight, of those that are resolved, and of the joins.
use Rattle.std.proofs.Common.{◌≡◌, ℕ, ◌+◌, ◌≤◌, ◌||◌, true, false, cond, List, [], Option, Some, None, is_some, refl, sym, ap, ◌∙◌, subst, T}
use Rattle.std.specs.Option.{option_and_then}
use Rattle.std.specs.Ordering.{nat_cmp}
use Rattle.std.specs.FinMap.{FinMap, get, insert, remove, len, empty}
use Rattle.rent_table.specs.declared.ops.Flight.{Flight}
use Rattle.rent_table.specs.declared.ops.OpDone.{OpDone}
use Rattle.rent_table.specs.declared.ops.Lifecycle.{Lifecycle}
use Rattle.rent_table.specs.declared.ops.Lifecycle.TheVariants.{InFlight, Done}
use Rattle.rent_table.specs.Kept.{flight_of, done_of, joins_of, ops_of}
use Rattle.rent_table.specs.Lists.{with_list}
use Rattle.rent_table.specs.Ops.{no_ops, flight_at, done_at, knows, AreApart, AreJoinsOfFlights}
use Rattle.rent_table.proofs.Picks.{get-part, part-insert, part-remove, part-empty, part_few, nothing_out, put_same, len-taken, len-added, len-above, len-changed}

abbrev pub Table : Type 0
Table = FinMap nat_cmp Lifecycle

pub flight-at : (m : Table) (n : ℕ) → flight_at (ops_of m) n ≡ option_and_then flight_of (get m n)
flight-at m n = get-part flight_of m n

pub done-at : (m : Table) (n : ℕ) → done_at (ops_of m) n ≡ option_and_then done_of (get m n)
done-at m n = get-part done_of m n

pub joins-at : (m : Table) (n : ℕ) → get (ops_of m).joins n ≡ option_and_then joins_of (get m n)
joins-at m n = get-part joins_of m n

one_of : (o : Option Lifecycle) → is_some o ≡ (is_some (option_and_then flight_of o) || is_some (option_and_then done_of o))
one_of None = refl
one_of (Some (InFlight flight joins)) = refl
one_of (Some (Done done)) = refl

pub knows-at : (m : Table) (n : ℕ) → is_some (get m n) ≡ knows (ops_of m) n
knows-at m n = one_of (get m n) ∙ ap (λ o. is_some o || is_some (option_and_then done_of (get m n))) (sym (flight-at m n)) ∙ ap (λ o. is_some (flight_at (ops_of m) n) || is_some o) (sym (done-at m n))

not_both : (o : Option Lifecycle) → is_some (option_and_then flight_of o) ≡ true → option_and_then done_of o ≡ None
not_both None is = refl
not_both (Some (InFlight flight joins)) is = refl
not_both (Some (Done done)) is = absurd (subst T (sym is) tt)

pub apart-of : (m : Table) → AreApart (ops_of m)
apart-of m = λ n is. done-at m n ∙ not_both (get m n) (ap is_some (sym (flight-at m n)) ∙ is)

no_joins : (o : Option Lifecycle) → option_and_then flight_of o ≡ None → option_and_then joins_of o ≡ None
no_joins None none = refl
no_joins (Some (InFlight flight joins)) none = absurd (subst T (ap is_some none) tt)
no_joins (Some (Done done)) none = refl

pub joins-of-flights : (m : Table) → AreJoinsOfFlights (ops_of m)
joins-of-flights m = λ n none. joins-at m n ∙ no_joins (get m n) (sym (flight-at m n) ∙ none)

pub ops-empty : (m : Table) → m ≡ empty → ops_of m ≡ no_ops
ops-empty m e = ap ops_of e ∙ (λ i. record { in_flight = part-empty flight_of i; done = part-empty done_of i; joins = part-empty joins_of i })

pub few : (m : Table) → len (ops_of m).in_flight ≤ len m
few m = part_few flight_of m

none_known : (o : Option Lifecycle) → is_some o ≡ false → (option_and_then flight_of o ≡ None) × (option_and_then done_of o ≡ None)
none_known None e = (refl, refl)
none_known (Some x) e = absurd (subst T e tt)

is_none : {X : Type 0} (o : Option X) → is_some o ≡ false → o ≡ None
is_none None e = refl
is_none (Some x) e = absurd (subst T e tt)

pub absent : (m : Table) (n : ℕ) → knows (ops_of m) n ≡ false → get m n ≡ None
absent m n e = is_none (get m n) (knows-at m n ∙ e)

-- an operation is put in flight, joined to no handle
module _ (m : Table) (n : ℕ) (flight : Flight) (joins : List ℕ) (bare : joins ≡ []) (unknown : knows (ops_of m) n ≡ false) where
  pub ops-started : ops_of (insert m n (InFlight flight joins)) ≡ record (ops_of m) { in_flight = insert (ops_of m).in_flight n flight }
  ops-started = λ i. record {
    in_flight = part-insert flight_of m n (InFlight flight joins) i;
    done = (part-insert done_of m n (InFlight flight joins) ∙ sym (nothing_out (ops_of m).done n (done-at m n ∙ ap (option_and_then done_of) (absent m n unknown)))) i;
    joins = (part-insert joins_of m n (InFlight flight joins) ∙ ap (λ hs. with_list n hs (ops_of m).joins) bare ∙ sym (nothing_out (ops_of m).joins n (joins-at m n ∙ ap (option_and_then joins_of) (absent m n unknown)))) i;
  }

  pub len-started : len (ops_of (insert m n (InFlight flight joins))).in_flight ≡ len (ops_of m).in_flight + 1
  len-started = ap len (part-insert flight_of m n (InFlight flight joins)) ∙ len-added (ops_of m).in_flight n flight (ap is_some (flight-at m n ∙ ap (option_and_then flight_of) (absent m n unknown)))

known_in_flight : (o : Option Lifecycle) → is_some (option_and_then flight_of o) ≡ true → is_some o ≡ true
known_in_flight None e = e
known_in_flight (Some x) e = refl

-- what is in flight is resolved
module _ (m : Table) (n : ℕ) (here : is_some (flight_at (ops_of m) n) ≡ true) where
  pub stands : is_some (get m n) ≡ true
  stands = known_in_flight (get m n) (ap is_some (sym (flight-at m n)) ∙ here)

  pub some_in_flight : 1 ≤ len (ops_of m).in_flight
  some_in_flight = len-above (ops_of m).in_flight n here

  pub ops-finished : (outcome : OpDone) → ops_of (insert m n (Done outcome)) ≡ record { in_flight = remove (ops_of m).in_flight n; done = insert (ops_of m).done n outcome; joins = remove (ops_of m).joins n }
  ops-finished outcome = λ i. record { in_flight = part-insert flight_of m n (Done outcome) i; done = part-insert done_of m n (Done outcome) i; joins = part-insert joins_of m n (Done outcome) i }

  pub len-finished : (outcome : OpDone) → len (ops_of (insert m n (Done outcome))).in_flight + 1 ≡ len (ops_of m).in_flight
  len-finished outcome = ap (λ x. len x + 1) (part-insert flight_of m n (Done outcome)) ∙ len-taken (ops_of m).in_flight n here

  pub ops-discarded : ops_of (remove m n) ≡ record { in_flight = remove (ops_of m).in_flight n; done = (ops_of m).done; joins = remove (ops_of m).joins n }
  ops-discarded = λ i. record {
    in_flight = part-remove flight_of m n i;
    done = (part-remove done_of m n ∙ sym (nothing_out (ops_of m).done n (apart-of m n here))) i;
    joins = part-remove joins_of m n i;
  }

  pub len-discarded : len (ops_of (remove m n)).in_flight + 1 ≡ len (ops_of m).in_flight
  len-discarded = ap (λ x. len x + 1) (part-remove flight_of m n) ∙ len-taken (ops_of m).in_flight n here

  -- another flight stands in its place, with these joins
  pub ops-put : (flight : Flight) (joins : List ℕ) → ops_of (insert m n (InFlight flight joins)) ≡ record (ops_of m) { in_flight = insert (ops_of m).in_flight n flight; joins = with_list n joins (ops_of m).joins }
  ops-put flight joins = λ i. record {
    in_flight = part-insert flight_of m n (InFlight flight joins) i;
    done = (part-insert done_of m n (InFlight flight joins) ∙ sym (nothing_out (ops_of m).done n (apart-of m n here))) i;
    joins = part-insert joins_of m n (InFlight flight joins) i;
  }

  pub len-put : (flight : Flight) (joins : List ℕ) → len (ops_of (insert m n (InFlight flight joins))).in_flight ≡ len (ops_of m).in_flight
  len-put flight joins = ap len (part-insert flight_of m n (InFlight flight joins)) ∙ len-changed (ops_of m).in_flight n flight here

-- the joins of what is in flight are taken out
module _ (m after : Table) (n : ℕ) (flight : Flight) (joins : List ℕ) (here : flight_at (ops_of m) n ≡ Some flight) (bare : joins ≡ []) (put_in : after ≡ cond (is_some (get m n)) (insert m n (InFlight flight joins)) m) where
  is_put : after ≡ insert m n (InFlight flight joins)
  is_put = put_in ∙ ap (λ b. cond b (insert m n (InFlight flight joins)) m) (stands m n (ap is_some here))

  pub ops-bare : ops_of after ≡ record (ops_of m) { joins = remove (ops_of m).joins n }
  ops-bare = ap ops_of is_put ∙ ops-put m n (ap is_some here) flight joins ∙ (λ i. record (ops_of m) { in_flight = put_same (ops_of m).in_flight n (Some flight) here i; joins = with_list n (bare i) (ops_of m).joins })

  pub len-bare : len (ops_of after).in_flight ≡ len (ops_of m).in_flight
  len-bare = ap (λ o. len o.in_flight) ops-bare

-- what isn't in flight is taken out
module _ (m : Table) (n : ℕ) (landed : flight_at (ops_of m) n ≡ None) where
  pub ops-taken : ops_of (remove m n) ≡ record (ops_of m) { done = remove (ops_of m).done n }
  ops-taken = λ i. record {
    in_flight = (part-remove flight_of m n ∙ sym (nothing_out (ops_of m).in_flight n landed)) i;
    done = part-remove done_of m n i;
    joins = (part-remove joins_of m n ∙ sym (nothing_out (ops_of m).joins n (joins-of-flights m n landed))) i;
  }

  pub len-left : len (ops_of (remove m n)).in_flight ≡ len (ops_of m).in_flight
  len-left = ap len (part-remove flight_of m n ∙ sym (nothing_out (ops_of m).in_flight n landed))

-- What a place is known to hold, by what the table has there.
pub in_flight_there : (m : Table) (n : ℕ) (flight : Flight) (joins : List ℕ) → get m n ≡ Some (InFlight flight joins) → Some flight ≡ flight_at (ops_of m) n
in_flight_there m n flight joins e = sym (flight-at m n ∙ ap (option_and_then flight_of) e)

pub done_there : (m : Table) (n : ℕ) (done : OpDone) → get m n ≡ Some (Done done) → None ≡ flight_at (ops_of m) n
done_there m n done e = sym (flight-at m n ∙ ap (option_and_then flight_of) e)

pub nothing_there : (m : Table) (n : ℕ) → get m n ≡ None → None ≡ flight_at (ops_of m) n
nothing_there m n e = sym (flight-at m n ∙ ap (option_and_then flight_of) e)
