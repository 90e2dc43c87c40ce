-- What comes of taking out the joins of an operation in flight and putting it back.
use Rattle.std.proofs.Common.{◌≡◌, ℕ, false, cond, List, [], ◌∷◌, Some, None, is_some, unwrap_or, refl, ap, sym, ◌∙◌}
use Rattle.std.specs.FinMap.{get, insert, remove}
use Rattle.std.specs.Option.{option_and_then}
use Rattle.rent_table.specs.declared.ops.Flight.{Flight}
use Rattle.rent_table.specs.declared.ops.OpDone.{OpDone}
use Rattle.rent_table.specs.declared.ops.Lifecycle.TheVariants.{InFlight, Done}
use Rattle.rent_table.specs.Kept.{joins_of, ops_of}
use Rattle.rent_table.specs.Lists.{has, if_any, with_list}
use Rattle.rent_table.specs.Ops.{Ops, flight_at, joined_to}
use Rattle.rent_table.specs.Joins.{with_handle, joined, is_joined}
use Rattle.rent_table.proofs.Parts.{Table, joins-at}
use Rattle.rent_table.proofs.Picks.{put_same, put_twice}

list_is : (hs : List ℕ) → unwrap_or (if_any hs) [] ≡ hs
list_is [] = refl
list_is (h ∷ hs) = refl

module _ (ops mid after : Ops) (n : ℕ) (flight : Flight) (joins left : List ℕ) (at : get ops.joins n ≡ if_any joins) (out : mid ≡ record ops { joins = remove ops.joins n }) (back : after ≡ record mid { in_flight = insert mid.in_flight n flight; joins = with_list n left mid.joins }) where
  pub were_joined : joined_to ops n ≡ joins
  were_joined = ap (λ o. unwrap_or o []) at ∙ list_is joins

  put_back : after ≡ record ops { in_flight = insert ops.in_flight n flight; joins = with_list n left ops.joins }
  put_back = back ∙ ap {A = Ops} (λ o. record o { in_flight = insert o.in_flight n flight; joins = with_list n left o.joins }) out ∙ (λ i. record ops { in_flight = insert ops.in_flight n flight; joins = put_twice n (if_any left) None ops.joins i })

  -- the joins are the same as before
  pub joins_kept : left ≡ joins → after ≡ record ops { in_flight = insert ops.in_flight n flight }
  joins_kept same = put_back ∙ (λ i. record ops { in_flight = insert ops.in_flight n flight; joins = (ap (λ hs. with_list n hs ops.joins) same ∙ put_same ops.joins n (if_any joins) at) i })

  module _ (here : flight_at ops n ≡ Some flight) where
    pub all_kept : left ≡ joins → after ≡ ops
    all_kept same = joins_kept same ∙ (λ i. record ops { in_flight = put_same ops.in_flight n (Some flight) here i })

    -- a handle is added
    pub one_joined : (h : ℕ) → left ≡ with_handle h joins → after ≡ joined h n ops
    one_joined h more =
        put_back ∙ (λ i. record ops { in_flight = put_same ops.in_flight n (Some flight) here i; joins = with_list n ((more ∙ ap (with_handle h) (sym were_joined)) i) ops.joins })
        ∙ ap (λ o. cond (is_some o) (record ops { joins = with_list n (with_handle h (joined_to ops n)) ops.joins }) ops) (sym here)

-- what the table has under a number says to which handles it is joined
module _ (m : Table) (n h : ℕ) where
  pub joined_in : (flight : Flight) (joins : List ℕ) → get m n ≡ Some (InFlight flight joins) → has h joins ≡ is_joined (ops_of m) h n
  joined_in flight joins e = sym (ap (λ o. has h (unwrap_or o [])) (joins-at m n ∙ ap (option_and_then joins_of) e) ∙ ap (has h) (list_is joins))

  pub done_joined : (done : OpDone) → get m n ≡ Some (Done done) → false ≡ is_joined (ops_of m) h n
  done_joined done e = sym (ap (λ o. has h (unwrap_or o [])) (joins-at m n ∙ ap (option_and_then joins_of) e))

  pub none_joined : get m n ≡ None → false ≡ is_joined (ops_of m) h n
  none_joined e = sym (ap (λ o. has h (unwrap_or o [])) (joins-at m n ∙ ap (option_and_then joins_of) e))
