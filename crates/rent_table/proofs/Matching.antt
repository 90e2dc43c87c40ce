-- That who waits for whom stays what the operations in flight say.
use Rattle.std.proofs.Common.{◌≡◌, ℕ, ◌+◌, ◌==◌, ◌||◌, Bool, true, false, cond, Option, Some, None, is_some, refl, sym, ap, ◌∙◌, subst, T, eqb-true, ne_eqb}
use Rattle.std.specs.Ordering.{nat_cmp}
use Rattle.std.specs.FinMap.{FinMap, get, insert, remove, empty, get-empty, len}
use Rattle.rent_table.proofs.Picks.{put_at, out_at, len-added, len-taken, len-changed}
use Rattle.rent_table.specs.declared.ops.Flight.{Flight}
use Rattle.rent_table.specs.declared.ops.OpDone.{OpDone}
use Rattle.rent_table.specs.Ops.{Ops, no_ops, flight_at, knows, started, resolved_as, forgotten_by, forgotten, next_by, next_at}
use Rattle.rent_table.specs.QuietEnds.{AreMatched}

abbrev Nexts : Type 0
Nexts = FinMap nat_cmp ℕ

pub matched_empty : (ops : Ops) (next : Nexts) → ops ≡ no_ops → next ≡ empty → AreMatched ops next
matched_empty ops next e m = λ q. ap (λ x. get x q) m ∙ get-empty nat_cmp q ∙ sym (ap next_by (ap (λ o. flight_at o q) e ∙ get-empty nat_cmp q))

out_by : (b : Bool) (x : Option ℕ) (o : Option Flight) → x ≡ next_by o → cond b None x ≡ next_by (cond b None o)
out_by true x o e = refl
out_by false x o e = e

pub matched_out : (ops after : Ops) (next left : Nexts) (n : ℕ) (flight : Flight) (outcome : OpDone) → AreMatched ops next → after ≡ resolved_as flight n outcome ops → left ≡ remove next n → AreMatched after left
matched_out ops after next left n flight outcome matched e m = λ q.
    ap (λ x. get x q) m ∙ out_at next n q ∙ out_by (q == n) (get next q) (flight_at ops q) (matched q)
    ∙ sym (ap next_by (ap (λ o. flight_at o q) e ∙ out_at ops.in_flight n q))

no_flight : (a : Option Flight) (b : Bool) → (is_some a || b) ≡ false → a ≡ None
no_flight None b e = refl
no_flight (Some f) b e = absurd (subst T e tt)

in_by : (b : Bool) (x : Option ℕ) (o : Option Flight) (flight : Flight) (y : Option ℕ) → x ≡ next_by o → y ≡ flight.next → cond b y x ≡ next_by (cond b (Some flight) o)
in_by true x o flight y e f = f
in_by false x o flight y e f = e

stays : (b : Bool) (x : Option ℕ) → (b ≡ true → x ≡ None) → x ≡ cond b None x
stays true x h = h refl
stays false x h = refl

module _ (ops after : Ops) (next left : Nexts) (n : ℕ) (lent : Bool) (matched : AreMatched ops next) where
  pub matched_started : knows ops n ≡ false → after ≡ started n lent None ops → AreMatched after next
  matched_started unknown e = λ q.
      stays (q == n) (get next q) (λ same. matched q ∙ ap (next_at ops) (eqb-true q n same) ∙ ap next_by (no_flight (flight_at ops n) _ unknown))
      ∙ in_by (q == n) (get next q) (flight_at ops q) (record { lent = lent; forgotten = false; next = None }) None (matched q) refl
      ∙ sym (ap next_by (ap (λ o. flight_at o q) e ∙ put_at ops.in_flight n _ q))

  pub matched_quiet : (m : ℕ) → after ≡ started n lent (Some m) ops → left ≡ insert next n m → AreMatched after left
  matched_quiet m e i = λ q.
      ap (λ x. get x q) i ∙ put_at next n m q
      ∙ in_by (q == n) (get next q) (flight_at ops q) (record { lent = lent; forgotten = false; next = Some m }) (Some m) (matched q) refl
      ∙ sym (ap next_by (ap (λ o. flight_at o q) e ∙ put_at ops.in_flight n _ q))

-- how many are in flight

pub len_started : (ops after : Ops) (n : ℕ) (lent : Bool) (next : Option ℕ) → knows ops n ≡ false → after ≡ started n lent next ops → len after.in_flight ≡ len ops.in_flight + 1
len_started ops after n lent next unknown e = ap (λ o. len o.in_flight) e ∙ len-added ops.in_flight n _ (ap is_some (no_flight (flight_at ops n) _ unknown))

pub len_out : (ops after : Ops) (n : ℕ) (flight : Flight) (outcome : OpDone) → flight_at ops n ≡ Some flight → after ≡ resolved_as flight n outcome ops → len after.in_flight + 1 ≡ len ops.in_flight
len_out ops after n flight outcome at e = ap (λ o. len o.in_flight + 1) e ∙ len-taken ops.in_flight n (ap is_some at)

-- another number than the one that was resolved is in flight still
pub still_flying : (ops mid after : Ops) (n m : ℕ) (flight : Flight) (outcome : OpDone) → mid ≡ resolved_as flight n outcome ops → (m ≡ n → ⊥) → flight_at after m ≡ flight_at mid m → is_some (flight_at ops m) ≡ true → is_some (flight_at after m) ≡ true
still_flying ops mid after n m flight outcome e other same was =
    ap is_some (same ∙ ap (λ o. flight_at o m) e ∙ out_at ops.in_flight n m ∙ ap (λ b. cond b None (flight_at ops m)) (ne_eqb m n other)) ∙ was

-- A number is forgotten: it waits as before, where it is in flight.

marked_by : (b : Bool) (o : Option Flight) (flight : Flight) → (b ≡ true → o ≡ Some flight) → next_by o ≡ next_by (cond b (Some (record flight { forgotten = true })) o)
marked_by true o flight h = ap next_by (h refl)
marked_by false o flight h = refl

matched_by : (o : Option Flight) (ops : Ops) (next : Nexts) (n q : ℕ) → flight_at ops n ≡ o → get next q ≡ next_at ops q → get next q ≡ next_at (forgotten_by o n ops) q
matched_by None ops next n q at matched = matched
matched_by (Some flight) ops next n q at matched =
    matched ∙ marked_by (q == n) (flight_at ops q) flight (λ e. ap (flight_at ops) (eqb-true q n e) ∙ at)
    ∙ sym (ap next_by (put_at ops.in_flight n _ q))

pub matched_forgotten : (ops after : Ops) (next : Nexts) (n : ℕ) → AreMatched ops next → after ≡ forgotten n ops → AreMatched after next
matched_forgotten ops after next n matched e = λ q. matched_by (flight_at ops n) ops next n q refl (matched q) ∙ ap (λ o. next_at o q) (sym e)

len_by : (o : Option Flight) (ops : Ops) (n : ℕ) → flight_at ops n ≡ o → len (forgotten_by o n ops).in_flight ≡ len ops.in_flight
len_by None ops n at = refl
len_by (Some flight) ops n at = len-changed ops.in_flight n _ (ap is_some at)

pub len_forgotten : (ops after : Ops) (n : ℕ) → after ≡ forgotten n ops → len after.in_flight ≡ len ops.in_flight
len_forgotten ops after n e = ap (λ o. len o.in_flight) e ∙ len_by (flight_at ops n) ops n refl
