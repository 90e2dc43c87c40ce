-- Numbers stay in flight until a final completion for them or for one that they hang on, and leave once.
use Rattle.std.proofs.Common.{◌≡◌, ℕ, zero, suc, ◌==◌, Bool, true, false, not, cond, ◌&&◌, ◌||◌, T, List, [], ◌∷◌, Option, Some, None, is_some, Ok, Err, inl, inr, refl, sym, ap, ◌∙◌, subst, eqb-true, eq-eqb}
use Rattle.std.specs.List.{AllByRecursion}
use Rattle.std.specs.FinMap.{get, insert, remove, len}
use Rattle.uring_base.specs.declared.events.Completion.{Completion}
use Rattle.uring_base.specs.Completions.{is_more, is_final}
use Rattle.rent_table.specs.declared.ops.Flight.{Flight}
use Rattle.rent_table.specs.declared.ops.OpDone.{OpDone}
use Rattle.rent_table.specs.Ops.{Ops, flight_at, done_at, next_by, next_at, knows, forgotten_by, hangs_by, hangs, hanging, quiet_outcome, all_quietly_resolved, resolved, resolved_as, AreApart}
use Rattle.rent_table.specs.Lists.{has}
use Rattle.rent_table.proofs.Picks.{put_at, out_at}
use Rattle.rent_table.proofs.Endings.{first, second, no_Some, done_told, all_flight, all_done, only_what_hangs, resolved_flights}
use Rattle.rent_table.proofs.Depth.{any_depth}
use Rattle.rent_table.proofs.Asked.{apart_as, all_apart}
use Rattle.rent_engine.specs.declared.fault.EngineFault.TheVariants.{Stranger, Fault, NoMemory}
use Rattle.rent_engine.specs.Ops.{is_stranger, completed, completed_by, outcome}
use Rattle.rent_engine.specs.Laws.{ends, StaysInFlight, Lands, LeavesOnce, StartsApart, LandsApart, LeavesApart, ForgetsApart, StartsKnown, LandsKnown, LeavesKnown, ForgetsKnown}

itself : (n : ℕ) → (n == n) ≡ true
itself n = eq-eqb n n refl

clash : (b : Bool) → b ≡ true → b ≡ false → ⊥
clash b t f = subst T (sym t ∙ f) tt

to_false : (b : Bool) → (b ≡ true → ⊥) → b ≡ false
to_false true no_way = absurd (no_way refl)
to_false false no_way = refl

-- another number
other : (n q : ℕ) → (q == n) ≡ false → (n == q) ≡ false
other n q e = to_false (n == q) (λ same. clash (q == n) (eq-eqb q n (sym (eqb-true n q same))) e)

-- Later no number has a next number but the one that it had. So what hangs on a number has hung on it all along.

abbrev AreFewer : Ops → Ops → Type 0
AreFewer later earlier = (q m : ℕ) → next_at later q ≡ Some m → next_at earlier q ≡ Some m

still_next : (b : Bool) (o : Option Flight) (m : ℕ) → next_by (cond b None o) ≡ Some m → next_by o ≡ Some m
still_next true o m e = absurd (no_Some m e)
still_next false o m e = e

fewer_as : (flight : Flight) (u : ℕ) (d : OpDone) (ops : Ops) → AreFewer (resolved_as flight u d ops) ops
fewer_as flight u d ops q m e = still_next (q == u) (flight_at ops q) m (sym (ap next_by (out_at ops.in_flight u q)) ∙ e)

fewer_resolved : (flight : Flight) (u : ℕ) (d : OpDone) (ops : Ops) → AreFewer (resolved flight u d ops) ops
fewer_resolved flight u d ops q m e =
    let mid = resolved_as flight u d ops in
    fewer_as flight u d ops q m (still_next (has q (hanging mid u)) (flight_at mid q) m (sym (ap next_by (all_flight (hanging mid u) mid q)) ∙ e))

fewer_by : (b : Bool) (o : Option Flight) (ops : Ops) (c : Completion) → AreFewer (cond b ops (completed_by o c ops)) ops
fewer_by true o ops c q m e = e
fewer_by false None ops c q m e = e
fewer_by false (Some flight) ops c q m e = fewer_resolved flight c.user_data (outcome c) ops q m e

fewer_completed : (ops : Ops) (c : Completion) → AreFewer (completed ops c) ops
fewer_completed ops c = fewer_by (is_stranger ops c || is_more c.flags) (flight_at ops c.user_data) ops c

hung : (later earlier : Ops) (u n : ℕ) → AreFewer later earlier → hangs (len later.in_flight) later u n ≡ true → hangs (len earlier.in_flight) earlier u n ≡ true
hung later earlier u n fewer h = only_what_hangs later u n (hangs (len earlier.in_flight) earlier u)
    (λ q e. any_depth (suc zero) earlier u q (ap (hangs_by (hangs zero earlier u) u) (fewer q u e) ∙ first (u == u) false (itself u)))
    (λ q m e below. any_depth (suc (len earlier.in_flight)) earlier u q (ap (hangs_by (hangs (len earlier.in_flight) earlier u) u) (fewer q m e) ∙ second (m == u) _ below))
    h

still_false : (final same a b : Bool) → (a ≡ true → b ≡ true) → (final && (same || b)) ≡ false → (final && (same || a)) ≡ false
still_false true true a b h e = e
still_false true false true b h e = absurd (clash b (h refl) e)
still_false true false false b h e = refl
still_false false same a b h e = refl

none_ends : (later earlier : Ops) (n : ℕ) (cs : List Completion) → AreFewer later earlier → AllByRecursion (λ c. ends earlier n c ≡ false) cs → AllByRecursion (λ c. ends later n c ≡ false) cs
none_ends later earlier n [] fewer all = tt
none_ends later earlier n (c ∷ cs) fewer all = (
  still_false (is_final c.flags) (c.user_data == n) _ _ (hung later earlier c.user_data n fewer) all.0,
  none_ends later earlier n cs fewer all.1,
)

-- one completion

first_false : (a b : Bool) → (a || b) ≡ false → a ≡ false
first_false true b e = e
first_false false b e = refl

second_false : (a b : Bool) → (a || b) ≡ false → b ≡ false
second_false true b e = absurd (subst T e tt)
second_false false b e = e

stays_resolved : (flight : Flight) (u n : ℕ) (d : OpDone) (ops : Ops) → (u == n) ≡ false → hangs (len ops.in_flight) ops u n ≡ false → flight_at (resolved flight u d ops) n ≡ flight_at ops n
stays_resolved flight u n d ops differ free =
    let mid = resolved_as flight u d ops in
    let free_then = to_false (hangs (len mid.in_flight) mid u n) (λ h. clash _ (hung mid ops u n (fewer_as flight u d ops) h) free) in
    resolved_flights u mid n ∙ ap (λ b. cond b None (flight_at mid n)) free_then
    ∙ out_at ops.in_flight u n ∙ ap (λ b. cond b None (flight_at ops n)) (other n u differ)

stays_by : (n : ℕ) (ops : Ops) (c : Completion) (strange more : Bool) (o : Option Flight) → (not more && ((c.user_data == n) || hangs (len ops.in_flight) ops c.user_data n)) ≡ false
    → flight_at (cond (strange || more) ops (completed_by o c ops)) n ≡ flight_at ops n
stays_by n ops c true more o e = refl
stays_by n ops c false true o e = refl
stays_by n ops c false false None e = refl
stays_by n ops c false false (Some flight) e = stays_resolved flight c.user_data n (outcome c) ops (first_false _ _ e) (second_false (c.user_data == n) _ e)

pub stays_in_flight : StaysInFlight
stays_in_flight n ops after [] (Ok t) p all = ap (λ o. flight_at o n) p
stays_in_flight n ops after [] (Err NoMemory) p all = ap (λ o. flight_at o n) p
stays_in_flight n ops after [] (Err (Stranger u)) p all = absurd p
stays_in_flight n ops after [] (Err (Fault errno)) p all = absurd p
stays_in_flight n ops after (c ∷ cs) end (inl p) all = ap (λ o. flight_at o n) p.2
stays_in_flight n ops after (c ∷ cs) end (inr p) all =
    stays_in_flight n (completed ops c) after cs end p.1 (none_ends (completed ops c) ops n cs (fewer_completed ops c) all.1)
    ∙ stays_by n ops c (is_stranger ops c) (is_more c.flags) (flight_at ops c.user_data) all.0

-- a final completion lands

gone_as : (flight : Flight) (u : ℕ) (d : OpDone) (ops : Ops) → flight_at (resolved_as flight u d ops) u ≡ None
gone_as flight u d ops = out_at ops.in_flight u u ∙ ap (λ b. cond b None (flight_at ops u)) (itself u)

done_as : (flight : Flight) (u : ℕ) (d : OpDone) (ops : Ops) → flight.forgotten ≡ false → done_at (resolved_as flight u d ops) u ≡ Some d
done_as flight u d ops kept =
    ap (λ b. get (cond b ops.done (insert ops.done u d)) u) kept ∙ put_at ops.done u d u ∙ ap (λ b. cond b (Some d) (done_at ops u)) (itself u)

both_same : {A : Type 0} (b : Bool) (x : A) → cond b x x ≡ x
both_same true x = refl
both_same false x = refl

lands_as : (flight : Flight) (u : ℕ) (d : OpDone) (ops : Ops) → (flight_at (resolved flight u d ops) u ≡ None) × (flight.forgotten ≡ false → done_at (resolved flight u d ops) u ≡ Some d)
lands_as flight u d ops =
    let mid = resolved_as flight u d ops in
    let ns = hanging mid u in (
      all_flight ns mid u ∙ ap (cond (has u ns) None) (gone_as flight u d ops) ∙ both_same (has u ns) None,
      λ kept. all_done ns mid u ∙ ap (λ f. cond (has u ns) (done_told f (done_at mid u)) (done_at mid u)) (gone_as flight u d ops) ∙ both_same (has u ns) (done_at mid u) ∙ done_as flight u d ops kept,
    )

not_more : (b : Bool) → not b ≡ true → b ≡ false
not_more true e = absurd (subst T (sym e) tt)
not_more false e = refl

completes : (ops : Ops) (c : Completion) (flight : Flight) → flight_at ops c.user_data ≡ Some flight → is_stranger ops c ≡ false → is_final c.flags ≡ true → completed ops c ≡ resolved flight c.user_data (outcome c) ops
completes ops c flight here known final =
    ap (λ b. cond (b || is_more c.flags) ops (completed_by (flight_at ops c.user_data) c ops)) known
    ∙ ap (λ b. cond b ops (completed_by (flight_at ops c.user_data) c ops)) (not_more (is_more c.flags) final)
    ∙ ap (λ o. completed_by o c ops) here

pub lands : Lands
lands ops c flight here known final =
    subst (λ o. (flight_at o c.user_data ≡ None) × (flight.forgotten ≡ false → done_at o c.user_data ≡ Some (outcome c))) (sym (completes ops c flight here known final)) (lands_as flight c.user_data (outcome c) ops)

-- what is resolved leaves once
pub leaves_once : LeavesOnce
leaves_once ops n landed =
    ap (λ o. knows (cond (is_some o) ops (record ops { done = remove ops.done n })) n) landed
    ∙ ap (λ o. is_some o || is_some (get (remove ops.done n) n)) landed
    ∙ ap is_some (out_at ops.done n n ∙ ap (λ b. cond b None (done_at ops n)) (itself n))

-- no number is in both maps
none_of : {X : Type 0} (o : Option X) → is_some o ≡ false → o ≡ None
none_of None e = refl
none_of (Some x) e = absurd (subst T e tt)

started_apart : (ops : Ops) (n q : ℕ) (flight : Flight) (b : Bool) → (q == n) ≡ b → AreApart ops → done_at ops n ≡ None → is_some (cond b (Some flight) (flight_at ops q)) ≡ true → done_at ops q ≡ None
started_apart ops n q flight true e apart none is = ap (done_at ops) (eqb-true q n e) ∙ none
started_apart ops n q flight false e apart none is = apart q is

put_apart : (ops : Ops) (n : ℕ) (flight : Flight) → AreApart ops → done_at ops n ≡ None → AreApart (record ops { in_flight = insert ops.in_flight n flight })
put_apart ops n flight apart none = λ q is. started_apart ops n q flight (q == n) refl apart none (sym (ap is_some (put_at ops.in_flight n flight q)) ∙ is)

pub starts_apart : StartsApart
starts_apart ops n lent next apart unknown = put_apart ops n (record { lent = lent; forgotten = false; next = next }) apart (none_of _ (second_false _ _ unknown))

completed_apart : (b : Bool) (o : Option Flight) (ops : Ops) (c : Completion) → flight_at ops c.user_data ≡ o → AreApart ops → AreApart (cond b ops (completed_by o c ops))
completed_apart true o ops c at apart = apart
completed_apart false None ops c at apart = apart
completed_apart false (Some flight) ops c at apart = let mid = resolved_as flight c.user_data (outcome c) ops in all_apart (hanging mid c.user_data) mid (apart_as flight c.user_data (outcome c) ops at apart)

pub lands_apart : LandsApart
lands_apart ops c apart = completed_apart (is_stranger ops c || is_more c.flags) (flight_at ops c.user_data) ops c refl apart

left_apart : (ops : Ops) (n q : ℕ) (b : Bool) → AreApart ops → is_some (flight_at ops q) ≡ true → cond b None (done_at ops q) ≡ None
left_apart ops n q true apart is = refl
left_apart ops n q false apart is = apart q is

out_apart : (ops : Ops) (n : ℕ) → AreApart ops → AreApart (record ops { done = remove ops.done n })
out_apart ops n apart = λ q is. out_at ops.done n q ∙ left_apart ops n q (q == n) apart is

pub leaves_apart : LeavesApart
leaves_apart ops n apart = elim (is_some (flight_at ops n)) as (λ b. AreApart (cond b ops (record ops { done = remove ops.done n }))) [ true ↦ apart | false ↦ out_apart ops n apart ]

forgotten_apart : (o : Option Flight) (ops : Ops) (n : ℕ) → flight_at ops n ≡ o → AreApart ops → AreApart (forgotten_by o n ops)
forgotten_apart None ops n at apart = out_apart ops n apart
forgotten_apart (Some flight) ops n at apart = put_apart ops n (record flight { forgotten = true }) apart (apart n (ap is_some at))

pub forgets_apart : ForgetsApart
forgets_apart ops n apart = forgotten_apart (flight_at ops n) ops n refl apart

-- what is known stays so
some_put : (b : Bool) (flight : Flight) (o : Option Flight) (d : Bool) → (is_some o || d) ≡ true → (is_some (cond b (Some flight) o) || d) ≡ true
some_put true flight o d known = refl
some_put false flight o d known = known

pub starts_known : StartsKnown
starts_known ops n q lent next known =
    ap (λ o. is_some o || is_some (done_at ops q)) (put_at ops.in_flight n _ q)
    ∙ some_put (q == n) (record { lent = lent; forgotten = false; next = next }) (flight_at ops q) (is_some (done_at ops q)) known

done_same : (ops : Ops) (n q : ℕ) (d : OpDone) (forgotten : Bool) → (q == n) ≡ false → get (cond forgotten ops.done (insert ops.done n d)) q ≡ done_at ops q
done_same ops n q d true e = refl
done_same ops n q d false e = put_at ops.done n d q ∙ ap (λ b. cond b (Some d) (done_at ops q)) e

known_as : (ops : Ops) (n q : ℕ) (d : OpDone) (flight : Flight) (b : Bool) → (q == n) ≡ b → (b ≡ true → flight.forgotten ≡ false) → knows ops q ≡ true → knows (resolved_as flight n d ops) q ≡ true
known_as ops n q d flight true e kept known =
    ap (λ o. is_some o || is_some (get (cond flight.forgotten ops.done (insert ops.done n d)) q)) (out_at ops.in_flight n q ∙ ap (λ b. cond b None (flight_at ops q)) e)
    ∙ ap is_some (ap (λ f. get (cond f ops.done (insert ops.done n d)) q) (kept refl) ∙ put_at ops.done n d q ∙ ap (λ b. cond b (Some d) (done_at ops q)) e)
known_as ops n q d flight false e kept known =
    ap (λ o. is_some o || is_some (get (cond flight.forgotten ops.done (insert ops.done n d)) q)) (out_at ops.in_flight n q ∙ ap (λ b. cond b None (flight_at ops q)) e)
    ∙ ap (λ o. is_some (flight_at ops q) || is_some o) (done_same ops n q d flight.forgotten e) ∙ known

known_told : (b : Bool) (f : Option Flight) (d : Option OpDone) → (is_some f || is_some d) ≡ true → ((x : Flight) → f ≡ Some x → x.forgotten ≡ false) → (is_some (cond b None f) || is_some (cond b (done_told f d) d)) ≡ true
known_told false f d known kept = known
known_told true None d known kept = known
known_told true (Some x) d known kept = ap (λ b. is_some (cond b d (Some quiet_outcome))) (kept x refl)

known_all : (ns : List ℕ) (ops : Ops) (q : ℕ) → knows ops q ≡ true → ((x : Flight) → flight_at ops q ≡ Some x → x.forgotten ≡ false) → knows (all_quietly_resolved ns ops) q ≡ true
known_all ns ops q known kept =
    ap (λ o. is_some o || is_some (done_at (all_quietly_resolved ns ops) q)) (all_flight ns ops q)
    ∙ ap (λ o. is_some (cond (has q ns) None (flight_at ops q)) || is_some o) (all_done ns ops q)
    ∙ known_told (has q ns) (flight_at ops q) (done_at ops q) known kept

was_there : (b : Bool) (o : Option Flight) (x : Flight) → cond b None o ≡ Some x → o ≡ Some x
was_there true o x e = absurd (no_Some x e)
was_there false o x e = e

known_resolved : (b : Bool) (o : Option Flight) (ops : Ops) (c : Completion) (q : ℕ) → flight_at ops c.user_data ≡ o → knows ops q ≡ true → ((flight : Flight) → flight_at ops q ≡ Some flight → flight.forgotten ≡ false) → knows (cond b ops (completed_by o c ops)) q ≡ true
known_resolved true o ops c q is known kept = known
known_resolved false None ops c q is known kept = known
known_resolved false (Some flight) ops c q is known kept =
    let mid = resolved_as flight c.user_data (outcome c) ops in
    known_all (hanging mid c.user_data) mid q
    (known_as ops c.user_data q (outcome c) flight (q == c.user_data) refl (λ same. kept flight (ap (flight_at ops) (eqb-true q c.user_data same) ∙ is)) known)
    (λ x e. kept x (was_there (q == c.user_data) (flight_at ops q) x (sym (out_at ops.in_flight c.user_data q) ∙ e)))

pub lands_known : LandsKnown
lands_known ops c q known kept = known_resolved (is_stranger ops c || is_more c.flags) (flight_at ops c.user_data) ops c q refl known kept

not_same : (n q : ℕ) (b : Bool) → (q == n) ≡ b → (n ≡ q → ⊥) → b ≡ false
not_same n q true e differ = absurd (differ (sym (eqb-true q n e)))
not_same n q false e differ = refl

out_known : (ops : Ops) (n q : ℕ) → (n ≡ q → ⊥) → knows (record ops { done = remove ops.done n }) q ≡ knows ops q
out_known ops n q differ = ap (λ o. is_some (flight_at ops q) || is_some o) (out_at ops.done n q ∙ ap (λ b. cond b None (done_at ops q)) (not_same n q (q == n) refl differ))

pub leaves_known : LeavesKnown
leaves_known ops n q differ = elim (is_some (flight_at ops n)) as (λ b. knows (cond b ops (record ops { done = remove ops.done n })) q ≡ knows ops q) [
  | true ↦ refl
  | false ↦ out_known ops n q differ
]

forgotten_known : (o : Option Flight) (ops : Ops) (n q : ℕ) → (n ≡ q → ⊥) → knows (forgotten_by o n ops) q ≡ knows ops q
forgotten_known None ops n q differ = out_known ops n q differ
forgotten_known (Some flight) ops n q differ =
    let f : Flight = record flight { forgotten = true } in
    ap (λ o. is_some o || is_some (done_at ops q)) (put_at ops.in_flight n f q ∙ ap (λ b. cond b (Some f) (flight_at ops q)) (not_same n q (q == n) refl differ))

pub forgets_known : ForgetsKnown
forgets_known ops n q differ = forgotten_known (flight_at ops n) ops n q differ
