-- What the rounds of an executor keep.
use Rattle.std.proofs.Common.{◌≡◌, ◌≢◌, ℕ, suc, ◌+◌, ◌≤◌, ◌<◌, ◌==◌, Bool, true, false, cond, not, ◌&&◌, ◌||◌, ◌⊎◌, inl, inr, List, [], ◌∷◌, ◌++◌, length, Option, Some, None, refl, ap, sym, ◌∙◌, subst, T, arith, eqb-true, eq-eqb, ne_eqb, append_assoc, append-nil, add-one}
use Rattle.std.specs.Prelude.{is_none}
use Rattle.std.specs.List.{list_all, list_any}
use Rattle.std.specs.Map.{lookup}
use Rattle.std.specs.Ordering.{nat_cmp, eq_by_cmp}
use Rattle.std.specs.Cmp.{nat_cmp_total, unsigned_tied, eq_by_cmp_equiv}
use Rattle.std.specs.FinMap.{FinMap, find, get, insert, remove, from_entries, get-insert, get-remove, get-empty, get-from_entries, same_map, nat_cmp-IsAntisymmetric}
use Rattle.std.proofs.lemmas.Bool.{leb-true, le-leb}
use Rattle.std.proofs.lemmas.List.Folds.{list_all-append}
use Rattle.uring_base.specs.declared.events.Taken.{Taken}
use Rattle.rent_engine.specs.declared.state.Poll.{Poll}
use Rattle.rent_engine.specs.declared.state.Poll.TheVariants.{Ready, Pending}
use Rattle.rent_table.specs.Ops.{Ops}
use Rattle.rent_engine.specs.States.{is_pending, waits_on, KeepsInFlight}
use Rattle.rent_engine.specs.Executor.{Tasks, Scene, are_in_order, if_waiting, after_poll, task_waits, AreValidTasks, PollsFirst, AllPolled, IsRound}

-- Outputs by the entries of a hash map.

abbrev pub entry_at : {O : Type 0} → List (ℕ × O) → ℕ → Option O
entry_at es q = lookup (λ k. q == k) es

find_entry : {O : Type 0} (es : List (ℕ × O)) (q : ℕ) → find nat_cmp q es ≡ entry_at es q
find_entry [] q = refl
find_entry (e ∷ es) q = ap (λ b. cond b (Some e.1) (find nat_cmp q es)) (unsigned_tied q e.0) ∙ ap (cond (q == e.0) (Some e.1)) (find_entry es q)

pub output-at : {O : Type 0} (es : List (ℕ × O)) (q : ℕ) → get (from_entries {R = nat_cmp} es) q ≡ entry_at es q
output-at es q = get-from_entries nat_cmp_total es q ∙ find_entry es q

turned : (n q : ℕ) → eq_by_cmp nat_cmp q n ≡ (n == q)
turned n q = (eq_by_cmp_equiv nat_cmp_total).symm q n ∙ unsigned_tied n q

module _ {O : Type 0} (es fs : List (ℕ × O)) where
  pub outputs-same : ((q : ℕ) → entry_at fs q ≡ entry_at es q) → from_entries {R = nat_cmp} fs ≡ from_entries es
  outputs-same h = same_map nat_cmp_total nat_cmp-IsAntisymmetric _ _ (λ q. output-at fs q ∙ h q ∙ sym (output-at es q))

  pub outputs-removed : (n : ℕ) → ((q : ℕ) → entry_at fs q ≡ cond (n == q) None (entry_at es q)) → from_entries {R = nat_cmp} fs ≡ remove (from_entries es) n
  outputs-removed n h = same_map nat_cmp_total nat_cmp-IsAntisymmetric _ _ (λ q. output-at fs q ∙ h q
      ∙ sym (get-remove nat_cmp_total (from_entries es) n q ∙ ap (λ b. cond b None (get {R = nat_cmp} (from_entries es) q)) (turned n q) ∙ ap (cond (n == q) None) (output-at es q)))

  pub outputs-inserted : (n : ℕ) (v : O) → ((q : ℕ) → entry_at fs q ≡ cond (n == q) (Some v) (entry_at es q)) → from_entries {R = nat_cmp} fs ≡ insert (from_entries es) n v
  outputs-inserted n v h = same_map nat_cmp_total nat_cmp-IsAntisymmetric _ _ (λ q. output-at fs q ∙ h q
      ∙ sym (get-insert nat_cmp_total (from_entries es) n v q ∙ ap (λ b. cond b (Some v) (get {R = nat_cmp} (from_entries es) q)) (turned n q) ∙ ap (cond (n == q) (Some v)) (output-at es q)))

-- Both of two tests.

false_true : false ≡ true → ⊥
false_true e = subst T (sym e) tt

left_of : (a b : Bool) → (a && b) ≡ true → a ≡ true
left_of true b e = refl
left_of false b e = e

right_of : (a b : Bool) → (a && b) ≡ true → b ≡ true
right_of true b e = e
right_of false b e = absurd (false_true e)

both : (a b : Bool) → a ≡ true → b ≡ true → (a && b) ≡ true
both a b e f = (λ i. e i && f i)

pub none_of : {A : Type 0} (o : Option A) → is_none o ≡ true → o ≡ None
none_of None e = refl
none_of (Some x) e = absurd (subst T (sym e) tt)

-- Outputs that aren't there.

no_output : {O : Type 0} (m : FinMap nat_cmp O) (n q : ℕ) (v : O) → q ≢ n → is_none (get m q) ≡ true → is_none (get (insert m n v) q) ≡ true
no_output m n q v ne is = ap is_none (get-insert nat_cmp_total m n v q ∙ ap (λ b. cond b (Some v) (get m q)) (unsigned_tied q n ∙ ne_eqb q n ne)) ∙ is

none_either : {O : Type 0} (b : Bool) (o : Option O) → is_none o ≡ true → is_none (cond b None o) ≡ true
none_either true o is = refl
none_either false o is = is

none_now : {O : Type 0} (m : FinMap nat_cmp O) (n q : ℕ) → is_none (get m q) ≡ true → is_none (get (remove m n) q) ≡ true
none_now m n q is = ap is_none (get-remove nat_cmp_total m n q) ∙ none_either (eq_by_cmp nat_cmp q n) (get m q) is

pub still_none : {O : Type 0} (m : FinMap nat_cmp O) (n q : ℕ) → get m q ≡ None → get (remove m n) q ≡ None
still_none m n q none = none_of _ (none_now m n q (ap is_none none))

here_or_behind : (a b : Bool) → (a || b) ≡ true → (a ≡ true) ⊎ (b ≡ true)
here_or_behind true b e = inl refl
here_or_behind false b e = inr e

-- The order of the tasks.
module _ {S O : Type 0} where
  record Head (m : FinMap nat_cmp O) (next low : ℕ) (t : ℕ × S) (ts : List (ℕ × S)) : Type 0 where
    low_enough : low ≤ t.0
    none : is_none (get m t.0) ≡ true
    behind : are_in_order m next (suc t.0) ts ≡ true

  head : (m : FinMap nat_cmp O) (next low : ℕ) (t : ℕ × S) (ts : List (ℕ × S)) → are_in_order m next low (t ∷ ts) ≡ true → Head m next low t ts
  head m next low t ts is = record {
    low_enough = leb-true low t.0 (left_of _ _ is);
    none = left_of _ _ (right_of _ _ is);
    behind = right_of _ _ (right_of _ _ is);
  }

  with_head : (m : FinMap nat_cmp O) (next low : ℕ) (t : ℕ × S) (ts : List (ℕ × S)) → low ≤ t.0 → is_none (get m t.0) ≡ true → are_in_order m next (suc t.0) ts ≡ true → are_in_order m next low (t ∷ ts) ≡ true
  with_head m next low t ts le none behind = both _ _ (le-leb low t.0 le) (both _ _ none behind)

  above : (m : FinMap nat_cmp O) (next low : ℕ) (ts : List (ℕ × S)) → are_in_order m next low ts ≡ true → low ≤ next
  above m next low [] is = leb-true low next is
  above m next low (t ∷ ts) is = let h = head m next low t ts is in let le = above m next (suc t.0) ts h.behind in omega (arith, h.low_enough, le)

  lower : (m : FinMap nat_cmp O) (next low less : ℕ) (ts : List (ℕ × S)) → less ≤ low → are_in_order m next low ts ≡ true → are_in_order m next less ts ≡ true
  lower m next low less [] le is = let a = leb-true low next is in le-leb less next (omega (arith, le, a))
  lower m next low less (t ∷ ts) le is = let h = head m next low t ts is in with_head m next less t ts (omega (arith, le, h.low_enough)) h.none h.behind

  -- a task in the midst of the list
  at_least : (m : FinMap nat_cmp O) (next low : ℕ) (us : List (ℕ × S)) (t : ℕ × S) (ts : List (ℕ × S)) → are_in_order m next low (us ++ t ∷ ts) ≡ true → low ≤ t.0
  at_least m next low [] t ts is = (head m next low t ts is).low_enough
  at_least m next low (u ∷ us) t ts is = let h = head m next low u (us ++ t ∷ ts) is in let le = at_least m next (suc u.0) us t ts h.behind in omega (arith, h.low_enough, le)

  below_next : (m : FinMap nat_cmp O) (next low : ℕ) (us : List (ℕ × S)) (t : ℕ × S) (ts : List (ℕ × S)) → are_in_order m next low (us ++ t ∷ ts) ≡ true → t.0 < next
  below_next m next low [] t ts is = let le = above m next (suc t.0) ts (head m next low t ts is).behind in omega (arith, le)
  below_next m next low (u ∷ us) t ts is = below_next m next (suc u.0) us t ts (head m next low u (us ++ t ∷ ts) is).behind

  -- it is in another state
  other_state : (m : FinMap nat_cmp O) (next low : ℕ) (us : List (ℕ × S)) (t : ℕ × S) (left : S) (ts : List (ℕ × S)) → are_in_order m next low (us ++ t ∷ ts) ≡ true → are_in_order m next low (us ++ (t.0, left) ∷ ts) ≡ true
  other_state m next low [] t left ts is = is
  other_state m next low (u ∷ us) t left ts is =
      let h = head m next low u (us ++ t ∷ ts) is in with_head m next low u (us ++ (t.0, left) ∷ ts) h.low_enough h.none (other_state m next (suc u.0) us t left ts h.behind)

  -- it has its output
  output_behind : (m : FinMap nat_cmp O) (next low n : ℕ) (v : O) (ts : List (ℕ × S)) → n < low → are_in_order m next low ts ≡ true → are_in_order (insert m n v) next low ts ≡ true
  output_behind m next low n v [] lt is = is
  output_behind m next low n v (t ∷ ts) lt is =
      let h = head m next low t ts is in
      with_head (insert m n v) next low t ts h.low_enough (no_output m n t.0 v (λ e. omega (arith, e, lt, h.low_enough)) h.none) (output_behind m next (suc t.0) n v ts (omega (arith, lt, h.low_enough)) h.behind)

  finished : (m : FinMap nat_cmp O) (next low : ℕ) (us : List (ℕ × S)) (t : ℕ × S) (v : O) (ts : List (ℕ × S)) → are_in_order m next low (us ++ t ∷ ts) ≡ true → are_in_order (insert m t.0 v) next low (us ++ ts) ≡ true
  finished m next low [] t v ts is =
      let h = head m next low t ts is in
      lower (insert m t.0 v) next (suc t.0) low ts (omega (arith, h.low_enough)) (output_behind m next (suc t.0) t.0 v ts (omega arith) h.behind)
  finished m next low (u ∷ us) t v ts is =
      let h = head m next low u (us ++ t ∷ ts) is in
      let lt = at_least m next (suc u.0) us t ts h.behind in
      with_head (insert m t.0 v) next low u (us ++ ts) h.low_enough (no_output m t.0 u.0 v (λ e. omega (arith, e, lt)) h.none) (finished m next (suc u.0) us t v ts h.behind)

  -- a task is put behind the others
  one_behind : (m : FinMap nat_cmp O) (next low : ℕ) (us : List (ℕ × S)) (task : S) → get m next ≡ None → are_in_order m next low us ≡ true → are_in_order m (suc next) low (us ++ (next, task) ∷ []) ≡ true
  one_behind m next low [] task none is = both _ _ is (both _ _ (ap is_none none) (le-leb (suc next) (suc next) (omega arith)))
  one_behind m next low (u ∷ us) task none is = let h = head m next low u us is in with_head m (suc next) low u (us ++ (next, task) ∷ []) h.low_enough h.none (one_behind m next (suc u.0) us task none h.behind)

  -- an output is taken
  output_gone : (m : FinMap nat_cmp O) (next low n : ℕ) (ts : List (ℕ × S)) → are_in_order m next low ts ≡ true → are_in_order (remove m n) next low ts ≡ true
  output_gone m next low n [] is = is
  output_gone m next low n (t ∷ ts) is = let h = head m next low t ts is in with_head (remove m n) next low t ts h.low_enough (none_now m n t.0 h.none) (output_gone m next (suc t.0) n ts h.behind)

  -- an unfinished task has no output
  pub unfinished_has_none : (m : FinMap nat_cmp O) (next low id : ℕ) (ts : List (ℕ × S)) → are_in_order m next low ts ≡ true → list_any (λ t. t.0 == id) ts ≡ true → get m id ≡ None
  unfinished_has_none m next low id [] is any = absurd (false_true any)
  unfinished_has_none m next low id (t ∷ ts) is any =
      let h = head m next low t ts is in
      elim (here_or_behind _ _ any) [
        | inl here ↦ subst (λ q. get m q ≡ None) (eqb-true t.0 id here) (none_of _ h.none)
        | inr later ↦ unfinished_has_none m next (suc t.0) id ts h.behind later
      ]

-- Rounds.

full_stays : (offers : Bool) (room now : ℕ) → now ≤ room → (offers && (room == 0)) ≡ true → (offers && (now == 0)) ≡ true
full_stays true room now le is = let z = eqb-true room 0 is in eq-eqb now 0 (omega (arith, z, le))
full_stays false room now le is = is

waits_stay : (key : Option ℕ) (offers : Bool) (ops after : Ops) (room now : ℕ) → KeepsInFlight ops after → now ≤ room → waits_on key offers ops room ≡ true → waits_on key offers after now ≡ true
waits_stay (Some n) offers ops after room now keeps le is = keeps n is
waits_stay None offers ops after room now keeps le is = full_stays offers room now le is

all_weaker : {X : Type 0} (p q : X → Bool) → ((x : X) → p x ≡ true → q x ≡ true) → (xs : List X) → list_all p xs ≡ true → list_all q xs ≡ true
all_weaker p q h [] is = refl
all_weaker p q h (x ∷ xs) is = both _ _ (h x (left_of _ _ is)) (all_weaker p q h xs (right_of _ _ is))

all_both : {X : Type 0} (p : X → Bool) (xs ys : List X) → list_all p xs ≡ true → list_all p ys ≡ true → list_all p (xs ++ ys) ≡ true
all_both p xs ys a b = list_all-append p xs ys ∙ both _ _ a b

pub one_more_passes : {X : Type 0} (p : X → Bool) (xs : List X) (x : X) → list_all p xs ≡ true → p x ≡ true → list_all p (xs ++ x ∷ []) ≡ true
one_more_passes p xs x a b = all_both p xs (x ∷ []) a (both _ _ b refl)

-- the tasks polled so far, and those to come, are sound together
record IsSoundWith {S O : Type 0} (done : S → Bool) (ts : List (ℕ × S)) (tasks : Tasks S O) : Type 0 where
  ordered : are_in_order tasks.outputs tasks.next 0 (tasks.unfinished ++ ts) ≡ true
  undone : list_all (λ t. not (done t.1)) tasks.unfinished ≡ true
  to_come : (id : ℕ) → tasks.next ≤ id → get tasks.outputs id ≡ None

module _ {S O : Type 0} (done : S → Bool) where
  sound_step : (t : ℕ × S) (ts : List (ℕ × S)) (left : S) (answer : Poll O) (tasks : Tasks S O) → done left ≡ not (is_pending answer) → IsSoundWith done (t ∷ ts) tasks → IsSoundWith done ts (after_poll t.0 left answer tasks)
  sound_step t ts left Pending tasks over s = record {
    ordered = subst (λ xs. are_in_order tasks.outputs tasks.next 0 xs ≡ true) (sym (append_assoc tasks.unfinished ((t.0, left) ∷ []) ts)) (other_state tasks.outputs tasks.next 0 tasks.unfinished t left ts s.ordered);
    undone = one_more_passes _ tasks.unfinished (t.0, left) s.undone (ap not over);
    to_come = s.to_come;
  }
  sound_step t ts left (Ready v) tasks over s =
      let lt = below_next tasks.outputs tasks.next 0 tasks.unfinished t ts s.ordered in
      let same = append-nil tasks.unfinished in
      record {
        ordered = subst (λ us. are_in_order (insert tasks.outputs t.0 v) tasks.next 0 (us ++ ts) ≡ true) (sym same) (finished tasks.outputs tasks.next 0 tasks.unfinished t v ts s.ordered);
        undone = subst (λ us. list_all (λ x. not (done x.1)) us ≡ true) (sym same) s.undone;
        to_come = λ id le. none_of _ (no_output tasks.outputs t.0 id v (λ e. omega (arith, e, le, lt)) (ap is_none (s.to_come id le)));
      }

module _ {R S O : Type 0} (offered : R → List Taken → R → Type 0) (room : R → ℕ) (key : S → Option ℕ) (offers : S → Bool) (done : S → Bool) (polls : S → Ops → List Taken → Poll O → Ops → S → Type 0) where
  sound_through : (ts : List (ℕ × S)) (before after : Scene R S O) → AllPolled offered room key offers done polls ts before after → IsSoundWith done ts before.tasks → IsSoundWith done [] after.tasks
  sound_through [] before after e s = subst (λ (x : Scene R S O). IsSoundWith done [] x.tasks) (sym e) s
  sound_through (t ∷ ts) before after d s =
      sound_through ts d.0 after d.3 (subst (λ (x : Tasks S O). IsSoundWith done ts x) (sym d.2) (sound_step done t ts d.1.left d.1.answer before.tasks d.1.over s))

  wait_step : (ops : Ops) (free : ℕ) (id : ℕ) (left : S) (answer : Poll O) → is_pending answer ≡ task_waits key offers ops free (id, left) → list_all (task_waits key offers ops free) (if_waiting id left answer) ≡ true
  wait_step ops free id left Pending is = both _ _ (sym is) refl
  wait_step ops free id left (Ready v) is = refl

  waits_through : (ts : List (ℕ × S)) (before after : Scene R S O) → AllPolled offered room key offers done polls ts before after → list_all (task_waits key offers before.ops (room before.ring)) before.tasks.unfinished ≡ true → list_all (task_waits key offers after.ops (room after.ring)) after.tasks.unfinished ≡ true
  waits_through [] before after e w = subst (λ (x : Scene R S O). list_all (task_waits key offers x.ops (room x.ring)) x.tasks.unfinished ≡ true) (sym e) w
  waits_through (t ∷ ts) before after d w =
      let next = d.0 in let poll = d.1 in
      let old : list_all (task_waits key offers next.ops (room next.ring)) before.tasks.unfinished ≡ true =
      all_weaker _ _ (λ x is. waits_stay (key x.1) (offers x.1) before.ops next.ops (room before.ring) (room next.ring) poll.in_flight poll.free is) before.tasks.unfinished w in
      let all : list_all (task_waits key offers next.ops (room next.ring)) (after_poll t.0 poll.left poll.answer before.tasks).unfinished ≡ true =
      all_both _ before.tasks.unfinished _ old (wait_step next.ops (room next.ring) t.0 poll.left poll.answer poll.pending) in
      waits_through ts next after d.3 (subst (λ (x : Tasks S O). list_all (task_waits key offers next.ops (room next.ring)) x.unfinished ≡ true) (sym d.2) all)

  -- what a round from sound tasks leaves is sound, and waits
  pub round_sound : (tasks : Tasks S O) (ring : R) (ops : Ops) (after : Scene R S O) → IsRound offered room key offers done polls (record { ring = ring; ops = ops; tasks = tasks }) after → AreValidTasks done tasks → AreValidTasks done after.tasks
  round_sound tasks ring ops after d s =
      let end = sound_through tasks.unfinished (record { ring = ring; ops = ops; tasks = record tasks { unfinished = [] } }) after d (record { ordered = s.ordered; undone = refl; to_come = s.to_come }) in
      record {
        ordered = subst (λ us. are_in_order after.tasks.outputs after.tasks.next 0 us ≡ true) (append-nil after.tasks.unfinished) end.ordered;
        undone = end.undone;
        to_come = end.to_come;
      }

  pub round_waits : (tasks : Tasks S O) (ring : R) (ops : Ops) (after : Scene R S O) → IsRound offered room key offers done polls (record { ring = ring; ops = ops; tasks = tasks }) after → list_all (task_waits key offers after.ops (room after.ring)) after.tasks.unfinished ≡ true
  round_waits tasks ring ops after d = waits_through tasks.unfinished (record { ring = ring; ops = ops; tasks = record tasks { unfinished = [] } }) after d refl

  pub round_of : (tasks seen : Tasks S O) (outputs : FinMap nat_cmp O) (ring : R) (ops : Ops) (after : Scene R S O) → outputs ≡ tasks.outputs → tasks ≡ seen
      → AllPolled offered room key offers done polls tasks.unfinished (record { ring = ring; ops = ops; tasks = record { next = tasks.next; unfinished = []; outputs = outputs } }) after
      → IsRound offered room key offers done polls (record { ring = ring; ops = ops; tasks = seen }) after
  round_of tasks seen outputs ring ops after same view d =
      subst (λ (x : Tasks S O). IsRound offered room key offers done polls (record { ring = ring; ops = ops; tasks = x }) after) view
      (subst (λ m. AllPolled offered room key offers done polls tasks.unfinished (record { ring = ring; ops = ops; tasks = record { next = tasks.next; unfinished = []; outputs = m } }) after) same d)

  -- in the midst of a round: so many tasks are still to be polled, and they stand before those that were
  pub record IsGoing (start : List (ℕ × S)) (outputs0 : FinMap nat_cmp O) (ring0 : R) (ops0 : Ops) (left : ℕ) (queue : List (ℕ × S)) (outputs : FinMap nat_cmp O) (ring : R) (ops : Ops) : Type 0 where
    pub rest : List (ℕ × S)
    pub polled : List (ℕ × S)
    pub long : length rest ≡ left
    pub parts : queue ≡ rest ++ polled
    pub undone : list_all (λ t. not (done t.1)) rest ≡ true
    pub goes : (next : ℕ) (after : Scene R S O) → AllPolled offered room key offers done polls rest (record { ring = ring; ops = ops; tasks = record { next = next; unfinished = polled; outputs = outputs } }) after
        → AllPolled offered room key offers done polls start (record { ring = ring0; ops = ops0; tasks = record { next = next; unfinished = []; outputs = outputs0 } }) after

  pub going_begins : (start : List (ℕ × S)) (outputs : FinMap nat_cmp O) (ring : R) (ops : Ops) (n : ℕ) → length start ≡ n → list_all (λ t. not (done t.1)) start ≡ true → IsGoing start outputs ring ops n start outputs ring ops
  going_begins start outputs ring ops n long undone = record { rest = start; polled = []; long = long; parts = sym (append-nil start); undone = undone; goes = λ next after d. d }

  not_of : (b : Bool) → not b ≡ true → b ≡ false
  not_of true e = absurd (false_true e)
  not_of false e = refl

  module _ (start : List (ℕ × S)) (outputs0 : FinMap nat_cmp O) (ring0 : R) (ops0 : Ops) where
    first_by : (rest polled : List (ℕ × S)) (k : ℕ) (t : ℕ × S) (ts : List (ℕ × S)) → length rest ≡ suc k → list_all (λ x. not (done x.1)) rest ≡ true → rest ++ polled ≡ t ∷ ts → done t.1 ≡ false
    first_by [] polled k t ts long undone e = absurd (omega (arith, long))
    first_by (r ∷ rs) polled k t ts long undone e = let same : r ≡ t = cc in subst (λ (x : ℕ × S). done x.1 ≡ false) same (not_of _ (left_of _ _ undone))

    pub first_undone : (k : ℕ) (queue : List (ℕ × S)) (outputs : FinMap nat_cmp O) (ring : R) (ops : Ops) → IsGoing start outputs0 ring0 ops0 (suc k) queue outputs ring ops → (t : ℕ × S) (ts : List (ℕ × S)) → queue ≡ t ∷ ts → done t.1 ≡ false
    first_undone k queue outputs ring ops g t ts e = first_by g.rest g.polled k t ts g.long g.undone (sym g.parts ∙ e)

    some_by : (rest polled : List (ℕ × S)) (k : ℕ) → length rest ≡ suc k → 0 < length (rest ++ polled)
    some_by [] polled k long = absurd (omega (arith, long))
    some_by (r ∷ rs) polled k long = omega arith

    pub some_left : (k : ℕ) (queue : List (ℕ × S)) (outputs : FinMap nat_cmp O) (ring : R) (ops : Ops) → IsGoing start outputs0 ring0 ops0 (suc k) queue outputs ring ops → 0 < length queue
    some_left k queue outputs ring ops g = subst (λ xs. 0 < length xs) (sym g.parts) (some_by g.rest g.polled k g.long)

    going_by : (k : ℕ) (rest polled : List (ℕ × S)) (outputs outputs' : FinMap nat_cmp O) (ring ring' : R) (ops ops' : Ops) (queue' : List (ℕ × S)) → length rest ≡ suc k → list_all (λ t. not (done t.1)) rest ≡ true
        → ((next : ℕ) (after : Scene R S O) → AllPolled offered room key offers done polls rest (record { ring = ring; ops = ops; tasks = record { next = next; unfinished = polled; outputs = outputs } }) after
        → AllPolled offered room key offers done polls start (record { ring = ring0; ops = ops0; tasks = record { next = next; unfinished = []; outputs = outputs0 } }) after)
        → PollsFirst offered room key offers done polls (rest ++ polled) outputs ring ops queue' outputs' ring' ops' → IsGoing start outputs0 ring0 ops0 k queue' outputs' ring' ops'
    going_by k [] polled outputs outputs' ring ring' ops ops' queue' long undone goes p = absurd (omega (arith, long))
    going_by k (r ∷ rs) polled outputs outputs' ring ring' ops ops' queue' long undone goes p =
        let was = p.was in
        let same : r ≡ p.first = cc in
        let behind : rs ++ polled ≡ p.others = cc in
        let goes' : (next : ℕ) (after : Scene R S O) → AllPolled offered room key offers done polls (p.first ∷ rs) (record { ring = ring; ops = ops; tasks = record { next = next; unfinished = polled; outputs = outputs } }) after
        → AllPolled offered room key offers done polls start (record { ring = ring0; ops = ops0; tasks = record { next = next; unfinished = []; outputs = outputs0 } }) after
        = subst (λ (x : ℕ × S). (next : ℕ) (after : Scene R S O) → AllPolled offered room key offers done polls (x ∷ rs) (record { ring = ring; ops = ops; tasks = record { next = next; unfinished = polled; outputs = outputs } }) after
        → AllPolled offered room key offers done polls start (record { ring = ring0; ops = ops0; tasks = record { next = next; unfinished = []; outputs = outputs0 } }) after) same goes in
        record {
          rest = rs;
          polled = polled ++ if_waiting p.first.0 p.poll.left p.poll.answer;
          long = omega (arith, long);
          parts = p.now ∙ ap (λ xs. xs ++ if_waiting p.first.0 p.poll.left p.poll.answer) (sym behind) ∙ append_assoc rs polled (if_waiting p.first.0 p.poll.left p.poll.answer);
          undone = right_of _ _ undone;
          goes = λ next after d. goes' next after (
            record { ring = ring'; ops = ops'; tasks = record { next = next; unfinished = polled ++ if_waiting p.first.0 p.poll.left p.poll.answer; outputs = outputs' } },
            p.poll,
            (λ i. record { next = next; unfinished = polled ++ if_waiting p.first.0 p.poll.left p.poll.answer; outputs = p.kept i }),
            d,
          );
        }

    pub going_on : (k : ℕ) (queue queue' : List (ℕ × S)) (outputs outputs' : FinMap nat_cmp O) (ring ring' : R) (ops ops' : Ops) → IsGoing start outputs0 ring0 ops0 (suc k) queue outputs ring ops
        → PollsFirst offered room key offers done polls queue outputs ring ops queue' outputs' ring' ops' → IsGoing start outputs0 ring0 ops0 k queue' outputs' ring' ops'
    going_on k queue queue' outputs outputs' ring ring' ops ops' g p =
        going_by k g.rest g.polled outputs outputs' ring ring' ops ops' queue' g.long g.undone g.goes
        (subst (λ xs. PollsFirst offered room key offers done polls xs outputs ring ops queue' outputs' ring' ops') g.parts p)

    ends_by : (rest polled queue : List (ℕ × S)) (outputs : FinMap nat_cmp O) (ring : R) (ops : Ops) (next : ℕ) → length rest ≡ 0 → queue ≡ rest ++ polled
        → AllPolled offered room key offers done polls rest (record { ring = ring; ops = ops; tasks = record { next = next; unfinished = polled; outputs = outputs } }) (record { ring = ring; ops = ops; tasks = record { next = next; unfinished = queue; outputs = outputs } })
    ends_by [] polled queue outputs ring ops next long parts = λ i. record { ring = ring; ops = ops; tasks = record { next = next; unfinished = parts i; outputs = outputs } }
    ends_by (r ∷ rs) polled queue outputs ring ops next long parts = absurd (omega (arith, long))

    pub going_ends : (queue : List (ℕ × S)) (outputs : FinMap nat_cmp O) (ring : R) (ops : Ops) → IsGoing start outputs0 ring0 ops0 0 queue outputs ring ops
        → (next : ℕ) → AllPolled offered room key offers done polls start (record { ring = ring0; ops = ops0; tasks = record { next = next; unfinished = []; outputs = outputs0 } }) (record { ring = ring; ops = ops; tasks = record { next = next; unfinished = queue; outputs = outputs } })
    going_ends queue outputs ring ops g next = g.goes next _ (ends_by g.rest g.polled queue outputs ring ops next g.long g.parts)

-- Changes of the tasks.
module _ {S O : Type 0} (done : S → Bool) where
  pub sound_empty : (items : List (ℕ × S)) (es : List (ℕ × O)) → items ≡ [] → es ≡ [] → AreValidTasks done (record { next = 0; unfinished = items; outputs = from_entries es })
  sound_empty items es e f = record {
    ordered = ap (are_in_order (from_entries es) 0 0) e;
    undone = ap (list_all (λ t. not (done t.1))) e;
    to_come = λ id le. ap (λ xs. get {R = nat_cmp} (from_entries xs) id) f ∙ get-empty nat_cmp id;
  }

  pub sound_spawned : (next after : ℕ) (items items' : List (ℕ × S)) (m : FinMap nat_cmp O) (task : S) → after ≡ next + 1 → items' ≡ items ++ (next, task) ∷ [] → done task ≡ false
      → AreValidTasks done (record { next = next; unfinished = items; outputs = m }) → AreValidTasks done (record { next = after; unfinished = items'; outputs = m })
  sound_spawned next after items items' m task e f undone s =
      let one : after ≡ suc next = e ∙ add-one next in record {
        ordered = subst (λ n. are_in_order m n 0 items' ≡ true) (sym one) (subst (λ xs. are_in_order m (suc next) 0 xs ≡ true) (sym f) (one_behind m next 0 items task (s.to_come next (omega arith)) s.ordered));
        undone = subst (λ xs. list_all (λ t. not (done t.1)) xs ≡ true) (sym f) (one_more_passes _ items (next, task) s.undone (ap not undone));
        to_come = λ id le. s.to_come id (omega (arith, le, one));
      }

  pub sound_taken : (tasks : Tasks S O) (m : FinMap nat_cmp O) (id : ℕ) → m ≡ remove tasks.outputs id → AreValidTasks done tasks → AreValidTasks done (record tasks { outputs = m })
  sound_taken tasks m id e s = record {
    ordered = subst (λ x. are_in_order x tasks.next 0 tasks.unfinished ≡ true) (sym e) (output_gone tasks.outputs tasks.next 0 id tasks.unfinished s.ordered);
    undone = s.undone;
    to_come = λ q le. ap (λ x. get x q) e ∙ still_none tasks.outputs id q (s.to_come q le);
  }
