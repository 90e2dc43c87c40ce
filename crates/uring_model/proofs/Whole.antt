-- A whole turn of any machine, as a function.
use Rattle.std.specs.Prelude.{◌≡◌, ℕ, ◌+◌, ◌<◌, ◌≤◌, zero, suc, Bool, true, false, cond, List, [], ◌∷◌, ◌++◌, length, map, Option, Some, None, refl}
use Rattle.std.proofs.Common.{ap, sym, subst, arith}
use Rattle.uring_base.specs.declared.events.Taken.{Taken}
use Rattle.uring_model.specs.declared.pending.Pending.{Pending}
use Rattle.uring_model.specs.Chosen.{choice, stops}
use Rattle.uring_model.specs.Moves.{Move, Turned, Took, Posted, Quieted}
use Rattle.uring_model.specs.Schedule.{Machine, State, Cursor, ready_cursors, EntryEnd, ByPost, Quietly, ended, posts_of, room_after, ends_turn, ending, answer_to, completion_of, is_quiet_end, named, cursors, after_take, Steps, Outturn, stays, settled_by, end_of, settle_then, settle_turn, take_all, turn}
use Rattle.uring_model.specs.Partner.{file_machine, PartnerState}
use Rattle.uring_model.specs.Partner as files
use Rattle.uring_model.specs.Turn as file_turns
use Rattle.uring_model.specs.Progress.{moves_of_turn, turns, settlings, EachSettles, TurnsAreMoves, PostsFitRoom, TurnsAreFew, ReadySettles, AlwaysAnswers, TurnsSettle}
use Rattle.uring_model.proofs.Progress.{names_one, some_ready, front_ready, none_is_lost}

pub take_all_more : {W : Type 0} (a : State W) (ts : List Taken) (t : Taken) → take_all a (ts ++ t ∷ []) ≡ after_take (take_all a ts) t
take_all_more a [] t = refl
take_all_more a (u ∷ ts) t = take_all_more (after_take a u) ts t

-- where an entry settles in each turn, turns are at most as many as settlings

abbrev pub owes : Bool → ℕ
owes true = 1
owes false = 0

pub turns_le : (owed : Bool) (ms : List Move) → EachSettles owed ms → turns ms + owes owed ≤ settlings ms
turns_le owed [] h = rw h (omega arith)
turns_le owed (Turned p ∷ ms) h = rw h.0 (omega (arith, turns_le true ms h.1))
turns_le owed (Took t ∷ ms) h = turns_le owed ms h
turns_le true (Posted c ∷ ms) h = omega (arith, turns_le false ms h)
turns_le false (Posted c ∷ ms) h = omega (arith, turns_le false ms h)
turns_le true (Quieted n ∷ ms) h = omega (arith, turns_le false ms h)
turns_le false (Quieted n ∷ ms) h = omega (arith, turns_le false ms h)

ends_paid : (es : List EntryEnd) → EachSettles false (map ended es)
ends_paid [] = refl
ends_paid (ByPost c ∷ es) = ends_paid es
ends_paid (Quietly n ∷ es) = ends_paid es

ends_pay : (owed : Bool) (es : List EntryEnd) → 0 < length es → EachSettles owed (map ended es)
ends_pay owed [] h = absurd (omega arith)
ends_pay owed (ByPost c ∷ es) h = ends_paid es
ends_pay owed (Quietly n ∷ es) h = ends_paid es

takes_owe : (ts : List Taken) (ms : List Move) → EachSettles true ms → EachSettles true (map Took ts ++ ms)
takes_owe [] ms h = h
takes_owe (t ∷ ts) ms h = takes_owe ts ms h

pub pays : (p : ℕ) (ts : List Taken) (es : List EntryEnd) → 0 < length es → EachSettles false (moves_of_turn p ts es)
pays p ts es h = (refl, takes_owe ts (map ended es) (ends_pay true es h))

settles-append : (owed : Bool) (ms ns : List Move) → EachSettles owed ms → EachSettles false ns → EachSettles owed (ms ++ ns)
settles-append owed [] ns h k = subst (λ b. EachSettles b ns) (sym h) k
settles-append owed (Turned p ∷ ms) ns h k = (h.0, settles-append true ms ns h.1 k)
settles-append owed (Took t ∷ ms) ns h k = settles-append owed ms ns h k
settles-append owed (Posted c ∷ ms) ns h k = settles-append false ms ns h k
settles-append owed (Quieted n ∷ ms) ns h k = settles-append false ms ns h k

pub settles_join : (ms ns : List Move) → EachSettles false ms → EachSettles false ns → EachSettles false (ms ++ ns)
settles_join ms ns h k = settles-append false ms ns h k

pub turns-append : (ms ns : List Move) → turns (ms ++ ns) ≡ turns ms + turns ns
turns-append [] ns = omega arith
turns-append (Turned p ∷ ms) ns = omega (arith, turns-append ms ns)
turns-append (Took t ∷ ms) ns = turns-append ms ns
turns-append (Posted c ∷ ms) ns = turns-append ms ns
turns-append (Quieted n ∷ ms) ns = turns-append ms ns

-- one more end, in the room that it leaves

fits_more : (room n : ℕ) (e : EntryEnd) (es : List EntryEnd) → n ≡ room_after room e → length (posts_of es) ≤ n → length (posts_of (e ∷ es)) ≤ suc room
fits_more room n (ByPost c) es e h = omega (arith, e, h)
fits_more room n (Quietly k) es e h = omega (arith, e, h)

fits_none : (room : ℕ) (e : EntryEnd) → length (posts_of (e ∷ [])) ≤ suc room
fits_none room (ByPost c) = omega arith
fits_none room (Quietly n) = omega arith

one_at_most : {W : Type 0} (stop : Bool) (room : ℕ) (e : EntryEnd) (a : State W) (t : Outturn W) → length (posts_of t.ends) ≤ room_after room e → length (posts_of (ending e (cond stop (stays a) t)).ends) ≤ suc room
one_at_most true room e a t h = fits_none room e
one_at_most false room e a t h = fits_more room (room_after room e) e t.ends refl h

module _ {W : Type 0} (m : Machine W) where
  -- its moves are steps

  steps_or : (over b : Bool) (s : State W) (t : Outturn W) → (over ≡ true → b ≡ true) → Steps m false s (map ended t.ends) t.state → Steps m over s (map ended (cond b (stays s) t).ends) (cond b (stays s) t).state
  steps_or over true s t e h = refl
  steps_or true false s t e h = let bad : false ≡ true = e refl in cc
  steps_or false false s t e h = h

  -- one end and the turn behind it, by whether it is quiet
  steps_end : (a : State W) (c : Cursor) (t : Outturn W) (quiet : Bool) → is_quiet_end m a.world c ≡ quiet → named (choice a.choices) (cursors m a) ≡ Some c → Steps m false (settled_by m a c) (map ended t.ends) t.state
      → (e : EntryEnd) → e ≡ cond quiet (Quietly c.item.taken.entry.user_data) (ByPost (completion_of m c.item.taken (answer_to m a.world c)))
      → Steps m false a (map ended (ending e (cond (ends_turn (stops (choice a.choices)) e) (stays (settled_by m a c)) t)).ends) (cond (ends_turn (stops (choice a.choices)) e) (stays (settled_by m a c)) t).state
  steps_end a c t true is chosen h e same =
      subst (λ e. Steps m false a (map ended (ending e (cond (ends_turn (stops (choice a.choices)) e) (stays (settled_by m a c)) t)).ends) (cond (ends_turn (stops (choice a.choices)) e) (stays (settled_by m a c)) t).state) (sym same)
      (refl, record { cursor = c; chosen = chosen; quiet = is; number = refl }, h)
  steps_end a c t false is chosen h e same =
      subst (λ e. Steps m false a (map ended (ending e (cond (ends_turn (stops (choice a.choices)) e) (stays (settled_by m a c)) t)).ends) (cond (ends_turn (stops (choice a.choices)) e) (stays (settled_by m a c)) t).state) (sym same)
      (refl, record { cursor = c; chosen = chosen; posts = is; completion = refl }, steps_or (stops (choice a.choices)) (stops (choice a.choices)) (settled_by m a c) t (λ s. s) h)

  steps_then : (a : State W) (go : ℕ → State W → Outturn W) (room : ℕ) (o : Option Cursor) → ((room : ℕ) (b : State W) → Steps m false b (map ended (go room b).ends) (go room b).state) → named (choice a.choices) (cursors m a) ≡ o
      → Steps m false a (map ended (settle_then m a go room o).ends) (settle_then m a go room o).state
  steps_then a go room None h e = refl
  steps_then a go room (Some c) h e =
      steps_end a c (go (room_after room (end_of m a.world c)) (settled_by m a c)) (is_quiet_end m a.world c) refl e (h (room_after room (end_of m a.world c)) (settled_by m a c)) (end_of m a.world c) refl

  settles_turn : (left room : ℕ) (a : State W) → Steps m false a (map ended (settle_turn m left room a).ends) (settle_turn m left room a).state
  settles_turn zero room a = refl
  settles_turn (suc left) zero a = refl
  settles_turn (suc left) (suc room) a = steps_then a (settle_turn m left) room (named (choice a.choices) (cursors m a)) (settles_turn left) refl

  takes_first : (a c : State W) (ts : List Taken) (ms : List Move) → Steps m false (take_all a ts) ms c → Steps m false a (map Took ts ++ ms) c
  takes_first a c [] ms h = h
  takes_first a c (t ∷ ts) ms h = (refl, takes_first (after_take a t) c ts ms h)

  -- the moves of a turn, whatever was before
  pub turns_are_moves : TurnsAreMoves m
  turns_are_moves over p room ts a = takes_first a (turn m ts room a).state ts (map ended (turn m ts room a).ends) (settles_turn (length (take_all a ts).pending) room (take_all a ts))

  -- where anything is ready and there is room, an entry settles

  some_end : (a : State W) (go : ℕ → State W → Outturn W) (room : ℕ) (o : Option Cursor) (c : Cursor) → o ≡ Some c → 0 < length (settle_then m a go room o).ends
  some_end a go room None c e = cc
  some_end a go room (Some d) c e = omega arith

  some_pending : (can : Taken → Bool) (is : List Pending) → 0 < length (ready_cursors can [] is) → 0 < length is
  some_pending can [] h = h
  some_pending can (i ∷ is) h = omega arith

  ready_ends : (left room : ℕ) (a : State W) → 0 < left → 0 < length (cursors m a) → 0 < room → 0 < length (settle_turn m left room a).ends
  ready_ends zero room a l h r = absurd (omega arith)
  ready_ends (suc left) zero a l h r = absurd (omega arith)
  ready_ends (suc left) (suc room) a l h r =
      let some = names_one (choice a.choices) (cursors m a) h in
      some_end a (settle_turn m left) room (named (choice a.choices) (cursors m a)) some.0 some.1

  pub ready_settles : ReadySettles m
  ready_settles room ts a h r = ready_ends (length (take_all a ts).pending) room (take_all a ts) (some_pending (m.can_answer (take_all a ts).world) (take_all a ts).pending h) h r

  pub turns_settle : AlwaysAnswers m → TurnsSettle m
  turns_settle always room ts a h r = ready_settles room ts a (some_ready (m.can_answer (take_all a ts).world) (take_all a ts).pending (front_ready m always (take_all a ts).world) h) r

  -- so all settle within as many turns as entries
  pub turns_are_few : TurnsAreFew m
  turns_are_few over a b ms e h w = omega (arith, none_is_lost m over a b ms h, turns_le false ms w, ap length e)

  -- a turn posts no more than it has room for

  settles_within : (a : State W) (go : ℕ → State W → Outturn W) (room : ℕ) (o : Option Cursor) → ((room : ℕ) (b : State W) → length (posts_of (go room b).ends) ≤ room) → length (posts_of (settle_then m a go room o).ends) ≤ suc room
  settles_within a go room None h = omega arith
  settles_within a go room (Some c) h =
      let e = end_of m a.world c in
      one_at_most (ends_turn (stops (choice a.choices)) e) room e (settled_by m a c) (go (room_after room e) (settled_by m a c)) (h (room_after room e) (settled_by m a c))

  turn_fits : (left room : ℕ) (a : State W) → length (posts_of (settle_turn m left room a).ends) ≤ room
  turn_fits zero room a = omega arith
  turn_fits (suc left) zero a = omega arith
  turn_fits (suc left) (suc room) a = settles_within a (settle_turn m left) room (named (choice a.choices) (cursors m a)) (turn_fits left)

  pub posts_fit_room : PostsFitRoom m
  posts_fit_room room ts a = turn_fits (length (take_all a ts).pending) room (take_all a ts)

-- at the file machine
pub whole_turn : (over : Bool) (p room : ℕ) (ts : List Taken) (a : PartnerState) → files.Steps over a (moves_of_turn p ts (file_turns.turn ts room a).ends) (file_turns.turn ts room a).state
whole_turn over p room ts a = turns_are_moves file_machine over p room ts a
