-- A turn without choices settles all that is pending, where there is room.
use Rattle.std.proofs.Common.{◌≡◌, ℕ, ◌+◌, ◌≤◌, zero, suc, Bool, false, cond, List, [], ◌∷◌, length, drop, refl, ap, sym, subst, ◌∙◌, arith, length-append}
use Rattle.uring_base.specs.declared.events.Taken.{Taken}
use Rattle.uring_model.specs.declared.pending.Pending.{Pending}
use Rattle.uring_model.specs.Chosen.{choice, stops}
use Rattle.uring_model.specs.Schedule.{Machine, State, cut_of, cursors, EntryEnd, ByPost, Quietly, Outturn, ends_turn, ending, stays, room_after, end_of, settle_then, settle_turn, settled_by, after_take, take_all, turn}
use Rattle.uring_model.specs.Progress.{AlwaysAnswers}
use Rattle.uring_model.proofs.Progress.{front_ready, some_ready, names_one, one_left}

none_pending : (is : List Pending) → length is ≡ 0 → is ≡ []
none_pending [] e = refl
none_pending (i ∷ is) e = absurd (omega arith)

-- the turn goes on after an end that isn't its last
goes_on : {W : Type 0} (e : EntryEnd) (stop : Bool) (x y : Outturn W) → stop ≡ false → cond (ends_turn stop e) x y ≡ y
goes_on (ByPost c) stop x y h = rw h refl
goes_on (Quietly n) stop x y h = refl

room_left : (e : EntryEnd) (left room : ℕ) → left ≤ room → left ≤ room_after room e
room_left (ByPost c) left room h = h
room_left (Quietly n) left room h = omega arith

pub record SettledAll {W : Type 0} (count : ℕ) (t : Outturn W) : Type 0 where
  pub ends : length t.ends ≡ count
  pub pending : t.state.pending ≡ []
  pub choices : t.state.choices ≡ []

one_more : {W : Type 0} (e : EntryEnd) (count : ℕ) (t : Outturn W) → SettledAll count t → SettledAll (suc count) (ending e t)
one_more e count t s = record { ends = ap suc s.ends; pending = s.pending; choices = s.choices }

module _ {W : Type 0} (m : Machine W) (always : AlwaysAnswers m) where
  all_settle : (left room : ℕ) (a : State W) → a.choices ≡ [] → length a.pending ≡ left → left ≤ room → SettledAll left (settle_turn m left room a)
  all_settle zero room a none count fits = record { ends = refl; pending = none_pending a.pending count; choices = none }
  all_settle (suc left) zero a none count fits = absurd (omega arith)
  all_settle (suc left) (suc room) a none count fits =
      let ready = some_ready (m.can_answer a.world) a.pending (front_ready m always a.world) (omega (arith, count)) in
      let k = names_one (choice a.choices) (cursors m a) ready in
      let e = end_of m a.world k.0 in
      let b = settled_by m a k.0 in
      let less : length b.pending + 1 ≡ length a.pending = one_left m a k.0 k.1 in
      let more = all_settle left (room_after room e) b (ap (drop 1) none) (omega (arith, less, count)) (room_left e left room (omega arith)) in
      let goes : cond (ends_turn (stops (choice a.choices)) e) (stays b) (settle_turn m left (room_after room e) b) ≡ settle_turn m left (room_after room e) b = goes_on e (stops (choice a.choices)) (stays b) (settle_turn m left (room_after room e) b) (ap (λ cs. stops (choice cs)) none) in
      subst (λ o. SettledAll (suc left) (settle_then m a (settle_turn m left) room o)) (sym k.1)
      (subst (λ t. SettledAll (suc left) (ending e t)) (sym goes) (one_more e left (settle_turn m left (room_after room e) b) more))

  take_count : (a : State W) (ts : List Taken) → length (take_all a ts).pending ≡ length a.pending + length ts
  take_count a [] = omega arith
  take_count a (t ∷ ts) = take_count (after_take a t) ts ∙ (let n : length (after_take a t).pending ≡ length a.pending + 1 = length-append a.pending (record { taken = t; cut = cut_of a.tail; marked = false } ∷ []) in omega arith)

  take_choices : (a : State W) (ts : List Taken) → (take_all a ts).choices ≡ a.choices
  take_choices a [] = refl
  take_choices a (t ∷ ts) = take_choices (after_take a t) ts

  pub turn_settles_all : (room : ℕ) (ts : List Taken) (a : State W) → a.pending ≡ [] → a.choices ≡ [] → length ts ≤ room → SettledAll (length ts) (turn m ts room a)
  turn_settles_all room ts a rests none fits =
      let b = take_all a ts in
      let count : length b.pending ≡ length ts = (let n = take_count a ts in let z : length a.pending ≡ 0 = ap length rests in omega (arith, n, z)) in
      subst (λ n. SettledAll n (settle_turn m (length b.pending) room b)) count (all_settle (length b.pending) room b (take_choices a ts ∙ none) refl (omega (arith, count, fits)))
