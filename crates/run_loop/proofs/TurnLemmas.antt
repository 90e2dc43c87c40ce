-- A run as whole turns: each round that went well is one more.
use Rattle.std.proofs.Common.{◌≡◌, ℕ, ◌+◌, ◌-◌, ◌≤◌, Bool, true, List, [], ◌∷◌, ◌++◌, length, Option, Some, Ok, refl, ap, sym, subst, ◌∙◌, arith, append_assoc, append-nil, length-append}
use Rattle.std.specs.List.{AllByRecursion}
use Rattle.uring_base.specs.declared.events.Taken.{Taken}
use Rattle.uring_base.specs.declared.events.Completion.{Completion}
use Rattle.uring_base.specs.declared.events.LogEvent.{LogEvent}
use Rattle.uring_model.specs.Chosen.{choice, stops}
use Rattle.uring_model.specs.Machine.{Files}
use Rattle.uring_model.specs.Moves.{Move, Turned, Took, Posted, Quieted, took}
use Rattle.uring_model.specs.Schedule as schedule
use Rattle.uring_model.specs.Schedule.{Machine, State, Cursor, Steps, IsServed, after_take, settled_by, turn}
use Rattle.uring_model.specs.Progress.{TurnsAreMoves, moves_of_turn}
use Rattle.ring_traits.specs.Lists.{Lists, room_of}
use Rattle.partner_traits.specs.Calls.{IsTurnOf, IsWholeTurn}
use Rattle.run_loop.specs.declared.entries.Offer.{Offer}
use Rattle.run_loop.specs.declared.slot.Slot.{Slot}
use Rattle.run_loop.specs.Turns.{turn_moves, after_turns}
use Rattle.run_loop.proofs.Prompt.{served_some, took_turn}
use Rattle.run_loop.proofs.Running.{Next, same_lists, on_true}

turns-append : {W : Type 0} (m : Machine W) (room : ℕ) (a : State W) (xs ys : List (List Taken)) → turn_moves m room a (xs ++ ys) ≡ turn_moves m room a xs ++ turn_moves m room (after_turns m room a xs) ys
turns-append m room a [] ys = refl
turns-append m room a (ts ∷ xs) ys =
    ap (λ l. moves_of_turn (length ts) ts (turn m ts room a).ends ++ l) (turns-append m room (turn m ts room a).state xs ys)
    ∙ sym (append_assoc (moves_of_turn (length ts) ts (turn m ts room a).ends) (turn_moves m room (turn m ts room a).state xs) (turn_moves m room (after_turns m room (turn m ts room a).state xs) ys))

after-append : {W : Type 0} (m : Machine W) (room : ℕ) (a : State W) (xs ys : List (List Taken)) → after_turns m room a (xs ++ ys) ≡ after_turns m room (after_turns m room a xs) ys
after-append m room a [] ys = refl
after-append m room a (ts ∷ xs) ys = after-append m room (turn m ts room a).state xs ys

all-append : (n : ℕ) (xs : List (List Taken)) (ts : List Taken) → AllByRecursion (λ l. length l ≤ n) xs → length ts ≤ n → AllByRecursion (λ l. length l ≤ n) (xs ++ ts ∷ [])
all-append n [] ts h k = (k, tt)
all-append n (x ∷ xs) ts h k = (h.0, all-append n xs ts h.1 k)

some_cursor : (o : Option Cursor) (c d : Cursor) → o ≡ Some c → o ≡ Some d → c ≡ d
some_cursor o c d p q = let e : ◌≡◌ {A = Option Cursor} (Some c) (Some d) = sym p ∙ q in cc

-- moves lead from a state to one alone
same_end : {W : Type 0} (m : Machine W) (over : Bool) (a b c : State W) (ms : List Move) → Steps m over a ms b → Steps m over a ms c → b ≡ c
same_end m over a b c [] p q = p ∙ sym q
same_end m over a b c (Turned n ∷ ms) p q = same_end m _ a b c ms p q
same_end m over a b c (Took t ∷ ms) p q = same_end m _ (after_take a t) b c ms p.1 q.1
same_end m over a b c (Posted d ∷ ms) p q =
    let e = some_cursor _ p.1.cursor q.1.cursor p.1.chosen q.1.chosen in
    same_end m (stops (choice a.choices)) (settled_by m a q.1.cursor) b c ms (subst (λ k. Steps m (stops (choice a.choices)) (settled_by m a k) ms b) e p.2) q.2
same_end m over a b c (Quieted d ∷ ms) p q =
    let e = some_cursor _ p.1.cursor q.1.cursor p.1.chosen q.1.chosen in
    same_end m _ (settled_by m a q.1.cursor) b c ms (subst (λ k. Steps m _ (settled_by m a k) ms b) e p.2) q.2

-- These moves are whole turns from the state a, and led to the state that is told now.
pub record InTurns {W : Type 0} (m : Machine W) (capacity room : ℕ) (a : State W) (ms : List Move) (now : Option (State W)) : Type 0 where
  pub taken : List (List Taken)
  pub fits : AllByRecursion (λ ts. length ts ≤ capacity) taken
  pub moves : ms ≡ turn_moves m room a taken
  pub state : now ≡ Some (after_turns m room a taken)

pub in_turns_first : {W : Type 0} (m : Machine W) (capacity room : ℕ) (a : State W) (now : Option (State W)) → now ≡ Some a → InTurns m capacity room a [] now
in_turns_first m capacity room a now e = record { taken = []; fits = tt; moves = refl; state = e }

in_turns_more : {W : Type 0} (m : Machine W) → TurnsAreMoves m → (capacity room : ℕ) (a : State W) (ms ns : List Move) (now new : Option (State W)) (at : Lists) (after : List Taken) → room_of at ≡ room → length at.published ≤ capacity → at.published ≡ took ns ++ after
    → IsServed m now ns new → IsWholeTurn m now (Some at) ns → InTurns m capacity room a ms now → InTurns m capacity room a (ms ++ ns) new
in_turns_more m laws capacity room a ms ns now new at after room_is few split served whole t =
    let b = after_turns m room a t.taken in
    let w : IsTurnOf m b at ns = subst (λ o. IsWholeTurn m o (Some at) ns) t.state whole in
    let s = served_some m b ns new (subst (λ o. IsServed m o ns new) t.state served) in
    let made : ns ≡ moves_of_turn (length w.ts) w.ts (turn m w.ts room b).ends = w.moves ∙ ap (λ r. moves_of_turn (length w.ts) w.ts (turn m w.ts r b).ends) room_is in
    let led : Steps m true b ns (turn m w.ts room b).state = subst (λ l. Steps m true b l (turn m w.ts room b).state) (sym made) (laws true (length w.ts) room w.ts b) in
    let ends : s.0 ≡ (turn m w.ts room b).state = same_end m true b s.0 (turn m w.ts room b).state ns s.2 led in
    let takes : took ns ≡ w.ts = ap took w.moves ∙ took_turn w.ts (turn m w.ts (room_of at) b).ends in
    let count : length at.published ≡ length w.ts + length after = ap length split ∙ length-append (took ns) after ∙ ap (λ l. length l + length after) takes in
    record {
      taken = t.taken ++ w.ts ∷ [];
      fits = all-append capacity t.taken w.ts t.fits (omega (arith, count, few));
      moves = (λ i. t.moves i ++ made i) ∙ ap (λ l. turn_moves m room a t.taken ++ l) (sym (append-nil (moves_of_turn (length w.ts) w.ts (turn m w.ts room b).ends))) ∙ sym (turns-append m room a t.taken (w.ts ∷ []));
      state = s.1 ∙ ap (λ c. Some c) (ends ∙ sym (after-append m room a t.taken (w.ts ∷ [])));
    }

pub turns_next : {W : Type 0} (mach : schedule.Machine W) (view : W → Files) (Plain : W → Type 0) {P R : Type 0} (log : P → Option (List LogEvent)) (state : P → Option (schedule.State W)) (lists : R → Option Lists) (kept : Completion → Completion) (first now new : P) (from to : R) (room : ℕ) (todo todo' : List Taken) (started started' : ℕ) (slots slots' : List Slot) (offers : List Offer) (capacity idle idled : ℕ) (went : Bool) (x : Next mach view Plain log state lists kept first now new from to room todo todo' started started' slots slots' offers capacity idle idled (Ok went)) (posts : ℕ) (a : State W) → x.run.l.completion_capacity ≡ posts → InTurns mach capacity posts a x.run.ms (state now) → InTurns mach capacity posts a (x.run.ms ++ x.round.ms) (state new)
turns_next mach view Plain log state lists kept first now new from to room todo todo' started started' slots slots' offers capacity idle idled went x posts a holds t =
    let same = same_lists mach view Plain log state lists kept first now new from to room todo todo' started started' slots slots' offers capacity idle idled (Ok went) x in
    let at_room : room_of x.round.at ≡ x.run.l.completion_capacity - (length x.run.l.completions + 0) = ap room_of x.round.published ∙ ap (λ l. l.completion_capacity - (length l.completions + 0)) same in
    let none : length x.run.l.completions ≡ 0 = ap length x.run.calm.completions in
    let size : x.round.at.capacity ≡ capacity = ap (λ y. y.capacity) x.round.published ∙ ap (λ y. y.capacity) same ∙ x.run.size in
    let fits = x.round.fits.entries in
    in_turns_more mach x.laws.world.moves capacity posts a x.run.ms x.round.ms (state now) (state new) x.round.at x.round.after.published (omega (arith, at_room, none, holds)) (omega (arith, size, fits)) x.round.taken x.round.states
    (on_true x.round.entered (IsWholeTurn mach (state now) (Some x.round.at) x.round.ms) x.round.enters.0 x.round.whole) t
