-- Stretches of rounds, one after the other and by their turns.
use Rattle.std.proofs.Common.{◌≡◌, ℕ, ◌+◌, ◌≤◌, inl, inr, Bool, true, false, ◌&&◌, List, [], ◌∷◌, ◌++◌, length, Option, Some, None, refl, ap, sym, subst, ◌∙◌, arith}
use Rattle.std.specs.Bool.{OnTrue}
use Rattle.std.specs.List.{AllByRecursion}
use Rattle.uring_base.specs.declared.events.Taken.{Taken}
use Rattle.uring_model.specs.Machine.{Files}
use Rattle.uring_model.specs.Moves.{Move, Turned, Took, Posted, Quieted, took, posted}
use Rattle.uring_model.specs.Schedule.{Machine, State, IsServed}
use Rattle.uring_model.specs.Asks.{IsJobEntry}
use Rattle.uring_model.specs.Progress.{turns, settlings}
use Rattle.uring_model.specs.Joins.{MovesJoin, NoMoveStays}
use Rattle.uring_model.specs.Refines.{WorldLaws}
use Rattle.partner_serving.specs.Serving.{EachWorks, HasAnswers, ServingsJoin, NoRoundServes, WorkingTurnsAreFew, UnbrokenTurnsAreFew}

-- lists

pub front_of : {A : Type 0} (P : A → Type 0) (xs ys : List A) → AllByRecursion P (xs ++ ys) → AllByRecursion P xs
front_of P [] ys h = tt
front_of P (x ∷ xs) ys h = (h.0, front_of P xs ys h.1)

pub back_of : {A : Type 0} (P : A → Type 0) (xs ys : List A) → AllByRecursion P (xs ++ ys) → AllByRecursion P ys
back_of P [] ys h = h
back_of P (x ∷ xs) ys h = back_of P xs ys h.1

-- stretches in a row

works-append : (owed : Bool) (ms ns : List Move) → EachWorks owed ms → EachWorks false ns → EachWorks owed (ms ++ ns)
works-append owed [] ns h k = subst (λ b. EachWorks b ns) (sym h) k
works-append owed (Turned p ∷ ms) ns h k = (h.0, works-append true ms ns h.1 k)
works-append owed (Took t ∷ ms) ns h k = works-append false ms ns h k
works-append owed (Posted c ∷ ms) ns h k = works-append false ms ns h k
works-append owed (Quieted n ∷ ms) ns h k = works-append false ms ns h k

-- A and B are what each stretch asks, C what both ask.
both_work : {A B C : Type 0} (u v : Bool) (ms ns : List Move) → (C → A) → (C → B) → OnTrue u (A → EachWorks false ms) → OnTrue v (B → EachWorks false ns) → OnTrue (u && v) (C → EachWorks false (ms ++ ns))
both_work true true ms ns first then h k = λ c. works-append false ms ns (h (first c)) (k (then c))
both_work true false ms ns first then h k = tt
both_work false v ms ns first then h k = tt

-- how many turns a list of moves has whose turns work

abbrev owes : Bool → ℕ
owes true = 1
owes false = 0

turns_le : (owed : Bool) (ms : List Move) → EachWorks owed ms → turns ms + owes owed ≤ length (took ms) + settlings ms
turns_le owed [] h = rw h (omega arith)
turns_le owed (Turned p ∷ ms) h = rw h.0 (omega (arith, turns_le true ms h.1))
turns_le true (Took t ∷ ms) h = omega (arith, turns_le false ms h)
turns_le false (Took t ∷ ms) h = omega (arith, turns_le false ms h)
turns_le true (Posted c ∷ ms) h = omega (arith, turns_le false ms h)
turns_le false (Posted c ∷ ms) h = omega (arith, turns_le false ms h)
turns_le true (Quieted n ∷ ms) h = omega (arith, turns_le false ms h)
turns_le false (Quieted n ∷ ms) h = omega (arith, turns_le false ms h)

module _ {W : Type 0} (m : Machine W) (view : W → Files) (Plain : W → Type 0) (laws : WorldLaws m view Plain) where
  -- a machine that has its answers in both stretches has them in each

  first_answers : (o : Option (State W)) (ts us : List Taken) → HasAnswers m Plain o (ts ++ us) → HasAnswers m Plain o ts
  first_answers None ts us h = h
  first_answers (Some a) ts us h = elim h [ inl always ↦ inl always | inr plain ↦ inr (plain.0, front_of IsJobEntry ts us plain.1) ]

  then_answers : (o p : Option (State W)) (ms : List Move) (ts us : List Taken) → took ms ≡ ts → IsServed m o ms p → HasAnswers m Plain o (ts ++ us) → HasAnswers m Plain p us
  then_answers None p ms ts us e s h = absurd h
  then_answers (Some a) None ms ts us e s h = absurd (s tt)
  then_answers (Some a) (Some b) ms ts us e s h = elim h [
    | inl always ↦ inl always
    | inr plain ↦
        let six : AllByRecursion IsJobEntry (took ms) = subst (AllByRecursion IsJobEntry) (sym e) (front_of IsJobEntry ts us plain.1) in
        inr ((laws.steps_seen true a b ms plain.0 six s).1, back_of IsJobEntry ts us plain.1)
  ]

  pub servings_join : MovesJoin → ServingsJoin m Plain
  servings_join moves u v k l n a b c ts us cs ds p q = record {
    moves = p.moves ++ q.moves;
    takes = moves.takes p.moves q.moves ∙ ap (λ x. x ++ took q.moves) p.takes ∙ ap (λ x. ts ++ x) q.takes;
    posts = moves.posts p.moves q.moves ∙ ap (λ x. x ++ posted q.moves) p.posts ∙ ap (λ x. cs ++ x) q.posts;
    logs = moves.logs k l n p.moves q.moves p.logs q.logs;
    states = laws.join a b c p.moves q.moves p.states q.states;
    within = moves.within 0 p.moves q.moves p.within q.within;
    works = both_work u v p.moves q.moves (first_answers a ts us) (then_answers a b p.moves ts us p.takes p.states) p.works q.works;
  }

  pub no_round_serves : NoMoveStays → NoRoundServes m Plain
  no_round_serves moves log state = record { moves = []; takes = refl; posts = refl; logs = moves.logs log; states = laws.stay state; within = tt; works = λ has. refl }

  pub working_turns : WorkingTurnsAreFew m Plain
  working_turns over a b ms h w = omega (arith, laws.kept over a b ms h, turns_le false ms w)

  pub unbroken_turns : UnbrokenTurnsAreFew m Plain
  unbroken_turns log log' a b ts cs s has = omega (arith, working_turns true a b s.moves s.states (s.works has), ap length s.takes)
