-- One enter, as a stretch of rounds.
use Rattle.std.proofs.Common.{◌≡◌, ℕ, ◌+◌, ◌-◌, ◌<◌, ◌≤◌, inl, inr, Bool, true, false, List, [], ◌∷◌, ◌++◌, length, map, Option, Some, None, IfSome, refl, ap, sym, subst, ◌∙◌, arith, append-nil, length-append}
use Rattle.std.specs.Bool.{OnTrue}
use Rattle.uring_base.specs.declared.events.Taken.{Taken}
use Rattle.uring_base.specs.declared.events.Completion.{Completion}
use Rattle.uring_base.specs.declared.events.LogEvent.{LogEvent}
use Rattle.uring_model.specs.Moves.{Move, Turned, Took, Posted, Quieted, took, posted, IsLogged}
use Rattle.uring_model.specs.Schedule.{Machine, State, EntryEnd, ByPost, Quietly, IsServed, ended, cut_of, after_take, take_all, turn}
use Rattle.uring_model.specs.Machine.{Files}
use Rattle.uring_model.specs.Partner.{file_machine}
use Rattle.uring_model.specs.Progress.{turns, TurnsSettle}
use Rattle.uring_model.specs.Honest.{TakesWithinTurns}
use Rattle.uring_model.specs.Refines.{WorldLaws, viewed}
use Rattle.uring_model.proofs.Joins.{took_turn}
use Rattle.uring_model.proofs.Whole.{turns_settle}
use Rattle.ring_traits.specs.Lists.{Lists, Moves, WhereTold, room_of}
use Rattle.partner_traits.specs.Calls.{Enters, IsCall, IsTurn, IsTurnOver, IsFullTurn}
use Rattle.partner_serving.specs.Serving.{EachWorks, HasAnswers, Serving}
use Rattle.partner_serving.specs.Rounds.{TellsDue, DueTurnsWork}

-- what holds where a value is told

pub told_all : {A : Type 0} {B : A → Type 0} (o : Option A) → ((a : A) → B a) → IfSome o B
told_all None f = tt
told_all (Some a) f = f a

pub told_then : {A : Type 0} {B C : A → Type 0} (o : Option A) → ((a : A) → B a → C a) → IfSome o B → IfSome o C
told_then None f h = tt
told_then (Some a) f h = f a h

-- takes stay within the turn's number

within_rest : (left : ℕ) (ms : List Move) → turns ms ≡ 0 → length (took ms) ≤ left → TakesWithinTurns left ms
within_rest left [] z h = tt
within_rest left (Turned p ∷ ms) z h = absurd (omega arith)
within_rest left (Took t ∷ ms) z h = (omega arith, within_rest (left - 1) ms z (omega arith))
within_rest left (Posted d ∷ ms) z h = within_rest left ms z h
within_rest left (Quieted n ∷ ms) z h = within_rest left ms z h

within_turn : (asked : ℕ) (lists : Option Lists) (ms : List Move) → IsTurn asked lists ms → TakesWithinTurns 0 ms
within_turn asked lists ms t = subst (TakesWithinTurns 0) (sym t.moves) (within_rest t.p t.rest t.one t.few)

pub within_call : (ok : Bool) (asked : ℕ) (lists : Option Lists) (ms : List Move) → IsCall ok asked lists ms → TakesWithinTurns 0 ms
within_call true asked lists ms t = within_turn asked lists ms t
within_call false asked lists ms t = elim t [
  | inl e ↦ subst (TakesWithinTurns 0) (sym e) tt
  | inr u ↦ within_turn asked lists ms u
]

pub one_turn : (asked : ℕ) (lists : Option Lists) (ms : List Move) → IsTurn asked lists ms → turns ms ≡ 1
one_turn asked lists ms t = omega (arith, ap turns t.moves, t.one)

-- a refused call began one turn at most
pub at_most_one : (asked : ℕ) (lists : Option Lists) (ms : List Move) → IsCall false asked lists ms → turns ms ≤ 1
at_most_one asked lists ms t = elim t [
  | inl e ↦ omega (arith, ap turns e)
  | inr u ↦ omega (arith, one_turn asked lists ms u)
]

-- a turn that takes or settles works

ends_work : (es : List EntryEnd) → EachWorks false (map ended es)
ends_work [] = refl
ends_work (ByPost c ∷ es) = ends_work es
ends_work (Quietly n ∷ es) = ends_work es

rest_works : (ts : List Taken) (es : List EntryEnd) → EachWorks false (map Took ts ++ map ended es)
rest_works [] es = ends_work es
rest_works (t ∷ ts) es = rest_works ts es

some_work : (ts : List Taken) (es : List EntryEnd) → 0 < length ts + length es → EachWorks true (map Took ts ++ map ended es)
some_work [] [] h = absurd (omega arith)
some_work [] (ByPost c ∷ es) h = ends_work es
some_work [] (Quietly n ∷ es) h = ends_work es
some_work (t ∷ ts) es h = rest_works ts es

pending_more : {W : Type 0} (a : State W) (ts : List Taken) → length (take_all a ts).pending ≡ length a.pending + length ts
pending_more a [] = omega arith
pending_more a (t ∷ ts) =
    let one : length (a.pending ++ record { taken = t; cut = cut_of a.tail; marked = false } ∷ []) ≡ length a.pending + 1 = simp length-append (omega arith) in
    omega (arith, pending_more (after_take a t) ts, one)

took_all : {W : Type 0} (m : Machine W) (a : State W) (ready space : ℕ) (lists : Option Lists) (ms : List Move) (t : IsTurnOver m a ready space lists ms) → took ms ≡ t.ts
took_all m a ready space lists ms t = ap took t.moves ∙ took_turn t.ts (turn m t.ts t.room a).ends

module _ {W : Type 0} (m : Machine W) (view : W → Files) (Plain : W → Type 0) where
  -- where the machine has its answers, an entry settles once one is pending and there is room
  settles : WorldLaws m view Plain → TurnsSettle file_machine → (room : ℕ) (ts : List Taken) (a : State W) → HasAnswers m Plain (Some a) ts → 0 < length a.pending → 0 < room → 0 < length (turn m ts room a).ends
  settles laws files room ts a has pends fits = elim has [
    | inl always ↦ turns_settle m always room ts a (omega (arith, pending_more a ts, pends)) fits
    | inr plain ↦
        let seen = laws.turns_seen room ts a plain.0 plain.1 in
        omega (arith, ap length seen.0, files room ts (viewed view a) (omega (arith, pending_more (viewed view a) ts, pends)) fits)
  ]

  pub due_turns : WorldLaws m view Plain → TurnsSettle file_machine → DueTurnsWork m Plain
  due_turns laws files a ready space lists ms has due t = subst (EachWorks false) (sym t.moves) (
    refl,
    some_work t.ts (turn m t.ts t.room a).ends (elim due [
      | inl some ↦ omega (arith, t.takes, some)
      | inr both ↦
          let here = subst (HasAnswers m Plain (Some a)) (took_all m a ready space lists ms t) has in
          omega (arith, settles laws files t.room t.ts a here both.0 (omega (arith, t.fits, both.1)))
    ]),
  )

-- one enter is a stretch

pub works_when : {A : Type 0} (ok : Bool) (ms : List Move) → (ok ≡ true → A → EachWorks false ms) → OnTrue ok (A → EachWorks false ms)
works_when true ms f = f refl
works_when false ms f = tt

-- (its moves are these, so it is open)
abbrev pub serving_of : {W : Type 0} (m : Machine W) (Plain : W → Type 0) {P Q : Type 0} (log : P → Option (List LogEvent)) (state : P → Option (State W)) (moved : Q → List Taken → List Completion → Q → Type 0) (ok : Bool) (asked : ℕ) (lists : Option Lists) (old new : P) (from to : Q) (ms : List Move)
    → Enters m log state moved old new from to ms → IsCall ok asked lists ms → (ok ≡ true → HasAnswers m Plain (state old) (took ms) → EachWorks false ms) → Serving m Plain ok (log old) (log new) (state old) (state new) (took ms) (posted ms)
serving_of m Plain log state moved ok asked lists old new from to ms e call works = record {
  moves = ms;
  takes = refl;
  posts = refl;
  logs = e.logs;
  states = e.states;
  within = within_call ok asked lists ms call;
  works = works_when ok ms works;
}

-- a full turn that was due works, where the machine has its answers
pub full_works : {W : Type 0} (m : Machine W) (Plain : W → Type 0) → DueTurnsWork m Plain → (o : Option (State W)) (ready space : ℕ) (lists : Option Lists) (ms : List Move)
    → IfSome o (TellsDue true ready space) → IsFullTurn m o ready space lists ms → HasAnswers m Plain o (took ms) → EachWorks false ms
full_works m Plain law None ready space lists ms due t has = absurd has
full_works m Plain law (Some a) ready space lists ms due t has = law a ready space lists ms has due t

-- what stays while a side is only looked at

abbrev SameRings : (Completion → Completion) → Option Lists → Option Lists → Type 0
SameRings kept before after = WhereTold (λ l m. Moves kept l [] [] m) before after

same_room : (kept : Completion → Completion) (l m : Lists) → Moves kept l [] [] m → room_of m ≡ room_of l
same_room kept l m s =
    let posts : length m.completions ≡ length l.completions = ap length (s.posted ∙ append-nil l.completions) in
    omega (arith, posts, s.held, s.completion_capacity)

-- a turn over what is known after a look is one over what was known before it
turn_before : {W : Type 0} (m : Machine W) (kept : Completion → Completion) (a : State W) (ready known space more : ℕ) (before after : Option Lists) (ms : List Move) → ready ≤ known → space ≤ more → SameRings kept before after → IsTurnOver m a known more after ms → IsTurnOver m a ready space before ms
turn_before m kept a ready known space more before after ms le fits same t = record {
  ts = t.ts;
  room = t.room;
  takes = omega (arith, le, t.takes);
  fits = omega (arith, fits, t.fits);
  moves = t.moves;
  told = told before after same t.told;
}
  where
    told : (before after : Option Lists) → SameRings kept before after → IfSome after (λ l. turn m t.ts t.room a ≡ turn m t.ts (room_of l) a) → IfSome before (λ l. turn m t.ts t.room a ≡ turn m t.ts (room_of l) a)
    told None after s h = tt
    told (Some l) None s h = absurd (s tt)
    told (Some l) (Some k) s h = h ∙ ap (λ n. turn m t.ts n a) (same_room kept l k s)

pub full_before : {W : Type 0} (m : Machine W) (kept : Completion → Completion) (o : Option (State W)) (ready known space more : ℕ) (before after : Option Lists) (ms : List Move) → ready ≤ known → space ≤ more → SameRings kept before after → IsFullTurn m o known more after ms → IsFullTurn m o ready space before ms
full_before m kept None ready known space more before after ms le fits same t = tt
full_before m kept (Some a) ready known space more before after ms le fits same t = turn_before m kept a ready known space more before after ms le fits same t

-- whether an enter is due, by the lists before the look
pub due_before : {W : Type 0} (kept : Completion → Completion) (due : Bool) (o : Option (State W)) (n : ℕ) (before after : Option Lists) → IfSome before (λ l. n ≡ length l.published) → SameRings kept before after
    → IfSome after (λ l. IfSome o (TellsDue due n (room_of l))) → IfSome before (λ l. IfSome o (TellsDue due (length l.published) (room_of l)))
due_before kept due o n None after e s h = tt
due_before kept due o n (Some l) None e s h = absurd (s tt)
due_before kept due o n (Some l) (Some m) e s h = subst (λ k. IfSome o (TellsDue due k (room_of l))) e (subst (λ r. IfSome o (TellsDue due n r)) (same_room kept l m s) h)

-- where as many were taken as were published, none is left
none_published : (kept : Completion → Completion) (n : ℕ) (before after : Option Lists) (ts : List Taken) (cs : List Completion) → IfSome before (λ l. n ≡ length l.published) → WhereTold (λ l m. Moves kept l ts cs m) before after → n ≤ length ts → IfSome after (λ l. l.published ≡ [])
none_published kept n before None ts cs e s h = tt
none_published kept n None (Some m) ts cs e s h = cc
none_published kept n (Some l) (Some m) ts cs e s h =
    let parts : length l.published ≡ length ts + length m.published = ap length s.taken ∙ length-append ts m.published in
    none_of m.published (omega (arith, e, parts, h))
  where
    none_of : (xs : List Taken) → length xs ≡ 0 → xs ≡ []
    none_of [] z = refl
    none_of (x ∷ xs) z = absurd (omega arith)

-- a whole turn takes at least what was known to wait
pub full_takes : {W : Type 0} (m : Machine W) (o : Option (State W)) (ready space : ℕ) (lists : Option Lists) (ms : List Move) → IsFullTurn m o ready space lists ms → IfSome o (λ a. ready ≤ length (took ms))
full_takes m None ready space lists ms t = tt
full_takes m (Some a) ready space lists ms t = omega (arith, t.takes, ap length (took_all m a ready space lists ms t))

pub full_empties : {W : Type 0} (m : Machine W) (kept : Completion → Completion) (o : Option (State W)) (n ready space : ℕ) (lists before after : Option Lists) (ms : List Move) (cs : List Completion) → n ≡ ready → IfSome before (λ l. n ≡ length l.published) → WhereTold (λ l k. Moves kept l (took ms) cs k) before after
    → IsFullTurn m o ready space lists ms → IfSome o (λ a. IfSome after (λ l. l.published ≡ []))
full_empties m kept None n ready space lists before after ms cs same e s t = tt
full_empties m kept (Some a) n ready space lists before after ms cs same e s t = none_published kept n before after (took ms) cs e s (omega (arith, same, t.takes, ap length (took_all m a ready space lists ms t)))

-- no enter

pub unlogged : (log : Option (List LogEvent)) → IsLogged log [] log
unlogged None = refl
unlogged (Some l) = ap Some (sym (append-nil l))

pub unserved : {W : Type 0} (m : Machine W) (o : Option (State W)) → IsServed m o [] o
unserved m None = refl
unserved m (Some a) = refl

-- (its moves are none, so it is open)
abbrev pub no_enter : {W : Type 0} (m : Machine W) (Plain : W → Type 0) (log : Option (List LogEvent)) (o : Option (State W)) → Serving m Plain true log log o o [] []
no_enter m Plain log o = record { moves = []; takes = refl; posts = refl; logs = unlogged log; states = unserved m o; within = tt; works = λ has. refl }
