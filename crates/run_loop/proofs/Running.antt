-- A run so far, and what one more round makes of it.
use Rattle.std.proofs.Common.{◌≡◌, ℕ, ◌+◌, ◌-◌, ◌*◌, ◌<◌, ◌≤◌, ◌⊎◌, inl, inr, zero, suc, Bool, true, false, ◌||◌, nat_lt, cond, List, [], ◌∷◌, ◌++◌, length, map, Result, Ok, Err, Option, Some, None, IfSome, IsTrue, refl, ap, sym, subst, ◌∙◌, arith, append_assoc, append-nil, length-append}
use Rattle.std.proofs.lemmas.Bool.Decides.{nat_tests}
use Rattle.std.proofs.lemmas.List.{length-map}
use Rattle.std.proofs.Math.Nat.{mul-le-mul_left, mul-le-mul_right, mul-suc, suc-mul}
use Rattle.uring_base.specs.declared.events.Taken.{Taken}
use Rattle.uring_base.specs.declared.events.Completion.{Completion}
use Rattle.uring_base.specs.declared.events.LogEvent.{LogEvent}
use Rattle.uring_model.specs.declared.jobs.RunFault.{RunFault}
use Rattle.uring_model.specs.declared.jobs.RunFault.TheVariants as faults
use Rattle.uring_model.specs.Replay.{IsBusy}
use Rattle.uring_model.specs.Moves.{Move, Turned, Took, Posted, Quieted, took, posted, log_of, journal_of, IsLogged}
use Rattle.uring_model.specs.Machine.{Files}
use Rattle.uring_model.specs.Schedule as schedule
use Rattle.uring_model.specs.Schedule.{turn, take_all, posts_of}
use Rattle.uring_model.specs.Refines.{IsPlainAndIdle}
use Rattle.uring_model.specs.Progress.{turns, EachSettles}
use Rattle.std.specs.List.{AllByRecursion}
use Rattle.uring_model.specs.Asks.{IsJobEntry}
use Rattle.uring_model.specs.Honest.{TakesWithinTurns}
use Rattle.uring_model.specs.Strange.{Seen, nothing_seen, all_seen, is_answered, ended_in, first_strange}
use Rattle.uring_model.specs.declared.jobs.Job.{Job}
use Rattle.ring_traits.specs.Lists.{Lists, IsKept, HasRoom, all_published, free_of, room_of, as_offered}
use Rattle.run_loop.proofs.Prompt.{six_front, six_back, took_turn, served_some, AllFinal, turn_final, final_any, stands, turn_pays, same_turn}
use Rattle.run_loop.proofs.Asks.{six_all}
use Rattle.run_loop.proofs.EntryLemmas.{offers_count}
use Rattle.run_loop.proofs.Quiets.{loud_last}
use Rattle.std.specs.Bool.{OnTrue}
use Rattle.partner_traits.specs.Calls.{IsCall, IsTurn, IsTurnOf, IsWholeTurn}
use Rattle.run_loop.specs.declared.entries.Offer.{Offer}
use Rattle.run_loop.specs.declared.slot.Slot.{Slot}
use Rattle.run_loop.specs.Entries.{all_taken, lends_in, quiets_in, offers_from, AllValid, AllInRange}
use Rattle.run_loop.specs.Laws.{ModelLaws}
use Rattle.run_loop.specs.Told.{idle_turns}
use Rattle.run_loop.specs.Slots.{slots_from, count_open, land_all, stranger_among, any_final}
use Rattle.run_loop.specs.Rounds.{pushed_more, IsCalm, goes_on, Round}
use Rattle.run_loop.specs.Driven.{Driven, IsOpenJob, IsGivenUp}
use Rattle.run_loop.specs.UserRounds.{UserRun}
use Rattle.run_loop.proofs.UserLemmas.{entries-length, user_first, user_entries, user_next}
use Rattle.run_loop.proofs.Posts.{Tells, last_is_quiet, tells_after, taken_after, strange-append, same_strangers, idle_turns-append, idle_rest, all_landed, none_landed, open_job, open_few, stranger_kept, land_kept, any_kept}

-- The run so far, which is one of its user's too: what was offered was taken or is published, and what was reaped are the posts.
-- None of these was strange when it came, and the turns are few.
pub record Running {W : Type 0} (mach : schedule.Machine W) (view : W → Files) (Plain : W → Type 0) {P R : Type 0} (log : P → Option (List LogEvent)) (state : P → Option (schedule.State W)) (lists : R → Option Lists) (first now : P) (ring : R) (room : ℕ) (todo : List Taken) (started : ℕ) (slots : List Slot) (offers : List Offer) (capacity idle idled : ℕ) : Type 0 where
  pub ms : List Move
  pub logs : IsLogged (log first) ms (log now)
  pub states : schedule.IsServed mach (state first) ms (state now)
  pub l : Lists
  pub told : lists ring ≡ Some l
  pub calm : IsCalm l room
  pub size : l.capacity ≡ capacity
  pub user : UserRun offers (took ms ++ l.published) todo (posted ms) started slots
  pub busy : IsBusy capacity (length offers) 0 (journal_of (log_of ms))
  pub within : TakesWithinTurns 0 ms
  pub few : turns ms + idle * (count_open slots + (length offers - length (took ms))) ≤ idle * (2 * length offers) + idled
  pub resting : count_open slots ≡ 0 → idled ≡ 0
  pub expected : first_strange (lends_in offers) (quiets_in offers) nothing_seen (log_of ms) ≡ None
  pub idled_is : idled ≡ idle_turns 0 (log_of ms)
  pub holds : (0 < l.capacity) × (0 < l.completion_capacity)
  pub jobs : List Job
  pub offered : offers ≡ offers_from 0 jobs
  pub valid : AllValid jobs
  pub range : AllInRange jobs
  pub prompt : (a : schedule.State W) → state first ≡ Some a → IsPlainAndIdle Plain a → (idled ≡ 0) × EachSettles false ms

-- turns that begin with the ring full or all offers pushed

busy_append : (c n k : ℕ) (ms ns : List Move) → IsBusy c n k (journal_of (log_of ms)) → IsBusy c n (k + length (took ms)) (journal_of (log_of ns)) → IsBusy c n k (journal_of (log_of (ms ++ ns)))
busy_append c n k [] ns p q = subst (λ j. IsBusy c n j (journal_of (log_of ns))) (omega arith) q
busy_append c n k (Turned t ∷ ms) ns p q = (p.0, busy_append c n k ms ns p.1 q)
busy_append c n k (Took t ∷ ms) ns p q = busy_append c n (k + 1) ms ns p (subst (λ j. IsBusy c n j (journal_of (log_of ns))) (omega arith) q)
busy_append c n k (Posted d ∷ ms) ns p q = busy_append c n k ms ns p q
busy_append c n k (Quieted d ∷ ms) ns p q = busy_append c n k ms ns p q

busy_rest : (c n k : ℕ) (ms : List Move) → turns ms ≡ 0 → IsBusy c n k (journal_of (log_of ms))
busy_rest c n k [] z = tt
busy_rest c n k (Turned p ∷ ms) z = absurd (omega arith)
busy_rest c n k (Took t ∷ ms) z = busy_rest c n (k + 1) ms z
busy_rest c n k (Posted d ∷ ms) z = busy_rest c n k ms z
busy_rest c n k (Quieted d ∷ ms) z = busy_rest c n k ms z

within_rest : (left : ℕ) (ms : List Move) → turns ms ≡ 0 → length (took ms) ≤ left → TakesWithinTurns left ms
within_rest left [] z h = tt
within_rest left (Turned p ∷ ms) z h = absurd (omega arith)
within_rest left (Took t ∷ ms) z h = (omega arith, within_rest (left - 1) ms z (omega arith))
within_rest left (Posted d ∷ ms) z h = within_rest left ms z h
within_rest left (Quieted d ∷ ms) z h = within_rest left ms z h

-- one call: its turn's number is all that is published, and the ring is full or all offers are pushed
pub record Called (n k started capacity : ℕ) (ms : List Move) : Type 0 where
  pub p : ℕ
  pub rest : List Move
  pub moves : ms ≡ Turned p ∷ rest
  pub one : turns rest ≡ 0
  pub few : length (took rest) ≤ p
  pub all : k + p ≡ started
  pub full : (p ≡ capacity) ⊎ (k + p ≡ n)

called_turn : (to_submit : ℕ) (b l : Lists) (at : Lists) (ts todo todo' : List Taken) (ms : List Move) (n k started started' : ℕ) → b ≡ l → at ≡ all_published (pushed_more ts b) → HasRoom at → l.pushed ≡ [] → todo ≡ ts ++ todo' → (todo' ≡ []) ⊎ (free_of (pushed_more ts b) ≡ 0)
    → k + length (l.published ++ todo) ≡ n → started ≡ k + length l.published → started' + length todo' ≡ started + length todo → length at.published ≤ to_submit → IsTurn to_submit (Some at) ms → Called n k started' l.capacity ms
called_turn to_submit b l at ts todo todo' ms n k started started' eb ea room none split full here st count enough t =
    let ab : at ≡ all_published (pushed_more ts l) = ea ∙ ap (λ x. all_published (pushed_more ts x)) eb in
    let pub_at : length at.published ≡ length l.published + length ts = ap (λ x. length x.published) ab ∙ length-append l.published (l.pushed ++ ts) ∙ ap (λ x. length l.published + length (x ++ ts)) none in
    let cap : at.capacity ≡ l.capacity = ap (λ x. x.capacity) ab in
    let todos : length todo ≡ length ts + length todo' = ap length split ∙ length-append ts todo' in
    let whole : k + (length l.published + length todo) ≡ n = ap (λ x. k + x) (sym (length-append l.published todo)) ∙ here in
    let fits : length at.published + length at.pushed ≤ at.capacity = room.entries in
    let number : t.p ≡ length at.published = omega (arith, t.told, enough) in
    record {
      p = t.p;
      rest = t.rest;
      moves = t.moves;
      one = t.one;
      few = t.few;
      all = omega (arith, number, pub_at, st, count, todos);
      full = elim full [
        | inl e ↦ inr (let z : length todo' ≡ 0 = ap length e in omega (arith, number, pub_at, whole, todos, z))
        | inr e ↦ inl (
            let lacks : l.capacity - (length l.published + length (l.pushed ++ ts)) ≡ 0 = ap (λ x. free_of (pushed_more ts x)) (sym eb) ∙ e in
            let pushes : length (l.pushed ++ ts) ≡ length ts = ap (λ x. length (x ++ ts)) none in
            omega (arith, number, pub_at, cap, fits, lacks, pushes))
      ];
    }

-- the numbers of a round

more_times : (idle o p : ℕ) → p + 1 ≤ o → idle * p + idle ≤ idle * o
more_times idle o p h = let k : idle * suc p ≤ idle * o = mul-le-mul_left idle (omega arith) in let e : idle * suc p ≡ idle * p + idle = mul-suc idle p in omega (arith, k, e)

few_next : (fin : Bool) (idle n t o p q r : ℕ) → t + idle * o ≤ idle * n + q → p + cond fin 1 0 ≤ o → q + 1 ≤ idle → r ≡ cond fin 0 (q + 1) → (t + 1) + idle * p ≤ idle * n + r
few_next true idle n t o p q r h k i e = let m = more_times idle o p k in omega (arith, h, m, i, e)
few_next false idle n t o p q r h k i e = let m : idle * p ≤ idle * o = mul-le-mul_left idle (omega arith) in omega (arith, h, m, i, e)

-- while a job is open, one more turn stays within the bound
few_last : (idle n t o q more : ℕ) → t + idle * o ≤ idle * n + q → 0 < o → q + 1 ≤ idle → more ≤ 1 → t + more ≤ idle * n
few_last idle n t o q more h k i m = let z : idle * 0 + idle ≤ idle * o = more_times idle o 0 (omega arith) in omega (arith, h, z, i, m)

few_end : (idle n t o q : ℕ) → t + idle * o ≤ idle * n + q → q ≡ 0 → t ≤ idle * n
few_end idle n t o q h z = omega (arith, h, z)

few_stalled : (idle n t o q : ℕ) → t + idle * o ≤ idle * n + q → 0 < o → q ≡ idle → t ≤ idle * n
few_stalled idle n t o q h k e = let z : idle * 0 + idle ≤ idle * o = more_times idle o 0 (omega arith) in omega (arith, h, z, e)

-- what a call's posts are to the table and to the log

pub nothing_told : Tells nothing_seen []
nothing_told = λ j. refl

call_strange : (offers : List Offer) (ms : List Move) (p : ℕ) (rest : List Move) (started : ℕ) (slots : List Slot) → last_is_quiet (quiets_in offers) ≡ false → first_strange (lends_in offers) (quiets_in offers) nothing_seen (log_of ms) ≡ None → turns rest ≡ 0 → length (took ms) + p ≡ started → started ≤ length offers → slots ≡ slots_from 0 offers (posted ms)
    → first_strange (lends_in offers) (quiets_in offers) nothing_seen (log_of (ms ++ Turned p ∷ rest)) ≡ stranger_among started slots (posted rest)
call_strange offers ms p rest started slots loud e z k inside s =
    let seen : Seen = all_seen nothing_seen (log_of ms) in
    let number : seen.taken + p ≡ started = omega (arith, taken_after nothing_seen ms, k) in
    strange-append (lends_in offers) (quiets_in offers) nothing_seen ms (Turned p ∷ rest) e
    ∙ ap (λ n. first_strange (lends_in offers) (quiets_in offers) (record seen { started = n }) (log_of rest)) number
    ∙ same_strangers offers (posted ms) (record seen { started = started }) rest z (tells_after nothing_seen [] ms nothing_told) loud inside
    ∙ ap (λ x. stranger_among started x (posted rest)) (sym s)

call_idle : (ms : List Move) (p : ℕ) (rest : List Move) (q : ℕ) → turns rest ≡ 0 → q ≡ idle_turns 0 (log_of ms) → idle_turns 0 (log_of (ms ++ Turned p ∷ rest)) ≡ cond (goes_on (took rest) (posted rest)) 0 (q + 1)
call_idle ms p rest q z e = idle_turns-append 0 ms (Turned p ∷ rest) ∙ idle_rest (suc (idle_turns 0 (log_of ms))) rest z ∙ ap (cond (goes_on (took rest) (posted rest)) 0) (let h : q ≡ idle_turns 0 (log_of ms) = e in omega arith)

-- what any call adds, whether it failed or not

some_is : {A : Type 0} (a b : A) → ◌≡◌ {A = Option A} (Some a) (Some b) → a ≡ b
some_is a b e = cc

pub told_same : {A : Type 0} (o : Option A) (a b : A) → o ≡ Some a → o ≡ Some b → a ≡ b
told_same o a b p q = some_is a b (sym p ∙ q)

-- what was started, by what is left to offer
pub started_more : (ts : List Taken) (todo todo' : List Offer) (large : Bool) (started started' : ℕ) → all_taken todo large ≡ ts ++ all_taken todo' large → started' + length todo' ≡ started + length todo → started + length ts ≡ started'
started_more ts todo todo' large started started' split count =
    let offered : length todo ≡ length ts + length todo' = sym (entries-length todo large) ∙ ap length split ∙ length-append ts (all_taken todo' large) ∙ ap (λ n. length ts + n) (entries-length todo' large) in
    omega (arith, count, offered)

-- how many entries were taken, are published and are still to offer
pub counts : (offers : List Offer) (large : Bool) (ms : List Move) (published todo : List Taken) → (took ms ++ published) ++ todo ≡ all_taken offers large → length (took ms) + (length published + length todo) ≡ length offers
counts offers large ms published todo e =
    ap (λ x. length (took ms) + x) (sym (length-append published todo))
    ∙ sym (length-append (took ms) (published ++ todo)) ∙ ap length (sym (append_assoc (took ms) published todo) ∙ e) ∙ entries-length offers large

-- how many jobs are started, by what was taken and is published
begun_by : (started : ℕ) (ms : List Move) (published : List Taken) → started ≡ length (took ms ++ published) → started ≡ length (took ms) + length published
begun_by started ms published e = e ∙ length-append (took ms) published

called_or : (to_submit : ℕ) (entered : Bool) (b l at : Lists) (ts todo todo' : List Taken) (ms : List Move) (n k started started' : ℕ) → b ≡ l → at ≡ all_published (pushed_more ts b) → HasRoom at → l.pushed ≡ [] → todo ≡ ts ++ todo' → (todo' ≡ []) ⊎ (free_of (pushed_more ts b) ≡ 0)
    → k + length (l.published ++ todo) ≡ n → started ≡ k + length l.published → started' + length todo' ≡ started + length todo → length at.published ≤ to_submit → IsCall entered to_submit (Some at) ms → (ms ≡ []) ⊎ Called n k started' l.capacity ms
called_or to_submit true b l at ts todo todo' ms n k started started' eb ea room none split full here st count enough t = inr (called_turn to_submit b l at ts todo todo' ms n k started started' eb ea room none split full here st count enough t)
called_or to_submit false b l at ts todo todo' ms n k started started' eb ea room none split full here st count enough t = elim t [
  | inl e ↦ inl e
  | inr u ↦ inr (called_turn to_submit b l at ts todo todo' ms n k started started' eb ea room none split full here st count enough u)
]

call_busy : (c n k started : ℕ) (ms : List Move) → (ms ≡ []) ⊎ Called n k started c ms → IsBusy c n k (journal_of (log_of ms))
call_busy c n k started ms h = elim h [
  | inl e ↦ subst (λ x. IsBusy c n k (journal_of (log_of x))) (sym e) tt
  | inr t ↦ subst (λ x. IsBusy c n k (journal_of (log_of x))) (sym t.moves) (t.full, busy_rest c n k t.rest t.one)
]

call_within : (c n k started : ℕ) (ms : List Move) → (ms ≡ []) ⊎ Called n k started c ms → TakesWithinTurns 0 ms
call_within c n k started ms h = elim h [
  | inl e ↦ subst (TakesWithinTurns 0) (sym e) tt
  | inr t ↦ subst (TakesWithinTurns 0) (sym t.moves) (within_rest t.p t.rest t.one t.few)
]

call_turns : (c n k started : ℕ) (ms : List Move) → (ms ≡ []) ⊎ Called n k started c ms → turns ms ≤ 1
call_turns c n k started ms h = elim h [
  | inl e ↦ let z : turns ms ≡ 0 = ap turns e in omega arith
  | inr t ↦ let z : turns ms ≡ suc (turns t.rest) = ap turns t.moves in omega (arith, z, t.one)
]

-- the last offer isn't quiet
pub running_loud : {W : Type 0} (mach : schedule.Machine W) (view : W → Files) (Plain : W → Type 0) {P R : Type 0} (log : P → Option (List LogEvent)) (state : P → Option (schedule.State W)) (lists : R → Option Lists) (first now : P) (ring : R) (room : ℕ) (todo : List Taken) (started : ℕ) (slots : List Slot) (offers : List Offer) (capacity idle idled : ℕ) → (x : Running mach view Plain log state lists first now ring room todo started slots offers capacity idle idled) → last_is_quiet (quiets_in offers) ≡ false
running_loud mach view Plain log state lists first now ring room todo started slots offers capacity idle idled x = ap (λ o. last_is_quiet (quiets_in o)) x.offered ∙ loud_last 0 x.jobs x.valid

-- which offers' jobs ended
pub running_tells : {W : Type 0} (mach : schedule.Machine W) (view : W → Files) (Plain : W → Type 0) {P R : Type 0} (log : P → Option (List LogEvent)) (state : P → Option (schedule.State W)) (lists : R → Option Lists) (first now : P) (ring : R) (room : ℕ) (todo : List Taken) (started : ℕ) (slots : List Slot) (offers : List Offer) (capacity idle idled : ℕ) → (x : Running mach view Plain log state lists first now ring room todo started slots offers capacity idle idled) → Tells (all_seen nothing_seen (log_of x.ms)) (posted x.ms)
running_tells mach view Plain log state lists first now ring room todo started slots offers capacity idle idled x = tells_after nothing_seen [] x.ms nothing_told

-- a run and one more round
pub record Next {W : Type 0} (mach : schedule.Machine W) (view : W → Files) (Plain : W → Type 0) {P R : Type 0} (log : P → Option (List LogEvent)) (state : P → Option (schedule.State W)) (lists : R → Option Lists) (kept : Completion → Completion) (first now new : P) (from to : R) (room : ℕ) (todo todo' : List Taken) (started started' : ℕ) (slots slots' : List Slot) (offers : List Offer) (capacity idle idled : ℕ) (answer : Result Bool RunFault) : Type 0 where
  pub laws : ModelLaws mach view Plain
  pub run : Running mach view Plain log state lists first now from room todo started slots offers capacity idle idled
  pub round : Round mach log state lists kept now new from to todo todo' started' slots slots' answer
  pub keeps : (c : Completion) → IsKept c (kept c)
  pub count : started' + length todo' ≡ started + length todo
  pub unfinished : 0 < count_open slots
  pub waits : idled + 1 ≤ idle

pub same_lists : {W : Type 0} (mach : schedule.Machine W) (view : W → Files) (Plain : W → Type 0) {P R : Type 0} (log : P → Option (List LogEvent)) (state : P → Option (schedule.State W)) (lists : R → Option Lists) (kept : Completion → Completion) (first now new : P) (from to : R) (room : ℕ) (todo todo' : List Taken) (started started' : ℕ) (slots slots' : List Slot) (offers : List Offer) (capacity idle idled : ℕ) (answer : Result Bool RunFault) (x : Next mach view Plain log state lists kept first now new from to room todo todo' started started' slots slots' offers capacity idle idled answer) → x.round.before ≡ x.run.l
same_lists mach view Plain log state lists kept first now new from to room todo todo' started started' slots slots' offers capacity idle idled answer x =
    told_same (lists from) x.round.before x.run.l x.round.told_before x.run.told

at_published : {W : Type 0} (mach : schedule.Machine W) (view : W → Files) (Plain : W → Type 0) {P R : Type 0} (log : P → Option (List LogEvent)) (state : P → Option (schedule.State W)) (lists : R → Option Lists) (kept : Completion → Completion) (first now new : P) (from to : R) (room : ℕ) (todo todo' : List Taken) (started started' : ℕ) (slots slots' : List Slot) (offers : List Offer) (capacity idle idled : ℕ) (answer : Result Bool RunFault) (x : Next mach view Plain log state lists kept first now new from to room todo todo' started started' slots slots' offers capacity idle idled answer) → x.round.at.published ≡ x.run.l.published ++ x.round.ts
at_published mach view Plain log state lists kept first now new from to room todo todo' started started' slots slots' offers capacity idle idled answer x =
    ap (λ l. l.published) x.round.published
    ∙ ap (λ l. l.published ++ (l.pushed ++ x.round.ts)) (same_lists mach view Plain log state lists kept first now new from to room todo todo' started started' slots slots' offers capacity idle idled answer x)
    ∙ ap (λ y. x.run.l.published ++ (y ++ x.round.ts)) x.run.calm.pushed

-- what was offered is taken or published
next_offered : {W : Type 0} (mach : schedule.Machine W) (view : W → Files) (Plain : W → Type 0) {P R : Type 0} (log : P → Option (List LogEvent)) (state : P → Option (schedule.State W)) (lists : R → Option Lists) (kept : Completion → Completion) (first now new : P) (from to : R) (room : ℕ) (todo todo' : List Taken) (started started' : ℕ) (slots slots' : List Slot) (offers : List Offer) (capacity idle idled : ℕ) (answer : Result Bool RunFault) (x : Next mach view Plain log state lists kept first now new from to room todo todo' started started' slots slots' offers capacity idle idled answer) → (took x.run.ms ++ x.run.l.published) ++ x.round.ts ≡ took (x.run.ms ++ x.round.ms) ++ x.round.after.published
next_offered mach view Plain log state lists kept first now new from to room todo todo' started started' slots slots' offers capacity idle idled answer x =
    append_assoc (took x.run.ms) x.run.l.published x.round.ts
    ∙ ap (λ l. took x.run.ms ++ l) (sym (at_published mach view Plain log state lists kept first now new from to room todo todo' started started' slots slots' offers capacity idle idled answer x) ∙ x.round.taken)
    ∙ sym (append_assoc (took x.run.ms) (took x.round.ms) x.round.after.published)
    ∙ ap (λ l. l ++ x.round.after.published) (sym (x.laws.join.takes x.run.ms x.round.ms))

next_entries : {W : Type 0} (mach : schedule.Machine W) (view : W → Files) (Plain : W → Type 0) {P R : Type 0} (log : P → Option (List LogEvent)) (state : P → Option (schedule.State W)) (lists : R → Option Lists) (kept : Completion → Completion) (first now new : P) (from to : R) (room : ℕ) (todo todo' : List Taken) (started started' : ℕ) (slots slots' : List Slot) (offers : List Offer) (capacity idle idled : ℕ) (answer : Result Bool RunFault) (x : Next mach view Plain log state lists kept first now new from to room todo todo' started started' slots slots' offers capacity idle idled answer) → (took (x.run.ms ++ x.round.ms) ++ x.round.after.published) ++ todo' ≡ all_taken offers x.run.user.large
next_entries mach view Plain log state lists kept first now new from to room todo todo' started started' slots slots' offers capacity idle idled answer x =
    ap (λ l. l ++ todo') (sym (next_offered mach view Plain log state lists kept first now new from to room todo todo' started started' slots slots' offers capacity idle idled answer x))
    ∙ user_entries (all_taken offers x.run.user.large) (took x.run.ms ++ x.run.l.published) x.round.ts todo todo' x.run.user.entries x.round.offered

next_called : {W : Type 0} (mach : schedule.Machine W) (view : W → Files) (Plain : W → Type 0) {P R : Type 0} (log : P → Option (List LogEvent)) (state : P → Option (schedule.State W)) (lists : R → Option Lists) (kept : Completion → Completion) (first now new : P) (from to : R) (room : ℕ) (todo todo' : List Taken) (started started' : ℕ) (slots slots' : List Slot) (offers : List Offer) (capacity idle idled : ℕ) (answer : Result Bool RunFault) (x : Next mach view Plain log state lists kept first now new from to room todo todo' started started' slots slots' offers capacity idle idled answer) → (x.round.ms ≡ []) ⊎ Called (length offers) (length (took x.run.ms)) started' x.run.l.capacity x.round.ms
next_called mach view Plain log state lists kept first now new from to room todo todo' started started' slots slots' offers capacity idle idled answer x =
    let here : length (took x.run.ms) + length (x.run.l.published ++ todo) ≡ length offers = ap (λ y. length (took x.run.ms) + y) (length-append x.run.l.published todo) ∙ counts offers x.run.user.large x.run.ms x.run.l.published todo x.run.user.entries in
    called_or x.round.to_submit x.round.entered x.round.before x.run.l x.round.at x.round.ts todo todo' x.round.ms (length offers) (length (took x.run.ms)) started started' (same_lists mach view Plain log state lists kept first now new from to room todo todo' started started' slots slots' offers capacity idle idled answer x) x.round.published x.round.fits x.run.calm.pushed x.round.offered x.round.full here (begun_by started x.run.ms x.run.l.published x.run.user.started_is) x.count x.round.enough x.round.call

next_entered : {W : Type 0} (mach : schedule.Machine W) (view : W → Files) (Plain : W → Type 0) {P R : Type 0} (log : P → Option (List LogEvent)) (state : P → Option (schedule.State W)) (lists : R → Option Lists) (kept : Completion → Completion) (first now new : P) (from to : R) (room : ℕ) (todo todo' : List Taken) (started started' : ℕ) (slots slots' : List Slot) (offers : List Offer) (capacity idle idled : ℕ) (answer : Result Bool RunFault) (x : Next mach view Plain log state lists kept first now new from to room todo todo' started started' slots slots' offers capacity idle idled answer) → x.round.entered ≡ true → Called (length offers) (length (took x.run.ms)) started' x.run.l.capacity x.round.ms
next_entered mach view Plain log state lists kept first now new from to room todo todo' started started' slots slots' offers capacity idle idled answer x e =
    let here : length (took x.run.ms) + length (x.run.l.published ++ todo) ≡ length offers = ap (λ y. length (took x.run.ms) + y) (length-append x.run.l.published todo) ∙ counts offers x.run.user.large x.run.ms x.run.l.published todo x.run.user.entries in
    called_turn x.round.to_submit x.round.before x.run.l x.round.at x.round.ts todo todo' x.round.ms (length offers) (length (took x.run.ms)) started started' (same_lists mach view Plain log state lists kept first now new from to room todo todo' started started' slots slots' offers capacity idle idled answer x) x.round.published x.round.fits x.run.calm.pushed x.round.offered x.round.full here (begun_by started x.run.ms x.run.l.published x.run.user.started_is) x.count x.round.enough (subst (λ b. IsCall b x.round.to_submit (Some x.round.at) x.round.ms) e x.round.call)

next_busy : {W : Type 0} (mach : schedule.Machine W) (view : W → Files) (Plain : W → Type 0) {P R : Type 0} (log : P → Option (List LogEvent)) (state : P → Option (schedule.State W)) (lists : R → Option Lists) (kept : Completion → Completion) (first now new : P) (from to : R) (room : ℕ) (todo todo' : List Taken) (started started' : ℕ) (slots slots' : List Slot) (offers : List Offer) (capacity idle idled : ℕ) (answer : Result Bool RunFault) (x : Next mach view Plain log state lists kept first now new from to room todo todo' started started' slots slots' offers capacity idle idled answer) → IsBusy capacity (length offers) 0 (journal_of (log_of (x.run.ms ++ x.round.ms)))
next_busy mach view Plain log state lists kept first now new from to room todo todo' started started' slots slots' offers capacity idle idled answer x =
    let c = next_called mach view Plain log state lists kept first now new from to room todo todo' started started' slots slots' offers capacity idle idled answer x in
    let b = call_busy x.run.l.capacity (length offers) (length (took x.run.ms)) started' x.round.ms c in
    busy_append capacity (length offers) 0 x.run.ms x.round.ms x.run.busy
    (subst (λ k. IsBusy capacity (length offers) k (journal_of (log_of x.round.ms))) (omega arith)
    (subst (λ c. IsBusy c (length offers) (length (took x.run.ms)) (journal_of (log_of x.round.ms))) x.run.size b))

next_within : {W : Type 0} (mach : schedule.Machine W) (view : W → Files) (Plain : W → Type 0) {P R : Type 0} (log : P → Option (List LogEvent)) (state : P → Option (schedule.State W)) (lists : R → Option Lists) (kept : Completion → Completion) (first now new : P) (from to : R) (room : ℕ) (todo todo' : List Taken) (started started' : ℕ) (slots slots' : List Slot) (offers : List Offer) (capacity idle idled : ℕ) (answer : Result Bool RunFault) (x : Next mach view Plain log state lists kept first now new from to room todo todo' started started' slots slots' offers capacity idle idled answer) → TakesWithinTurns 0 (x.run.ms ++ x.round.ms)
next_within mach view Plain log state lists kept first now new from to room todo todo' started started' slots slots' offers capacity idle idled answer x =
    x.laws.join.within 0 x.run.ms x.round.ms x.run.within (call_within x.run.l.capacity (length offers) (length (took x.run.ms)) started' x.round.ms (next_called mach view Plain log state lists kept first now new from to room todo todo' started started' slots slots' offers capacity idle idled answer x))

next_inside : {W : Type 0} (mach : schedule.Machine W) (view : W → Files) (Plain : W → Type 0) {P R : Type 0} (log : P → Option (List LogEvent)) (state : P → Option (schedule.State W)) (lists : R → Option Lists) (kept : Completion → Completion) (first now new : P) (from to : R) (room : ℕ) (todo todo' : List Taken) (started started' : ℕ) (slots slots' : List Slot) (offers : List Offer) (capacity idle idled : ℕ) (answer : Result Bool RunFault) (x : Next mach view Plain log state lists kept first now new from to room todo todo' started started' slots slots' offers capacity idle idled answer) → started' ≤ length offers
next_inside mach view Plain log state lists kept first now new from to room todo todo' started started' slots slots' offers capacity idle idled answer x =
    omega (arith, counts offers x.run.user.large x.run.ms x.run.l.published todo x.run.user.entries, (begun_by started x.run.ms x.run.l.published x.run.user.started_is), x.count)

next_strange : {W : Type 0} (mach : schedule.Machine W) (view : W → Files) (Plain : W → Type 0) {P R : Type 0} (log : P → Option (List LogEvent)) (state : P → Option (schedule.State W)) (lists : R → Option Lists) (kept : Completion → Completion) (first now new : P) (from to : R) (room : ℕ) (todo todo' : List Taken) (started started' : ℕ) (slots slots' : List Slot) (offers : List Offer) (capacity idle idled : ℕ) (answer : Result Bool RunFault) (x : Next mach view Plain log state lists kept first now new from to room todo todo' started started' slots slots' offers capacity idle idled answer) → x.round.entered ≡ true → first_strange (lends_in offers) (quiets_in offers) nothing_seen (log_of (x.run.ms ++ x.round.ms)) ≡ stranger_among started' slots (map kept (posted x.round.ms))
next_strange mach view Plain log state lists kept first now new from to room todo todo' started started' slots slots' offers capacity idle idled answer x e =
    let c = next_entered mach view Plain log state lists kept first now new from to room todo todo' started started' slots slots' offers capacity idle idled answer x e in
    ap (λ ms. first_strange (lends_in offers) (quiets_in offers) nothing_seen (log_of (x.run.ms ++ ms))) c.moves
    ∙ call_strange offers x.run.ms c.p c.rest started' slots (running_loud mach view Plain log state lists first now from room todo started slots offers capacity idle idled x.run) x.run.expected c.one c.all (next_inside mach view Plain log state lists kept first now new from to room todo todo' started started' slots slots' offers capacity idle idled answer x) x.run.user.told_slots
    ∙ ap (λ ms. stranger_among started' slots (posted ms)) (sym c.moves)
    ∙ sym (stranger_kept kept x.keeps started' slots (posted x.round.ms))

next_ran : {W : Type 0} (mach : schedule.Machine W) (view : W → Files) (Plain : W → Type 0) {P R : Type 0} (log : P → Option (List LogEvent)) (state : P → Option (schedule.State W)) (lists : R → Option Lists) (kept : Completion → Completion) (first now new : P) (from to : R) (room : ℕ) (todo todo' : List Taken) (started started' : ℕ) (slots slots' : List Slot) (offers : List Offer) (capacity idle idled : ℕ) (answer : Result Bool RunFault) (x : Next mach view Plain log state lists kept first now new from to room todo todo' started started' slots slots' offers capacity idle idled answer) → Driven mach log state first new offers capacity idle
next_ran mach view Plain log state lists kept first now new from to room todo todo' started started' slots slots' offers capacity idle idled answer x =
    record {
      ran = record {
        moves = x.run.ms ++ x.round.ms;
        large = x.run.user.large;
        ahead = x.round.after.published ++ todo';
        logs = x.laws.join.logs (log first) (log now) (log new) x.run.ms x.round.ms x.run.logs x.round.logs;
        states = x.laws.world.join (state first) (state now) (state new) x.run.ms x.round.ms x.run.states x.round.states;
        entries = sym (append_assoc (took (x.run.ms ++ x.round.ms)) x.round.after.published todo') ∙ next_entries mach view Plain log state lists kept first now new from to room todo todo' started started' slots slots' offers capacity idle idled answer x;
        within = next_within mach view Plain log state lists kept first now new from to room todo todo' started started' slots slots' offers capacity idle idled answer x;
      };
      full = record {
        busy = next_busy mach view Plain log state lists kept first now new from to room todo todo' started started' slots slots' offers capacity idle idled answer x;
        few = let t = call_turns x.run.l.capacity (length offers) (length (took x.run.ms)) started' x.round.ms (next_called mach view Plain log state lists kept first now new from to room todo todo' started started' slots slots' offers capacity idle idled answer x) in subst (λ k. k ≤ idle * (2 * length offers)) (sym (x.laws.join.turning x.run.ms x.round.ms)) (few_last idle (2 * length offers) (turns x.run.ms) (count_open slots + (length offers - length (took x.run.ms))) idled (turns x.round.ms) x.run.few (omega (arith, x.unfinished)) x.waits t);
      };
    }

-- a round that ends well

next_slots : {W : Type 0} (mach : schedule.Machine W) (view : W → Files) (Plain : W → Type 0) {P R : Type 0} (log : P → Option (List LogEvent)) (state : P → Option (schedule.State W)) (lists : R → Option Lists) (kept : Completion → Completion) (first now new : P) (from to : R) (room : ℕ) (todo todo' : List Taken) (started started' : ℕ) (slots slots' : List Slot) (offers : List Offer) (capacity idle idled : ℕ) (went : Bool) (x : Next mach view Plain log state lists kept first now new from to room todo todo' started started' slots slots' offers capacity idle idled (Ok went)) → slots' ≡ land_all slots (posted x.round.ms)
next_slots mach view Plain log state lists kept first now new from to room todo todo' started started' slots slots' offers capacity idle idled went x =
    x.round.ends.1 ∙ land_kept kept x.keeps slots (posted x.round.ms)

next_goes : {W : Type 0} (mach : schedule.Machine W) (view : W → Files) (Plain : W → Type 0) {P R : Type 0} (log : P → Option (List LogEvent)) (state : P → Option (schedule.State W)) (lists : R → Option Lists) (kept : Completion → Completion) (first now new : P) (from to : R) (room : ℕ) (todo todo' : List Taken) (started started' : ℕ) (slots slots' : List Slot) (offers : List Offer) (capacity idle idled : ℕ) (went : Bool) (x : Next mach view Plain log state lists kept first now new from to room todo todo' started started' slots slots' offers capacity idle idled (Ok went)) → went ≡ goes_on (took x.round.ms) (posted x.round.ms)
next_goes mach view Plain log state lists kept first now new from to room todo todo' started started' slots slots' offers capacity idle idled went x =
    x.round.enters.1 ∙ ap (λ b. nat_lt 0 (length (took x.round.ms)) || b) (any_kept kept x.keeps (posted x.round.ms))

-- how many offers are untaken or have no outcome
abbrev pub left_of : ℕ → List Slot → List Move → ℕ
left_of n slots ms = count_open slots + (n - length (took ms))

fewer_left : (took_more : ℕ) (any : Bool) (o o' n k k' : ℕ) → o' + cond any 1 0 ≤ o → k' ≡ k + took_more → k' ≤ n → (o' + (n - k')) + cond (nat_lt 0 took_more || any) 1 0 ≤ o + (n - k)
fewer_left zero true o o' n k k' h e le = omega (arith, h, e, le)
fewer_left zero false o o' n k k' h e le = omega (arith, h, e, le)
fewer_left (suc m) any o o' n k k' h e le =
    let some : nat_lt 0 (suc m) ≡ true = grind (arith, nat_tests) in
    rw some (omega (arith, at_most any o o' h, e, le))
  where
    at_most : (b : Bool) (x y : ℕ) → y + cond b 1 0 ≤ x → y ≤ x
    at_most true x y h = omega (arith, h)
    at_most false x y h = omega (arith, h)

pub next_left : {W : Type 0} (mach : schedule.Machine W) (view : W → Files) (Plain : W → Type 0) {P R : Type 0} (log : P → Option (List LogEvent)) (state : P → Option (schedule.State W)) (lists : R → Option Lists) (kept : Completion → Completion) (first now new : P) (from to : R) (room : ℕ) (todo todo' : List Taken) (started started' : ℕ) (slots slots' : List Slot) (offers : List Offer) (capacity idle idled : ℕ) (went : Bool) (x : Next mach view Plain log state lists kept first now new from to room todo todo' started started' slots slots' offers capacity idle idled (Ok went)) → left_of (length offers) slots' (x.run.ms ++ x.round.ms) + cond went 1 0 ≤ left_of (length offers) slots x.run.ms
next_left mach view Plain log state lists kept first now new from to room todo todo' started started' slots slots' offers capacity idle idled went x =
    let due : stranger_among started' slots (posted x.round.ms) ≡ None = sym (stranger_kept kept x.keeps started' slots (posted x.round.ms)) ∙ x.round.ends.0 in
    let landed : count_open slots' + cond (any_final (posted x.round.ms)) 1 0 ≤ count_open slots =
    subst (λ y. count_open y + cond (any_final (posted x.round.ms)) 1 0 ≤ count_open slots) (sym (next_slots mach view Plain log state lists kept first now new from to room todo todo' started started' slots slots' offers capacity idle idled went x)) (all_landed started' slots (posted x.round.ms) due) in
    let more : length (took (x.run.ms ++ x.round.ms)) ≡ length (took x.run.ms) + length (took x.round.ms) = ap length (x.laws.join.takes x.run.ms x.round.ms) ∙ length-append (took x.run.ms) (took x.round.ms) in
    let all = counts offers x.run.user.large (x.run.ms ++ x.round.ms) x.round.after.published todo' (next_entries mach view Plain log state lists kept first now new from to room todo todo' started started' slots slots' offers capacity idle idled (Ok went) x) in
    subst (λ b. left_of (length offers) slots' (x.run.ms ++ x.round.ms) + cond b 1 0 ≤ left_of (length offers) slots x.run.ms) (sym (next_goes mach view Plain log state lists kept first now new from to room todo todo' started started' slots slots' offers capacity idle idled went x))
    (fewer_left (length (took x.round.ms)) (any_final (posted x.round.ms)) (count_open slots) (count_open slots') (length offers) (length (took x.run.ms)) (length (took (x.run.ms ++ x.round.ms))) landed more (omega (arith, all)))

or_false : (a b : Bool) → (a || b) ≡ false → b ≡ false
or_false true b e = cc
or_false false b e = e

resting_next : (went : Bool) (q r : ℕ) (slots slots' : List Slot) (ts : List Taken) (cs : List Completion) → r ≡ cond went 0 (q + 1) → slots' ≡ land_all slots cs → went ≡ goes_on ts cs → 0 < count_open slots → count_open slots' ≡ 0 → r ≡ 0
resting_next true q r slots slots' ts cs e s f h z = e
resting_next false q r slots slots' ts cs e s f h z =
    let same : count_open slots' ≡ count_open slots = ap count_open (s ∙ none_landed slots cs (or_false (nat_lt 0 (length ts)) (any_final cs) (sym f))) in
    absurd (omega (arith, same, h, z))

took_rest : (p : ℕ) (rest ms : List Move) → ms ≡ Turned p ∷ rest → goes_on (took ms) (posted ms) ≡ goes_on (took rest) (posted rest)
took_rest p rest ms e = ap (λ l. goes_on (took l) (posted l)) e

next_idle : {W : Type 0} (mach : schedule.Machine W) (view : W → Files) (Plain : W → Type 0) {P R : Type 0} (log : P → Option (List LogEvent)) (state : P → Option (schedule.State W)) (lists : R → Option Lists) (kept : Completion → Completion) (first now new : P) (from to : R) (room : ℕ) (todo todo' : List Taken) (started started' : ℕ) (slots slots' : List Slot) (offers : List Offer) (capacity idle idled : ℕ) (went : Bool) (x : Next mach view Plain log state lists kept first now new from to room todo todo' started started' slots slots' offers capacity idle idled (Ok went)) → (q' : ℕ) → q' ≡ cond went 0 (idled + 1) → q' ≡ idle_turns 0 (log_of (x.run.ms ++ x.round.ms))
next_idle mach view Plain log state lists kept first now new from to room todo todo' started started' slots slots' offers capacity idle idled went x =
    λ q' e.
    let c = next_entered mach view Plain log state lists kept first now new from to room todo todo' started started' slots slots' offers capacity idle idled (Ok went) x x.round.enters.0 in
    e ∙ ap (λ b. cond b 0 (idled + 1)) (next_goes mach view Plain log state lists kept first now new from to room todo todo' started started' slots slots' offers capacity idle idled went x ∙ took_rest c.p c.rest x.round.ms c.moves)
    ∙ sym (call_idle x.run.ms c.p c.rest idled c.one x.run.idled_is)
    ∙ ap (λ ms. idle_turns 0 (log_of (x.run.ms ++ ms))) (sym c.moves)

next_turns : {W : Type 0} (mach : schedule.Machine W) (view : W → Files) (Plain : W → Type 0) {P R : Type 0} (log : P → Option (List LogEvent)) (state : P → Option (schedule.State W)) (lists : R → Option Lists) (kept : Completion → Completion) (first now new : P) (from to : R) (room : ℕ) (todo todo' : List Taken) (started started' : ℕ) (slots slots' : List Slot) (offers : List Offer) (capacity idle idled : ℕ) (went : Bool) (x : Next mach view Plain log state lists kept first now new from to room todo todo' started started' slots slots' offers capacity idle idled (Ok went)) → turns (x.run.ms ++ x.round.ms) ≡ turns x.run.ms + 1
next_turns mach view Plain log state lists kept first now new from to room todo todo' started started' slots slots' offers capacity idle idled went x =
    let c = next_entered mach view Plain log state lists kept first now new from to room todo todo' started started' slots slots' offers capacity idle idled (Ok went) x x.round.enters.0 in
    let one : turns x.round.ms ≡ suc (turns c.rest) = ap turns c.moves in
    x.laws.join.turning x.run.ms x.round.ms ∙ omega (arith, one, c.one)

pub on_true : (b : Bool) (T : Type 0) → b ≡ true → OnTrue b T → T
on_true true T e h = h
on_true false T e h = cc

goes_some : (n : ℕ) (cs : List Completion) → (n ≡ 0 → any_final cs ≡ true) → (nat_lt 0 n || any_final cs) ≡ true
goes_some zero cs f = ap (λ b. nat_lt 0 0 || b) (f refl)
goes_some (suc n) cs f = let some : nat_lt 0 (suc n) ≡ true = grind (arith, nat_tests) in rw some refl

-- where a turn takes none, all entries were taken
all_taken_first : (offers : List Offer) (large : Bool) (ms : List Move) (rest : List Taken) (p n capacity : ℕ) → took ms ++ rest ≡ all_taken offers large → p ≡ 0 → (p ≡ capacity) ⊎ (length (took ms) + p ≡ length offers) → 0 < capacity → took ms ≡ all_taken offers large
all_taken_first offers large ms rest p n capacity e z full cap = elim full [
  | inl q ↦ absurd (omega (arith, z, q, cap))
  | inr q ↦
      let count : length (took ms) + length rest ≡ length offers = sym (length-append (took ms) rest) ∙ ap length e ∙ entries-length offers large in
      let none : rest ≡ [] = none_left rest (omega (arith, q, z, count)) in
      sym (append-nil (took ms)) ∙ ap (λ l. took ms ++ l) (sym none) ∙ e
]
  where
    none_left : (ts : List Taken) → length ts ≡ 0 → ts ≡ []
    none_left [] h = refl
    none_left (t ∷ ts) h = absurd (omega arith)

-- in each round of an idle partner whose files are told an entry settles, and one is taken or a post is final
next_prompt : {W : Type 0} (mach : schedule.Machine W) (view : W → Files) (Plain : W → Type 0) {P R : Type 0} (log : P → Option (List LogEvent)) (state : P → Option (schedule.State W)) (lists : R → Option Lists) (kept : Completion → Completion) (first now new : P) (from to : R) (room : ℕ) (todo todo' : List Taken) (started started' : ℕ) (slots slots' : List Slot) (offers : List Offer) (capacity idle idled : ℕ) (went : Bool) (x : Next mach view Plain log state lists kept first now new from to room todo todo' started started' slots slots' offers capacity idle idled (Ok went)) (idled' : ℕ) → idled' ≡ cond went 0 (idled + 1) → (a : schedule.State W) → state first ≡ Some a → IsPlainAndIdle Plain a
    → (idled' ≡ 0) × EachSettles false (x.run.ms ++ x.round.ms)
next_prompt mach view Plain log state lists kept first now new from to room todo todo' started started' slots slots' offers capacity idle idled went x idled' e a told is_idle =
    let q = x.run.prompt a told is_idle in
    let c = next_entered mach view Plain log state lists kept first now new from to room todo todo' started started' slots slots' offers capacity idle idled (Ok went) x x.round.enters.0 in
    let b = served_some mach a x.run.ms (state now) (subst (λ o. schedule.IsServed mach o x.run.ms (state now)) told x.run.states) in
    let w : IsTurnOf mach b.0 x.round.at x.round.ms = subst (λ o. IsWholeTurn mach o (Some x.round.at) x.round.ms) b.1 (on_true x.round.entered (IsWholeTurn mach (state now) (Some x.round.at) x.round.ms) x.round.enters.0 x.round.whole) in
    let es = (turn mach w.ts (room_of x.round.at) b.0).ends in
    let posts : posted x.round.ms ≡ posts_of es = ap posted w.moves ∙ x.laws.turn_posts w.ts es in
    let at_room : room_of x.round.at ≡ x.run.l.completion_capacity - (length x.run.l.completions + 0) = ap room_of x.round.published ∙ ap (λ l. l.completion_capacity - (length l.completions + 0)) (same_lists mach view Plain log state lists kept first now new from to room todo todo' started started' slots slots' offers capacity idle idled (Ok went) x) in
    let none : length x.run.l.completions ≡ 0 = ap length x.run.calm.completions in
    let holds = x.run.holds in
    let room_is : 0 < room_of x.round.at = omega (arith, at_room, none, holds.1) in
    let whole = next_entries mach view Plain log state lists kept first now new from to room todo todo' started started' slots slots' offers capacity idle idled (Ok went) x in
    let size = x.run.user.large in
    let all_six : AllByRecursion IsJobEntry (all_taken offers size) = subst (λ o. AllByRecursion IsJobEntry (all_taken o size)) (sym x.run.offered) (six_all 0 x.run.jobs x.run.valid x.run.range size) in
    let took_all : AllByRecursion IsJobEntry (took (x.run.ms ++ x.round.ms)) = six_front (took (x.run.ms ++ x.round.ms)) (x.round.after.published ++ todo') (subst (AllByRecursion IsJobEntry) (sym (sym (append_assoc (took (x.run.ms ++ x.round.ms)) x.round.after.published todo') ∙ whole)) all_six) in
    let took_both : AllByRecursion IsJobEntry (took x.run.ms ++ took x.round.ms) = subst (AllByRecursion IsJobEntry) (x.laws.join.takes x.run.ms x.round.ms) took_all in
    let six_run : AllByRecursion IsJobEntry (took x.run.ms) = six_front (took x.run.ms) (took x.round.ms) took_both in
    let takes : took x.round.ms ≡ w.ts = ap took w.moves ∙ took_turn w.ts es in
    let six_ts : AllByRecursion IsJobEntry w.ts = subst (AllByRecursion IsJobEntry) takes (six_back (took x.run.ms) (took x.round.ms) took_both) in
    let number : c.p ≡ length w.ts = same_turn c.p (length w.ts) c.rest w.ts es x.round.ms c.moves w.moves in
    let stood = stands mach view Plain x.laws a b.0 x.run.ms is_idle b.2 six_run in
    let left : 0 < count_open (slots_from 0 offers (posted x.run.ms)) = subst (λ y. 0 < count_open y) x.run.user.told_slots x.unfinished in
    let waits = open_job offers (posted x.run.ms) (ended_in (log_of x.run.ms)) (running_tells mach view Plain log state lists first now from room todo started slots offers capacity idle idled x.run) (running_loud mach view Plain log state lists first now from room todo started slots offers capacity idle idled x.run) left in
    let pays = turn_pays mach view Plain x.laws x.run.jobs a b.0 x.run.ms size w.ts (room_of x.round.at) stood x.run.valid x.run.range six_ts
    (λ z. (
      all_taken_first offers size x.run.ms (x.run.l.published ++ todo) c.p (length offers) x.run.l.capacity (sym (append_assoc (took x.run.ms) x.run.l.published todo) ∙ x.run.user.entries) (omega (arith, number, z)) c.full holds.0 ∙ ap (λ o. all_taken o size) x.run.offered,
      (waits.0, subst (λ n. waits.0 < n) (ap length x.run.offered ∙ offers_count 0 x.run.jobs) waits.1, ap (λ o. is_answered (quiets_in o) (ended_in (log_of x.run.ms)) waits.0) (sym x.run.offered) ∙ waits.2),
    )) room_is in
    let final : AllFinal (posts_of es) = turn_final mach (length (take_all b.0 w.ts).pending) (room_of x.round.at) (take_all b.0 w.ts) in
    let goes : goes_on (took x.round.ms) (posted x.round.ms) ≡ true =
    (λ i. goes_on (takes i) (posts i)) ∙ goes_some (length w.ts) (posts_of es) (λ z. final_any (posts_of es) final (pays.goes z)) in
    let yes_went : went ≡ true = next_goes mach view Plain log state lists kept first now new from to room todo todo' started started' slots slots' offers capacity idle idled went x ∙ goes in
    let settles : EachSettles false x.round.ms = subst (EachSettles false) (sym w.moves) (x.laws.settling (length w.ts) w.ts es pays.settles) in
    (e ∙ ap (λ b. cond b 0 (idled + 1)) yes_went, x.laws.settling_join x.run.ms x.round.ms q.1 settles)

-- the user's run
next_user : {W : Type 0} (mach : schedule.Machine W) (view : W → Files) (Plain : W → Type 0) {P R : Type 0} (log : P → Option (List LogEvent)) (state : P → Option (schedule.State W)) (lists : R → Option Lists) (kept : Completion → Completion) (first now new : P) (from to : R) (room : ℕ) (todo todo' : List Taken) (started started' : ℕ) (slots slots' : List Slot) (offers : List Offer) (capacity idle idled : ℕ) (went : Bool) (x : Next mach view Plain log state lists kept first now new from to room todo todo' started started' slots slots' offers capacity idle idled (Ok went)) → UserRun offers (took (x.run.ms ++ x.round.ms) ++ x.round.after.published) todo' (posted (x.run.ms ++ x.round.ms)) started' slots'
next_user mach view Plain log state lists kept first now new from to room todo todo' started started' slots slots' offers capacity idle idled went x =
    let split : length todo ≡ length x.round.ts + length todo' = ap length x.round.offered ∙ length-append x.round.ts todo' in
    let grown = user_next offers (took x.run.ms ++ x.run.l.published) x.round.ts todo todo' (posted x.run.ms) (posted x.round.ms) started started' slots slots' x.run.user x.round.offered (omega (arith, split, x.count))
    (sym (stranger_kept kept x.keeps started' slots (posted x.round.ms)) ∙ x.round.ends.0) (next_slots mach view Plain log state lists kept first now new from to room todo todo' started started' slots slots' offers capacity idle idled went x) in
    subst (λ cs. UserRun offers (took (x.run.ms ++ x.round.ms) ++ x.round.after.published) todo' cs started' slots') (sym (x.laws.join.posts x.run.ms x.round.ms))
    (subst (λ ts. UserRun offers ts todo' (posted x.run.ms ++ posted x.round.ms) started' slots') (next_offered mach view Plain log state lists kept first now new from to room todo todo' started started' slots slots' offers capacity idle idled (Ok went) x) grown)

pub running_next : {W : Type 0} (mach : schedule.Machine W) (view : W → Files) (Plain : W → Type 0) {P R : Type 0} (log : P → Option (List LogEvent)) (state : P → Option (schedule.State W)) (lists : R → Option Lists) (kept : Completion → Completion) (first now new : P) (from to : R) (room : ℕ) (todo todo' : List Taken) (started started' : ℕ) (slots slots' : List Slot) (offers : List Offer) (capacity idle idled : ℕ) (went : Bool) (room' idled' : ℕ) → (x : Next mach view Plain log state lists kept first now new from to room todo todo' started started' slots slots' offers capacity idle idled (Ok went)) → (l : Lists) × (lists to ≡ Some l) × IsCalm l room' → idled' ≡ cond went 0 (idled + 1)
    → Running mach view Plain log state lists first new to room' todo' started' slots' offers capacity idle idled'
running_next mach view Plain log state lists kept first now new from to room todo todo' started started' slots slots' offers capacity idle idled went room' idled' x calm e =
    record {
      ms = x.run.ms ++ x.round.ms;
      logs = x.laws.join.logs (log first) (log now) (log new) x.run.ms x.round.ms x.run.logs x.round.logs;
      states = x.laws.world.join (state first) (state now) (state new) x.run.ms x.round.ms x.run.states x.round.states;
      l = x.round.after;
      told = x.round.told_after;
      calm = subst (λ y. IsCalm y room') (told_same (lists to) calm.0 x.round.after calm.1 x.round.told_after) calm.2;
      size = x.round.capacity ∙ ap (λ y. y.capacity) x.round.published ∙ ap (λ y. y.capacity) (same_lists mach view Plain log state lists kept first now new from to room todo todo' started started' slots slots' offers capacity idle idled (Ok went) x) ∙ x.run.size;
      user = next_user mach view Plain log state lists kept first now new from to room todo todo' started started' slots slots' offers capacity idle idled went x;
      busy = next_busy mach view Plain log state lists kept first now new from to room todo todo' started started' slots slots' offers capacity idle idled (Ok went) x;
      within = next_within mach view Plain log state lists kept first now new from to room todo todo' started started' slots slots' offers capacity idle idled (Ok went) x;
      few = subst (λ k. k + idle * left_of (length offers) slots' (x.run.ms ++ x.round.ms) ≤ idle * (2 * length offers) + idled') (sym (next_turns mach view Plain log state lists kept first now new from to room todo todo' started started' slots slots' offers capacity idle idled went x)) (few_next went idle (2 * length offers) (turns x.run.ms) (left_of (length offers) slots x.run.ms) (left_of (length offers) slots' (x.run.ms ++ x.round.ms)) idled idled' x.run.few (next_left mach view Plain log state lists kept first now new from to room todo todo' started started' slots slots' offers capacity idle idled went x) x.waits e);
      resting = resting_next went idled idled' slots slots' (took x.round.ms) (posted x.round.ms) e (next_slots mach view Plain log state lists kept first now new from to room todo todo' started started' slots slots' offers capacity idle idled went x) (next_goes mach view Plain log state lists kept first now new from to room todo todo' started started' slots slots' offers capacity idle idled went x) x.unfinished;
      expected = next_strange mach view Plain log state lists kept first now new from to room todo todo' started started' slots slots' offers capacity idle idled (Ok went) x x.round.enters.0 ∙ x.round.ends.0;
      idled_is = next_idle mach view Plain log state lists kept first now new from to room todo todo' started started' slots slots' offers capacity idle idled went x idled' e;
      holds =
          let cap : x.round.after.capacity ≡ x.run.l.capacity = x.round.capacity ∙ ap (λ y. y.capacity) x.round.published ∙ ap (λ y. y.capacity) (same_lists mach view Plain log state lists kept first now new from to room todo todo' started started' slots slots' offers capacity idle idled (Ok went) x) in
          let posts_fit : x.round.after.completion_capacity ≡ x.run.l.completion_capacity = x.round.completion_capacity ∙ ap (λ y. y.completion_capacity) x.round.published ∙ ap (λ y. y.completion_capacity) (same_lists mach view Plain log state lists kept first now new from to room todo todo' started started' slots slots' offers capacity idle idled (Ok went) x) in
          (subst (λ k. 0 < k) (sym cap) x.run.holds.0, subst (λ k. 0 < k) (sym posts_fit) x.run.holds.1);
      jobs = x.run.jobs;
      offered = x.run.offered;
      valid = x.run.valid;
      range = x.run.range;
      prompt = next_prompt mach view Plain log state lists kept first now new from to room todo todo' started started' slots slots' offers capacity idle idled went x idled' e;
    }

pub next_moves : {W : Type 0} (mach : schedule.Machine W) (view : W → Files) (Plain : W → Type 0) {P R : Type 0} (log : P → Option (List LogEvent)) (state : P → Option (schedule.State W)) (lists : R → Option Lists) (kept : Completion → Completion) (first now new : P) (from to : R) (room : ℕ) (todo todo' : List Taken) (started started' : ℕ) (slots slots' : List Slot) (offers : List Offer) (capacity idle idled : ℕ) (went : Bool) (room' idled' : ℕ) → (x : Next mach view Plain log state lists kept first now new from to room todo todo' started started' slots slots' offers capacity idle idled (Ok went)) → (calm : (l : Lists) × (lists to ≡ Some l) × IsCalm l room') (e : idled' ≡ cond went 0 (idled + 1))
    → (running_next mach view Plain log state lists kept first now new from to room todo todo' started started' slots slots' offers capacity idle idled went room' idled' x calm e).ms ≡ x.run.ms ++ x.round.ms
unfolding running_next
next_moves mach view Plain log state lists kept first now new from to room todo todo' started started' slots slots' offers capacity idle idled went room' idled' x calm e = refl

-- the completion ring stays as large as it was
pub next_posts : {W : Type 0} (mach : schedule.Machine W) (view : W → Files) (Plain : W → Type 0) {P R : Type 0} (log : P → Option (List LogEvent)) (state : P → Option (schedule.State W)) (lists : R → Option Lists) (kept : Completion → Completion) (first now new : P) (from to : R) (room : ℕ) (todo todo' : List Taken) (started started' : ℕ) (slots slots' : List Slot) (offers : List Offer) (capacity idle idled : ℕ) (went : Bool) (room' idled' : ℕ) → (x : Next mach view Plain log state lists kept first now new from to room todo todo' started started' slots slots' offers capacity idle idled (Ok went)) → (calm : (l : Lists) × (lists to ≡ Some l) × IsCalm l room') (e : idled' ≡ cond went 0 (idled + 1))
    → (running_next mach view Plain log state lists kept first now new from to room todo todo' started started' slots slots' offers capacity idle idled went room' idled' x calm e).l.completion_capacity ≡ x.run.l.completion_capacity
unfolding running_next
next_posts mach view Plain log state lists kept first now new from to room todo todo' started started' slots slots' offers capacity idle idled went room' idled' x calm e =
    x.round.completion_capacity ∙ ap (λ y. y.completion_capacity) x.round.published ∙ ap (λ y. y.completion_capacity) (same_lists mach view Plain log state lists kept first now new from to room todo todo' started started' slots slots' offers capacity idle idled (Ok went) x)

-- a round that ends with a fault

faulted_next : {W : Type 0} (mach : schedule.Machine W) (view : W → Files) (Plain : W → Type 0) {P R : Type 0} (log : P → Option (List LogEvent)) (state : P → Option (schedule.State W)) (lists : R → Option Lists) (kept : Completion → Completion) (first now new : P) (from to : R) (room : ℕ) (todo todo' : List Taken) (started started' : ℕ) (slots slots' : List Slot) (offers : List Offer) (capacity idle idled : ℕ) (e : RunFault) → (x : Next mach view Plain log state lists kept first now new from to room todo todo' started started' slots slots' offers capacity idle idled (Err e)) → IsGivenUp offers idle (log_of (x.run.ms ++ x.round.ms)) e
faulted_next mach view Plain log state lists kept first now new from to room todo todo' started started' slots slots' offers capacity idle idled (faults.Stranger u) x = next_strange mach view Plain log state lists kept first now new from to room todo todo' started started' slots slots' offers capacity idle idled (Err (faults.Stranger u)) x (x.round.enters refl) ∙ x.round.ends
faulted_next mach view Plain log state lists kept first now new from to room todo todo' started started' slots slots' offers capacity idle idled faults.PartnerFault x = tt
faulted_next mach view Plain log state lists kept first now new from to room todo todo' started started' slots slots' offers capacity idle idled faults.NoMemory x = tt
faulted_next mach view Plain log state lists kept first now new from to room todo todo' started started' slots slots' offers capacity idle idled faults.BadSize x = absurd x.round.ends
faulted_next mach view Plain log state lists kept first now new from to room todo todo' started started' slots slots' offers capacity idle idled (faults.BadJob n) x = absurd x.round.ends
faulted_next mach view Plain log state lists kept first now new from to room todo todo' started started' slots slots' offers capacity idle idled faults.Stalled x = absurd x.round.ends

pub next_faulted : {W : Type 0} (mach : schedule.Machine W) (view : W → Files) (Plain : W → Type 0) {P R : Type 0} (log : P → Option (List LogEvent)) (state : P → Option (schedule.State W)) (lists : R → Option Lists) (kept : Completion → Completion) (first now new : P) (from to : R) (room : ℕ) (todo todo' : List Taken) (started started' : ℕ) (slots slots' : List Slot) (offers : List Offer) (capacity idle idled : ℕ) (e : RunFault) → (x : Next mach view Plain log state lists kept first now new from to room todo todo' started started' slots slots' offers capacity idle idled (Err e)) → (r : Driven mach log state first new offers capacity idle) × IsGivenUp offers idle (log_of r.ran.moves) e
unfolding next_ran
next_faulted mach view Plain log state lists kept first now new from to room todo todo' started started' slots slots' offers capacity idle idled e x = (next_ran mach view Plain log state lists kept first now new from to room todo todo' started started' slots slots' offers capacity idle idled (Err e) x, faulted_next mach view Plain log state lists kept first now new from to room todo todo' started started' slots slots' offers capacity idle idled e x)

-- how many entries are untaken, by what stands in the ring and what is still to be offered
abbrev pub untaken : Option Lists → ℕ → ℕ
untaken None todo = todo
untaken (Some l) todo = length l.published + todo

-- where a run ends

abbrev pub running_ran : {W : Type 0} (mach : schedule.Machine W) (view : W → Files) (Plain : W → Type 0) {P R : Type 0} (log : P → Option (List LogEvent)) (state : P → Option (schedule.State W)) (lists : R → Option Lists) (first now : P) (ring : R) (room : ℕ) (todo : List Taken) (started : ℕ) (slots : List Slot) (offers : List Offer) (capacity idle idled : ℕ)
    → (x : Running mach view Plain log state lists first now ring room todo started slots offers capacity idle idled) → turns x.ms ≤ idle * (2 * length offers) → Driven mach log state first now offers capacity idle
running_ran mach view Plain log state lists first now ring room todo started slots offers capacity idle idled x few = record {
  ran = record {
    moves = x.ms;
    large = x.user.large;
    ahead = x.l.published ++ todo;
    logs = x.logs;
    states = x.states;
    entries = sym (append_assoc (took x.ms) x.l.published todo) ∙ x.user.entries;
    within = x.within;
  };
  full = record {
    busy = x.busy;
    few = few;
  };
}

pub stalled_end : {W : Type 0} (mach : schedule.Machine W) (view : W → Files) (Plain : W → Type 0) {P R : Type 0} (log : P → Option (List LogEvent)) (state : P → Option (schedule.State W)) (lists : R → Option Lists) (first now : P) (ring : R) (room : ℕ) (todo : List Taken) (started : ℕ) (slots : List Slot) (offers : List Offer) (capacity idle idled : ℕ)
    → (x : Running mach view Plain log state lists first now ring room todo started slots offers capacity idle idled) → idled ≡ idle → 0 < count_open slots → (turns x.ms ≤ idle * (2 * length offers)) × IsOpenJob offers idle (log_of x.ms)
stalled_end mach view Plain log state lists first now ring room todo started slots offers capacity idle idled x e h =
    let left : 0 < count_open (slots_from 0 offers (posted x.ms)) = subst (λ y. 0 < count_open y) x.user.told_slots h in
    let j = open_job offers (posted x.ms) (ended_in (log_of x.ms)) (running_tells mach view Plain log state lists first now ring room todo started slots offers capacity idle idled x) (running_loud mach view Plain log state lists first now ring room todo started slots offers capacity idle idled x) left in (
      few_stalled idle (2 * length offers) (turns x.ms) (left_of (length offers) slots x.ms) idled x.few (omega (arith, h)) e,
      record {
        idled = omega (arith, e, x.idled_is);
        job = j.0;
        inside = j.1;
        unanswered = j.2;
      },
    )

-- while a job is open, the turns so far are few
pub few_open : {W : Type 0} (mach : schedule.Machine W) (view : W → Files) (Plain : W → Type 0) {P R : Type 0} (log : P → Option (List LogEvent)) (state : P → Option (schedule.State W)) (lists : R → Option Lists) (first now : P) (ring : R) (room : ℕ) (todo : List Taken) (started : ℕ) (slots : List Slot) (offers : List Offer) (capacity idle idled : ℕ)
    → (x : Running mach view Plain log state lists first now ring room todo started slots offers capacity idle idled) → 0 < count_open slots → idled < idle → turns x.ms ≤ idle * (2 * length offers)
few_open mach view Plain log state lists first now ring room todo started slots offers capacity idle idled x left waits =
    let h = few_last idle (2 * length offers) (turns x.ms) (left_of (length offers) slots x.ms) idled 0 x.few (omega (arith, left)) (omega (arith, waits)) (omega arith) in omega (arith, h)

pub whole_end : {W : Type 0} (mach : schedule.Machine W) (view : W → Files) (Plain : W → Type 0) {P R : Type 0} (log : P → Option (List LogEvent)) (state : P → Option (schedule.State W)) (lists : R → Option Lists) (first now : P) (ring : R) (room : ℕ) (todo : List Taken) (started : ℕ) (slots : List Slot) (offers : List Offer) (capacity idle idled : ℕ)
    → (x : Running mach view Plain log state lists first now ring room todo started slots offers capacity idle idled) → count_open slots ≡ 0 → turns x.ms ≤ idle * (2 * length offers)
whole_end mach view Plain log state lists first now ring room todo started slots offers capacity idle idled x z = few_end idle (2 * length offers) (turns x.ms) (left_of (length offers) slots x.ms) idled x.few (x.resting z)

-- an idle partner whose files are told takes at most as many turns as there are offers
pub prompt_end : {W : Type 0} (mach : schedule.Machine W) (view : W → Files) (Plain : W → Type 0) {P R : Type 0} (log : P → Option (List LogEvent)) (state : P → Option (schedule.State W)) (lists : R → Option Lists) (first now : P) (ring : R) (room : ℕ) (todo : List Taken) (started : ℕ) (slots : List Slot) (offers : List Offer) (capacity idle idled : ℕ)
    → ModelLaws mach view Plain → (x : Running mach view Plain log state lists first now ring room todo started slots offers capacity idle idled) → (a : schedule.State W) → state first ≡ Some a → IsPlainAndIdle Plain a → turns x.ms ≤ length offers
prompt_end mach view Plain log state lists first now ring room todo started slots offers capacity idle idled laws x a told rests =
    let b = served_some mach a x.ms (state now) (subst (λ o. schedule.IsServed mach o x.ms (state now)) told x.states) in
    let few = laws.world.few true a b.0 x.ms rests.pending b.2 (x.prompt a told rests).1 in
    omega (arith, few, counts offers x.user.large x.ms x.l.published todo x.user.entries)

-- the beginning
unfoldable pub running_first : {W : Type 0} (mach : schedule.Machine W) (view : W → Files) (Plain : W → Type 0) {P R : Type 0} (log : P → Option (List LogEvent)) (state : P → Option (schedule.State W)) (lists : R → Option Lists) (first : P) (ring : R) (room : ℕ) (todo : List Taken) (started : ℕ) (slots : List Slot) (offers : List Offer) (large : Bool) (capacity idle : ℕ)
    → ModelLaws mach view Plain → (l : Lists) → lists ring ≡ Some l → IsCalm l room → l.published ≡ [] → l.capacity ≡ capacity → todo ≡ all_taken offers large → slots ≡ slots_from 0 offers [] → started ≡ 0 → (0 < l.capacity) × (0 < l.completion_capacity) → (jobs : List Job) → offers ≡ offers_from 0 jobs → AllValid jobs → AllInRange jobs
    → Running mach view Plain log state lists first first ring room todo started slots offers capacity idle 0
running_first mach view Plain log state lists first ring room todo started slots offers large capacity idle laws l told calm none size entries told_slots begun holds jobs offered valid range = record {
  ms = [];
  logs = laws.stay.logs (log first);
  states = laws.world.stay (state first);
  l = l;
  told = told;
  calm = calm;
  size = size;
  user = subst (λ ts. UserRun offers ts todo [] started slots) (sym none) (user_first offers large todo started slots entries begun told_slots);
  busy = tt;
  within = tt;
  few = let n : count_open slots ≤ length offers = subst (λ y. count_open y ≤ length offers) (sym told_slots) (open_few 0 offers []) in let m : idle * (count_open slots + (length offers - 0)) ≤ idle * (2 * length offers) = mul-le-mul_left idle (omega (arith, n)) in omega (arith, m);
  resting = λ z. refl;
  expected = refl;
  idled_is = refl;
  holds = holds;
  jobs = jobs;
  offered = offered;
  valid = valid;
  range = range;
  prompt = λ a e i. (refl, refl);
}

-- for the loop

abbrev pub next_of : {W : Type 0} (mach : schedule.Machine W) (view : W → Files) (Plain : W → Type 0) {P R : Type 0} (log : P → Option (List LogEvent)) (state : P → Option (schedule.State W)) (lists : R → Option Lists) (kept : Completion → Completion) (first now new : P) (from to : R) (room : ℕ) (todo todo' : List Offer) (large : Bool) (started started' : ℕ) (slots slots' : List Slot) (offers : List Offer) (capacity idle idled : ℕ) (answer : Result Bool RunFault)
    → ModelLaws mach view Plain → Running mach view Plain log state lists first now from room (all_taken todo large) started slots offers capacity idle idled → Round mach log state lists kept now new from to (all_taken todo large) (all_taken todo' large) started' slots slots' answer → ((c : Completion) → IsKept c (kept c))
    → started' + length todo' ≡ started + length todo → 0 < count_open slots → idled < idle → Next mach view Plain log state lists kept first now new from to room (all_taken todo large) (all_taken todo' large) started started' slots slots' offers capacity idle idled answer
next_of mach view Plain log state lists kept first now new from to room todo todo' large started started' slots slots' offers capacity idle idled answer laws run round keeps count left waits =
    let n = length-map todo (λ o. as_offered large o.entry o.loan) in
    let n' = length-map todo' (λ o. as_offered large o.entry o.loan) in
    record { laws = laws; run = run; round = round; keeps = keeps; count = omega (arith, count, n, n'); unfinished = left; waits = omega (arith, waits) }

pub some_open : (b : Bool) (k : ℕ) → (k ≡ 0 → IsTrue b) → b ≡ false → 0 < k
some_open b zero f e = let h : IsTrue b = f refl in cc
some_open b (suc k) f e = omega arith

pub left_open : (k q idle : ℕ) → (k ≡ 0 → q ≡ 0) → q ≡ idle → 0 < idle → 0 < k
left_open zero q idle f e h = let z : q ≡ 0 = f refl in absurd (omega (arith, z, e, h))
left_open (suc k) q idle f e h = omega arith

pub if_some : {A : Type 0} (o : Option A) (P : A → Type 0) → ((a : A) → o ≡ Some a → P a) → IfSome o P
if_some None P f = tt
if_some (Some a) P f = f a refl

pub smaller : (fin : Bool) (o p q r idle : ℕ) → p + cond fin 1 0 ≤ o → r ≡ cond fin 0 (q + 1) → q + 1 ≤ idle → p * (idle + 1) + (idle - r) < o * (idle + 1) + (idle - q)
smaller true o p q r idle h e w =
    let m : suc p * (idle + 1) ≤ o * (idle + 1) = mul-le-mul_right (idle + 1) (omega arith) in
    let k : suc p * (idle + 1) ≡ p * (idle + 1) + (idle + 1) = suc-mul p (idle + 1) in
    omega (arith, m, k, e, w)
smaller false o p q r idle h e w =
    let m : p * (idle + 1) ≤ o * (idle + 1) = mul-le-mul_right (idle + 1) (omega arith) in
    omega (arith, m, e, w)

pub idled_below : (fin : Bool) (q r idle : ℕ) → r ≡ cond fin 0 (q + 1) → q + 1 ≤ idle → (r ≡ idle → ⊥) → r < idle
idled_below true q r idle e w differs = omega (arith, e, w)
idled_below false q r idle e w differs = omega (arith, e, w, differs)

-- what is open or untaken, by the run
pub left_by : {W : Type 0} (mach : schedule.Machine W) (view : W → Files) (Plain : W → Type 0) {P R : Type 0} (log : P → Option (List LogEvent)) (state : P → Option (schedule.State W)) (lists : R → Option Lists) (first now : P) (ring : R) (room : ℕ) (todo : List Offer) (large : Bool) (started : ℕ) (slots : List Slot) (offers : List Offer) (capacity idle idled : ℕ)
    → (x : Running mach view Plain log state lists first now ring room (all_taken todo large) started slots offers capacity idle idled) → count_open slots + untaken (lists ring) (length todo) ≡ left_of (length offers) slots x.ms
left_by mach view Plain log state lists first now ring room todo large started slots offers capacity idle idled x =
    let all = counts offers x.user.large x.ms x.l.published (all_taken todo large) x.user.entries in
    let n = entries-length todo large in
    ap (λ o. count_open slots + untaken o (length todo)) x.told ∙ omega (arith, all, n)

-- and how one more round lowers it
pub next_smaller : {W : Type 0} (mach : schedule.Machine W) (view : W → Files) (Plain : W → Type 0) {P R : Type 0} (log : P → Option (List LogEvent)) (state : P → Option (schedule.State W)) (lists : R → Option Lists) (kept : Completion → Completion) (first now new : P) (from to : R) (room : ℕ) (todo todo' : List Offer) (large : Bool) (started started' : ℕ) (slots slots' : List Slot) (offers : List Offer) (capacity idle idled : ℕ) (went : Bool)
    → (x : Next mach view Plain log state lists kept first now new from to room (all_taken todo large) (all_taken todo' large) started started' slots slots' offers capacity idle idled (Ok went)) → (count_open slots' + untaken (lists to) (length todo')) + cond went 1 0 ≤ count_open slots + untaken (lists from) (length todo)
next_smaller mach view Plain log state lists kept first now new from to room todo todo' large started started' slots slots' offers capacity idle idled went x =
    let before = left_by mach view Plain log state lists first now from room todo large started slots offers capacity idle idled x.run in
    let all = counts offers x.run.user.large (x.run.ms ++ x.round.ms) x.round.after.published (all_taken todo' large) (next_entries mach view Plain log state lists kept first now new from to room (all_taken todo large) (all_taken todo' large) started started' slots slots' offers capacity idle idled (Ok went) x) in
    let n = entries-length todo' large in
    let after : count_open slots' + untaken (lists to) (length todo') ≡ left_of (length offers) slots' (x.run.ms ++ x.round.ms) =
    ap (λ o. count_open slots' + untaken o (length todo')) x.round.told_after ∙ omega (arith, all, n) in
    omega (arith, before, after, next_left mach view Plain log state lists kept first now new from to room (all_taken todo large) (all_taken todo' large) started started' slots slots' offers capacity idle idled went x)
