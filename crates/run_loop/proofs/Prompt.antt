-- A partner whose files are told, and which began idle: in each turn of a run it settles an entry, and takes one or posts.
use Rattle.std.proofs.Common.{◌≡◌, ℕ, ◌+◌, ◌<◌, zero, suc, Bool, true, false, cond, List, [], ◌∷◌, ◌++◌, length, map, Option, Some, None, refl, ap, sym, subst, ◌∙◌, arith, length-append}
use Rattle.uring_base.specs.declared.events.Taken.{Taken}
use Rattle.uring_base.specs.declared.events.Completion.{Completion}
use Rattle.uring_base.specs.Completions.{is_final}
use Rattle.uring_model.specs.Chosen.{choice, stops}
use Rattle.uring_model.specs.Moves.{Move, Turned, Took, took, log_of}
use Rattle.uring_model.specs.Machine.{Files}
use Rattle.uring_model.specs.Schedule.{Machine, State, Cursor, cursors, named, Steps, IsServed, after_take, cut_of, EntryEnd, ByPost, Quietly, ended, posts_of, room_after, ends_turn, ending, answer_to, completion_of, is_quiet_end, end_of, Outturn, turn, take_all, settle_turn, settle_then, settled_by, stays}
use Rattle.uring_model.specs.Refines.{viewed, IsPlainAndIdle, IsPlainState}
use Rattle.uring_model.specs.Schedule as schedule
use Rattle.uring_model.specs.Asks.{IsJobEntry}
use Rattle.std.specs.List.{AllByRecursion}
use Rattle.uring_model.specs.Progress.{moves_of_turn}
use Rattle.uring_model.specs.declared.jobs.Job.{Job}
use Rattle.uring_model.specs.declared.pending.Pending.{Pending}
use Rattle.uring_model.specs.Jobs.{model_job, model_jobs}
use Rattle.uring_model.specs.Replay.{last_unlinked}
use Rattle.uring_model.specs.Explained.{Numbered}
use Rattle.uring_model.specs.Strange.{is_answered, ended_in}
use Rattle.uring_model.specs.Partner.{job_of, file_machine, idle}
use Rattle.uring_model.specs.Partner as filed
use Rattle.std.proofs.lemmas.List.{length-map}
use Rattle.run_loop.specs.Entries.{AllValid, AllInRange, entries_from, quiets_at}
use Rattle.run_loop.specs.Laws.{ModelLaws}
use Rattle.run_loop.proofs.Asks.{asks_all, numbered_all}
use Rattle.run_loop.proofs.Quiets.{quiets_jobs, valid_linked}
use Rattle.run_loop.specs.Slots.{any_final}

pub served_some : {W : Type 0} (mach : Machine W) (a : State W) (ms : List Move) (o : Option (State W)) → IsServed mach (Some a) ms o → (b : State W) × (o ≡ Some b) × Steps mach true a ms b
served_some mach a ms None h = absurd (h tt)
served_some mach a ms (Some b) h = (b, refl, h)

pub six_front : (xs ys : List Taken) → AllByRecursion IsJobEntry (xs ++ ys) → AllByRecursion IsJobEntry xs
six_front [] ys h = tt
six_front (x ∷ xs) ys h = (h.0, six_front xs ys h.1)

pub six_back : (xs ys : List Taken) → AllByRecursion IsJobEntry (xs ++ ys) → AllByRecursion IsJobEntry ys
six_back [] ys h = h
six_back (x ∷ xs) ys h = six_back xs ys h.1

took_ends : (es : List EntryEnd) → took (map ended es) ≡ []
took_ends [] = refl
took_ends (ByPost c ∷ es) = took_ends es
took_ends (Quietly n ∷ es) = took_ends es

pub took_turn : (ts : List Taken) (es : List EntryEnd) → took (map Took ts ++ map ended es) ≡ ts
took_turn [] es = took_ends es
took_turn (t ∷ ts) es = ap (λ l. t ∷ l) (took_turn ts es)

-- all posts of a turn are final

abbrev pub AllFinal : List Completion → Type 0
AllFinal [] = Unit {0}
AllFinal (c ∷ cs) = (is_final c.flags ≡ true) × AllFinal cs

final_more : {W : Type 0} (e : EntryEnd) (t : Outturn W) → AllFinal (posts_of (e ∷ [])) → AllFinal (posts_of t.ends) → AllFinal (posts_of (ending e t).ends)
final_more (ByPost c) t f g = (f.0, g)
final_more (Quietly n) t f g = g

final_or : {W : Type 0} (b : Bool) (x y : Outturn W) → AllFinal (posts_of x.ends) → AllFinal (posts_of y.ends) → AllFinal (posts_of (cond b x y).ends)
final_or true x y p q = p
final_or false x y p q = q

end_final : {W : Type 0} (mach : Machine W) (a : State W) (c : Cursor) → AllFinal (posts_of (end_of mach a.world c ∷ []))
end_final mach a c = by_quiet (is_quiet_end mach a.world c)
  where
    by_quiet : (q : Bool) → AllFinal (posts_of ((cond q (Quietly c.item.taken.entry.user_data) (ByPost (completion_of mach c.item.taken (answer_to mach a.world c)))) ∷ []))
    by_quiet true = tt
    by_quiet false = (refl, tt)

final_then : {W : Type 0} (mach : Machine W) (a : State W) (go : ℕ → State W → Outturn W) (room : ℕ) (o : Option Cursor) → ((room : ℕ) (b : State W) → AllFinal (posts_of (go room b).ends)) → AllFinal (posts_of (settle_then mach a go room o).ends)
final_then mach a go room None f = tt
final_then mach a go room (Some c) f =
    let e = end_of mach a.world c in
    final_more (end_of mach a.world c) (cond (ends_turn (stops (choice a.choices)) e) (stays (settled_by mach a c)) (go (room_after room e) (settled_by mach a c))) (end_final mach a c)
    (final_or (ends_turn (stops (choice a.choices)) (end_of mach a.world c)) (stays (settled_by mach a c)) (go (room_after room (end_of mach a.world c)) (settled_by mach a c)) tt (f (room_after room (end_of mach a.world c)) (settled_by mach a c)))

pub turn_final : {W : Type 0} (mach : Machine W) (left room : ℕ) (a : State W) → AllFinal (posts_of (settle_turn mach left room a).ends)
turn_final mach zero room a = tt
turn_final mach (suc left) zero a = tt
turn_final mach (suc left) (suc room) a = final_then mach a (settle_turn mach left) room (named (choice a.choices) (cursors mach a)) (turn_final mach left)

pub final_any : (cs : List Completion) → AllFinal cs → 0 < length cs → any_final cs ≡ true
final_any [] f h = absurd (omega arith)
final_any (c ∷ cs) f h = rw f.0 refl

take_count : {W : Type 0} (a : schedule.State W) (ts : List Taken) → length (take_all a ts).pending ≡ length a.pending + length ts
take_count a [] = omega arith
take_count a (t ∷ ts) = take_count (after_take a t) ts ∙ (let n : length (after_take a t).pending ≡ length a.pending + 1 = length-append a.pending (record { taken = t; cut = cut_of a.tail; marked = false } ∷ []) in omega arith)

pub same_turn : (p q : ℕ) (rest : List Move) (ts : List Taken) (es : List EntryEnd) (ms : List Move) → ms ≡ Turned p ∷ rest → ms ≡ moves_of_turn q ts es → p ≡ q
same_turn p q rest ts es ms e f = let h : ◌≡◌ {A = List Move} (Turned p ∷ rest) (moves_of_turn q ts es) = sym e ∙ f in cc

-- Where such a partner stands in a run: its moves are steps of the files from an idle state.
pub record Stands {W : Type 0} (mach : Machine W) (view : W → Files) (Plain : W → Type 0) (a b : State W) (run : List Move) : Type 0 where
  pub steps : filed.Steps false (idle (view a.world) a.choices) run (viewed view b)
  pub plain : IsPlainState Plain IsJobEntry b

pub stands : {W : Type 0} (mach : Machine W) (view : W → Files) (Plain : W → Type 0) (laws : ModelLaws mach view Plain) (a b : State W) (run : List Move) → IsPlainAndIdle Plain a → Steps mach true a run b → AllByRecursion IsJobEntry (took run) → Stands mach view Plain a b run
stands mach view Plain laws a b run rests steps six =
    let s = laws.world.steps_seen true a b run (record { world = rests.plain; pending = subst (AllByRecursion (λ i. IsJobEntry i.taken)) (sym rests.pending) tt }) six steps in
    let resting : filed.IsIdle (viewed view a) = record { pending = rests.pending; tail = rests.tail } in
    record { steps = laws.idle_moves (viewed view a) (viewed view b) run resting s.0; plain = s.1 }

-- while a job isn't answered, something is pending once all entries were taken
pub waits_still : {W : Type 0} (mach : Machine W) (view : W → Files) (Plain : W → Type 0) (laws : ModelLaws mach view Plain) (jobs : List Job) (a b : State W) (run : List Move) (large : Bool) → Stands mach view Plain a b run → AllValid jobs → AllInRange jobs → took run ≡ entries_from 0 jobs large
    → (j : ℕ) → j < length jobs → is_answered (quiets_at jobs) (ended_in (log_of run)) j ≡ false → 0 < length b.pending
waits_still mach view Plain laws jobs a b run large s valid range all j lt left =
    some_if b.pending (λ none.
    let asks : map job_of (took run) ≡ last_unlinked (model_jobs jobs) = ap (map job_of) all ∙ asks_all 0 jobs valid range large in
    let inside : j < length (model_jobs jobs) = omega (arith, lt, length-map jobs model_job) in
    let done = laws.answered (model_jobs jobs) (view a.world) a.choices run (viewed view b) (valid_linked jobs valid) asks (subst (Numbered 0) (sym all) (numbered_all 0 jobs large)) s.steps none j inside in
    let bad : true ≡ false = sym done ∙ ap (λ qs. is_answered qs (ended_in (log_of run)) j) (sym (quiets_jobs 0 jobs)) ∙ left in cc)
  where
    some_if : (is : List Pending) → (is ≡ [] → ⊥) → 0 < length is
    some_if [] f = absurd (f refl)
    some_if (i ∷ is) f = omega arith

-- what a turn of such a partner does: an entry settles in it, and it takes one or posts
pub record Pays {W : Type 0} (mach : Machine W) (b : State W) (ts : List Taken) (room : ℕ) : Type 0 where
  pub settles : 0 < length (turn mach ts room b).ends
  pub goes : (length ts ≡ 0) → 0 < length (posts_of (turn mach ts room b).ends)

none_of : {A : Type 0} (xs : List A) → length xs ≡ 0 → xs ≡ []
none_of [] h = refl
none_of (x ∷ xs) h = absurd (omega arith)

pub turn_pays : {W : Type 0} (mach : Machine W) (view : W → Files) (Plain : W → Type 0) (laws : ModelLaws mach view Plain) (jobs : List Job) (a b : State W) (run : List Move) (large : Bool) (ts : List Taken) (room : ℕ) → Stands mach view Plain a b run → AllValid jobs → AllInRange jobs → AllByRecursion IsJobEntry ts
    → (length ts ≡ 0 → (took run ≡ entries_from 0 jobs large) × ((j : ℕ) × (j < length jobs) × (is_answered (quiets_at jobs) (ended_in (log_of run)) j ≡ false))) → 0 < room → Pays mach b ts room
turn_pays mach view Plain laws jobs a b run large ts room s valid range six f r =
    let seen : (turn mach ts room b).ends ≡ (turn file_machine ts room (viewed view b)).ends = (laws.world.turns_seen room ts b s.plain six).0 in
    let taken = take_count (viewed view b) ts in
    let waits : length ts ≡ 0 → 0 < length b.pending = λ z. let g = f z in waits_still mach view Plain laws jobs a b run large s valid range g.0 g.1.0 g.1.1 g.1.2 in
    let some : 0 < length (take_all (viewed view b) ts).pending = omega (arith, taken, some_of (length ts) (length b.pending) waits) in
    record {
      settles = subst (λ l. 0 < length l) (sym seen) (laws.settles room ts (viewed view b) some r);
      goes = λ z.
          let none : ts ≡ [] = none_of ts z in
          let g = f z in
          let asks : map job_of (took run) ≡ last_unlinked (model_jobs jobs) = ap (map job_of) g.0 ∙ asks_all 0 jobs valid range large in
          subst (λ l. 0 < length (posts_of l)) (ap (λ l. (turn file_machine l room (viewed view b)).ends) (sym none) ∙ sym seen)
          (laws.last_posts (model_jobs jobs) (view a.world) a.choices run (viewed view b) room (valid_linked jobs valid) asks s.steps (waits z) r);
    }
  where
    some_of : (n m : ℕ) → (n ≡ 0 → 0 < m) → 0 < m + n
    some_of zero m h = omega (arith, h refl)
    some_of (suc n) m h = omega arith
