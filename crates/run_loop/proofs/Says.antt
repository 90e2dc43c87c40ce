-- What a run tells, from what its rounds did.
use Rattle.std.proofs.Common.{◌≡◌, ℕ, suc, ◌+◌, ◌<◌, ◌≤◌, Bool, true, false, List, [], ◌∷◌, ◌++◌, length, map, replicate, drop, IsSome, Result, Ok, Err, Option, Some, None, IfOk, IfErr, IfSome, refl, ap, sym, subst, ◌∙◌, arith}
use Rattle.std.specs.List.{AllByRecursion}
use Rattle.std.proofs.lemmas.List.Elements.{All-from_recursion, recursion_from_All}
use Rattle.std.proofs.Math.Seq.{drop-append_seam}
use Rattle.uring_base.specs.declared.events.Event.{Event}
use Rattle.uring_base.specs.declared.events.LogEvent.{LogEvent}
use Rattle.uring_model.specs.declared.jobs.Job.{Job}
use Rattle.uring_model.specs.declared.jobs.Outcome.{Outcome}
use Rattle.uring_model.specs.declared.jobs.Report.{Report}
use Rattle.uring_model.specs.declared.jobs.RunFault.{RunFault}
use Rattle.uring_model.specs.declared.jobs.RunFault.TheVariants as faults
use Rattle.uring_model.specs.Jobs.{model_job, model_jobs, quiets_of}
use Rattle.std.proofs.lemmas.List.{length-map}
use Rattle.uring_model.specs.Replay.{last_unlinked, IsWhole, table}
use Rattle.uring_model.specs.Moves.{Move, Turned, Took, Posted, Quieted, took, posted, quieted, event_of, journal_of, log_of, IsLogged}
use Rattle.uring_model.specs.Partner.{job_of, idle}
use Rattle.uring_model.specs.Partner as filed
use Rattle.uring_model.specs.Machine.{Files}
use Rattle.uring_model.specs.Schedule as schedule
use Rattle.uring_model.specs.Refines.{viewed, IsPlainAndIdle}
use Rattle.uring_model.specs.Asks.{IsJobEntry}
use Rattle.uring_model.specs.Progress.{turns}
use Rattle.uring_model.specs.Explained.{Numbered, record_all, AllFresh, Explained}
use Rattle.uring_model.specs.Honest.{HasOwnLoan}
use Rattle.uring_model.specs.Strange.{nothing_seen, is_answered, ended_in, first_strange}
use Rattle.uring_base.specs.declared.events.Taken.{Taken}
use Rattle.uring_model.proofs.Honest.{quiets_unlinked}
use Rattle.run_loop.specs.declared.entries.Offer.{Offer}
use Rattle.run_loop.specs.declared.slot.Slot.{Slot}
use Rattle.run_loop.specs.declared.slot.Slot.TheVariants.{Done}
use Rattle.run_loop.specs.Driven.{Driven, IsGivenUp}
use Rattle.run_loop.specs.declared.slot.Reply.{Reply}
use Rattle.run_loop.specs.Entries.{offers_from, all_taken, entries_from, reply_in, lends_in, lends_at, quiets_in, quiets_at, AllValid, AllInRange}
use Rattle.run_loop.specs.Laws.{ModelLaws}
use Rattle.run_loop.specs.Memory.{ExplainsWithin, replayed_outcomes}
use Rattle.ring_traits.specs.Lists.{Advances}
use Rattle.run_loop.proofs.Places.{advances_by}
use Rattle.run_loop.specs.Rounds.{PlacesGoOn, is_partner_fault, is_stall, is_stranger_fault}
use Rattle.run_loop.specs.Runs.{Ran, InFullTurns, RunSays, PlacesRanOn, count_posts, outcomes_from, IsAnswered, IsFaulted, IsReported}
use Rattle.run_loop.specs.Slots.{count_open, slots_from}
use Rattle.run_loop.proofs.EntryLemmas.{offers_count}
use Rattle.run_loop.proofs.Asks.{asks_all, six_all, numbered_all, own_all, replies_first, asks, asks_list}
use Rattle.run_loop.proofs.Prompt.{served_some, six_front}
use Rattle.run_loop.proofs.Results.{results_from, results_first, record_results, steps_final, outcomes_of_slots, answers, answered, quiet_asks, is_loud, loud_answers, marks_same, told_outcomes}
use Rattle.run_loop.proofs.Posts.{done_jobs, tells_after, last_is_quiet}
use Rattle.run_loop.proofs.Running.{nothing_told}
use Rattle.run_loop.proofs.Quiets.{quiet_at, quiets_jobs, quiets_plain, valid_linked, loud_last, quiets_move_none, quiets_named, are_quiets}

-- its turns by its jobs
full_of : (jobs : List Job) (capacity idle : ℕ) (ms : List Move) → InFullTurns capacity (length (offers_from 0 jobs)) idle ms → InFullTurns capacity (length jobs) idle ms
full_of jobs capacity idle ms full = subst (λ n. InFullTurns capacity n idle ms) (offers_count 0 jobs) full

-- nothing was done
pub not_driven : {W : Type 0} (mach : schedule.Machine W) (view : W → Files) (Plain : W → Type 0) {P : Type 0} (laws : ModelLaws mach view Plain) (log : P → Option (List LogEvent)) (state : P → Option (schedule.State W)) (p : P) (jobs : List Job) (capacity idle : ℕ) → Driven mach log state p p (offers_from 0 jobs) capacity idle
not_driven mach view Plain laws log state p jobs capacity idle = record {
  ran = record { moves = []; large = false; ahead = all_taken (offers_from 0 jobs) false; logs = laws.stay.logs (log p); states = laws.world.stay (state p); entries = refl; within = tt };
  full = record { busy = tt; few = omega arith };
}

faulted_of : (jobs : List Job) (idle : ℕ) (log : List LogEvent) (e : RunFault) → IsGivenUp (offers_from 0 jobs) idle log e → IsFaulted jobs idle log e
faulted_of jobs idle log (faults.Stranger u) h = h
faulted_of jobs idle log faults.Stalled h = record { idled = h.idled; job = h.job; inside = subst (λ n. h.job < n) (offers_count 0 jobs) h.inside; unanswered = h.unanswered }
faulted_of jobs idle log faults.PartnerFault h = tt
faulted_of jobs idle log faults.NoMemory h = tt
faulted_of jobs idle log faults.BadSize h = h
faulted_of jobs idle log (faults.BadJob n) h = h

-- over an idle partner that tells its files

abbrev replies_at : List Job → ℕ → Reply
replies_at jobs = reply_in (offers_from 0 jobs)

pub record FromIdle (jobs : List Job) (a b : filed.PartnerState) (ms : List Move) : Type 0 where
  pub explained : Explained (model_jobs jobs) a.world a.choices ms b
  pub steps : filed.Steps false (idle a.world a.choices) ms b
  pub honest : first_strange (lends_at jobs) (quiets_at jobs) nothing_seen (log_of ms) ≡ None
  pub told : AllByRecursion (λ c. answers (replies_at jobs) c ≡ true) (posted ms)
  pub loud : AllByRecursion (λ c. is_loud (quiet_at (quiets_at jobs)) c ≡ true) (posted ms)
  pub quiets : AllByRecursion (λ n. quiet_at (quiets_at jobs) n ≡ true) (quieted ms)
  pub heard : ((j : ℕ) → j < length jobs → is_answered (quiets_at jobs) (ended_in (log_of ms)) j ≡ true) → IsWhole explained.state
  pub restful : IsWhole explained.state → filed.IsIdle b

-- what holds of a list's members holds of those of its front
front_of : {A : Type 0} (P : A → Type 0) (xs ys : List A) → AllByRecursion P (xs ++ ys) → AllByRecursion P xs
front_of P [] ys h = tt
front_of P (x ∷ xs) ys h = (h.0, front_of P xs ys h.1)

-- the marks of the entries, by their numbers

all_marked : (quiet : ℕ → Bool) (ts : List Taken) → AllByRecursion (λ t. (job_of t).quiet ≡ quiet t.entry.user_data) ts → AllByRecursion (λ t. quiet_asks quiet t ≡ true) ts
all_marked quiet [] h = tt
all_marked quiet (t ∷ ts) h = (marks_same (job_of t).quiet (quiet t.entry.user_data) h.0, all_marked quiet ts h.1)

all_ended : (quiet : ℕ → Bool) (ts : List Taken) → AllByRecursion (λ t. (job_of t).quiet ≡ quiet t.entry.user_data) ts → AllByRecursion (λ t. (job_of t).quiet ≡ true → quiet t.entry.user_data ≡ true) ts
all_ended quiet [] h = tt
all_ended quiet (t ∷ ts) h = ((λ q. sym h.0 ∙ q), all_ended quiet ts h.1)

pub from_idle : {W : Type 0} (mach : schedule.Machine W) (view : W → Files) (Plain : W → Type 0) {P : Type 0} (laws : ModelLaws mach view Plain) (log : P → Option (List LogEvent)) (state : P → Option (schedule.State W)) (old new : P) (jobs : List Job) (d : Ran mach log state old new (entries_from 0 jobs)) → AllValid jobs → AllInRange jobs → (a : schedule.State W) → state old ≡ Some a → IsPlainAndIdle Plain a
    → (b : schedule.State W) × (state new ≡ Some b) × FromIdle jobs (viewed view a) (viewed view b) d.moves × Plain b.world
from_idle mach view Plain laws log state old new jobs d valid range a told rests =
    let served = served_some mach a d.moves (state new) (subst (λ o. schedule.IsServed mach o d.moves (state new)) told d.states) in
    let b = served.0 in
    let same_jobs : map job_of (took d.moves ++ d.ahead) ≡ last_unlinked (model_jobs jobs) = ap (map job_of) d.entries ∙ asks_all 0 jobs valid range d.large in
    let numbered : Numbered 0 (took d.moves ++ d.ahead) = subst (Numbered 0) (sym d.entries) (numbered_all 0 jobs d.large) in
    let six : AllByRecursion IsJobEntry (took d.moves) = six_front (took d.moves) d.ahead (subst (AllByRecursion IsJobEntry) (sym d.entries) (six_all 0 jobs valid range d.large)) in
    let files = laws.world.steps_seen true a b d.moves (record { world = rests.plain; pending = subst (AllByRecursion (λ i. IsJobEntry i.taken)) (sym rests.pending) tt }) six served.2 in
    let calls : filed.IsServed (Some (viewed view a)) d.moves (Some (viewed view b)) = files.0 in
    let resting : filed.IsIdle (viewed view a) = record { pending = rests.pending; tail = rests.tail } in
    let steps = laws.idle_moves (viewed view a) (viewed view b) d.moves resting calls in
    let own : AllByRecursion (HasOwnLoan (lends_at jobs)) (took d.moves ++ d.ahead) = subst (AllByRecursion (HasOwnLoan (lends_at jobs))) (sym d.entries) (own_all (replies_at jobs) (lends_at jobs) (λ j. refl) 0 jobs (replies_first jobs) d.large) in
    let entries_ask : AllByRecursion (λ t. asks (replies_at jobs) t ≡ true) (took d.moves ++ d.ahead) = subst (AllByRecursion (λ t. asks (replies_at jobs) t ≡ true)) (sym d.entries) (asks_list (replies_at jobs) 0 jobs (replies_first jobs) valid range d.large) in
    let linked = valid_linked jobs valid in
    let quiet : ℕ → Bool = quiet_at (quiets_at jobs) in
    let marks : quiets_at jobs ≡ quiets_of (model_jobs jobs) = quiets_jobs 0 jobs in
    let entry_marks : quiets_of (map job_of (took d.moves ++ d.ahead)) ≡ quiets_at jobs = ap quiets_of same_jobs ∙ quiets_unlinked (model_jobs jobs) ∙ sym marks in
    let named : AllByRecursion (λ t. (job_of t).quiet ≡ quiet_at (quiets_at jobs) t.entry.user_data) (took d.moves ++ d.ahead) =
    quiets_named (quiet_at (quiets_at jobs)) 0 (took d.moves ++ d.ahead) (λ i. let z : 0 + i ≡ i = omega arith in (λ k. quiet_at (sym entry_marks k) (z k))) numbered in
    let named_front = front_of (λ t. (job_of t).quiet ≡ quiet_at (quiets_at jobs) t.entry.user_data) (took d.moves) d.ahead named in
    let explained = laws.explained (model_jobs jobs) d.moves d.ahead (viewed view a) (viewed view b) resting same_jobs numbered calls in (
      b,
      served.1,
      record {
        explained = explained;
        steps = steps;
        honest =
            ap (λ qs. first_strange (lends_at jobs) qs nothing_seen (log_of d.moves)) marks
            ∙ laws.honest (lends_at jobs) (model_jobs jobs) (view a.world) a.choices d.moves d.ahead (viewed view b) linked same_jobs numbered steps (All-from_recursion (HasOwnLoan (lends_at jobs)) (took d.moves) (front_of (HasOwnLoan (lends_at jobs)) (took d.moves) d.ahead own)) d.within;
        loud =
            recursion_from_All (λ c. is_loud (quiet_at (quiets_at jobs)) c ≡ true) (posted d.moves)
            (laws.answers (quiet_asks (quiet_at (quiets_at jobs))) (is_loud (quiet_at (quiets_at jobs))) (view a.world) a.choices d.moves (viewed view b) (loud_answers (quiet_at (quiets_at jobs))) steps
            (All-from_recursion (λ t. quiet_asks (quiet_at (quiets_at jobs)) t ≡ true) (took d.moves) (all_marked (quiet_at (quiets_at jobs)) (took d.moves) named_front)));
        quiets =
            recursion_from_All (λ n. quiet_at (quiets_at jobs) n ≡ true) (quieted d.moves)
            (laws.quiets (quiet_at (quiets_at jobs)) (view a.world) a.choices d.moves (viewed view b) steps
            (All-from_recursion (λ t. (job_of t).quiet ≡ true → quiet_at (quiets_at jobs) t.entry.user_data ≡ true) (took d.moves) (all_ended (quiet_at (quiets_at jobs)) (took d.moves) named_front)));
        heard = λ all. laws.heard (model_jobs jobs) (view a.world) a.choices d.moves d.ahead (viewed view b) explained.state linked same_jobs numbered steps explained.replays
            (λ j lt. ap (λ qs. is_answered qs (ended_in (log_of d.moves)) j) (sym marks) ∙ all j (omega (arith, lt, length-map jobs model_job)));
        told =
            recursion_from_All (λ c. answers (replies_at jobs) c ≡ true) (posted d.moves)
            (laws.answers (asks (replies_at jobs)) (answers (replies_at jobs)) (view a.world) a.choices d.moves (viewed view b) (answered (replies_at jobs)) steps
            (All-from_recursion (λ t. asks (replies_at jobs) t ≡ true) (took d.moves) (front_of (λ t. asks (replies_at jobs) t ≡ true) (took d.moves) d.ahead entries_ask)));
        restful = λ w. laws.restful (model_jobs jobs) (view a.world) a.choices d.moves d.ahead (viewed view b) explained.state same_jobs numbered steps explained.replays w;
      },
      files.1.world,
    )

-- a run that ends with a fault

stranger_not : (e : RunFault) (jobs : List Job) (bound : ℕ) (log : List LogEvent) → IsGivenUp (offers_from 0 jobs) bound log e → first_strange (lends_at jobs) (quiets_at jobs) nothing_seen log ≡ None → is_stranger_fault e ≡ false
stranger_not (faults.Stranger u) jobs bound log g h = let bad : None ≡ Some u = sym h ∙ g in cc
stranger_not faults.Stalled jobs bound log g h = refl
stranger_not faults.PartnerFault jobs bound log g h = refl
stranger_not faults.NoMemory jobs bound log g h = refl
stranger_not faults.BadSize jobs bound log g h = refl
stranger_not (faults.BadJob n) jobs bound log g h = refl

some_told : {A : Type 0} (o : Option A) (a : A) (P : A → Type 0) → IfSome o P → o ≡ Some a → P a
some_told o a P h e = subst (λ x. IfSome x P) e h

pub fault_explains : {W : Type 0} (view : W → Files) (Plain : W → Type 0) (bound : ℕ) (jobs : List Job) (a b : schedule.State W) (ms : List Move) (e : RunFault) → FromIdle jobs (viewed view a) (viewed view b) ms → is_stranger_fault e ≡ false → is_stall e ≡ false → ExplainsWithin view Plain bound (model_jobs jobs) a ms b (Err e)
fault_explains view Plain bound jobs a b ms e f honest prompt = record {
  end = f.explained.state;
  replays = f.explained.replays;
  chosen = f.explained.chosen;
  files = f.explained.files_at_end;
  report = tt;
  fault = (honest, prompt);
}

pub says_fault : {W : Type 0} (mach : schedule.Machine W) (view : W → Files) (Plain : W → Type 0) {P : Type 0} (laws : ModelLaws mach view Plain) (log : P → Option (List LogEvent)) (state : P → Option (schedule.State W)) (old new : P) (jobs : List Job) (capacity bound : ℕ) (e : RunFault) → AllValid jobs → AllInRange jobs
    → (d : Driven mach log state old new (offers_from 0 jobs) capacity bound) → IsGivenUp (offers_from 0 jobs) bound (log_of d.ran.moves) e → IfSome (state old) (λ a. IsPlainAndIdle Plain a → is_stall e ≡ false)
    → RunSays mach view Plain log state old new jobs capacity bound (Err e)
says_fault mach view Plain laws log state old new jobs capacity bound e valid range d given stall = record {
  ran = d.ran;
  full = full_of jobs capacity bound d.ran.moves d.full;
  report = tt;
  fault = faulted_of jobs bound (log_of d.ran.moves) e given;
  memory = λ a told rests.
      let f = from_idle mach view Plain laws log state old new jobs d.ran valid range a told rests in
      (f.0, f.1, fault_explains view Plain (length (model_jobs jobs)) jobs a f.0 d.ran.moves e f.2 (stranger_not e jobs bound (log_of d.ran.moves) given f.2.honest) (some_told (state old) a (λ a. IsPlainAndIdle Plain a → is_stall e ≡ false) stall told rests));
}

-- a run that ends well

whole_results : (jobs : List Job) (a b : filed.PartnerState) (ms : List Move) → (f : FromIdle jobs a b ms) → table f.explained.state ≡ results_from 0 (length jobs) (posted ms) (quieted ms)
whole_results jobs a b ms f =
    let n : length (model_jobs jobs) ≡ length jobs = length-map jobs model_job in
    let first : replicate (length (model_jobs jobs)) None ≡ results_from 0 (length jobs) [] [] = ap (λ k. replicate k None) n ∙ sym (results_first 0 (length jobs)) in
    f.explained.outcomes
    ∙ ap (λ t. record_all t ms) first
    ∙ record_results (length jobs) [] [] ms (steps_final false (idle a.world a.choices) b ms f.steps) (subst (λ t. AllFresh t ms) first f.explained.fresh)

-- where each slot has an outcome each job is answered
all_heard : (jobs : List Job) (ms : List Move) → AllValid jobs → count_open (slots_from 0 (offers_from 0 jobs) (posted ms)) ≡ 0 → (j : ℕ) → j < length jobs → is_answered (quiets_at jobs) (ended_in (log_of ms)) j ≡ true
all_heard jobs ms valid none j lt =
    done_jobs (offers_from 0 jobs) (posted ms) (ended_in (log_of ms)) (tells_after nothing_seen [] ms nothing_told) (loud_last 0 jobs valid) none j (omega (arith, lt, offers_count 0 jobs))

pub answered_by : (jobs : List Job) (ms : List Move) (os : List Outcome) → AllValid jobs → count_open (slots_from 0 (offers_from 0 jobs) (posted ms)) ≡ 0 → first_strange (lends_at jobs) (quiets_at jobs) nothing_seen (log_of ms) ≡ None → map (λ o. Done o) os ≡ slots_from 0 (offers_from 0 jobs) (posted ms) → IsAnswered jobs (log_of ms) os
answered_by jobs ms os valid none honest slots = record {
  expected = honest;
  answered = all_heard jobs ms valid none;
  outcomes = outcomes_of_slots jobs ms os slots;
}

pub whole_explains : {W : Type 0} (mach : schedule.Machine W) (view : W → Files) (Plain : W → Type 0) (laws : ModelLaws mach view Plain) (bound : ℕ) (jobs : List Job) (a b : schedule.State W) (ms : List Move) (report : Report) → AllValid jobs → FromIdle jobs (viewed view a) (viewed view b) ms → Plain b.world → count_open (slots_from 0 (offers_from 0 jobs) (posted ms)) ≡ 0 → map (λ o. Some o) report.outcomes.items ≡ outcomes_from 0 jobs (log_of ms) → turns ms ≤ bound
    → ExplainsWithin view Plain bound (model_jobs jobs) a ms b (Ok report)
whole_explains mach view Plain laws bound jobs a b ms report valid f plain none answers few =
    let results = whole_results jobs (viewed view a) (viewed view b) ms f in
    let whole = f.heard (all_heard jobs ms valid none) in
    let set : AllByRecursion IsSome (results_from 0 (length jobs) (posted ms) (quieted ms)) = subst (AllByRecursion IsSome) results (recursion_from_All IsSome (table f.explained.state) (laws.set f.explained.state whole)) in
    let quiets = are_quiets (quiet_at (quiets_at jobs)) 0 jobs (λ i. let z : 0 + i ≡ i = omega arith in (λ k. quiet_at (quiets_jobs 0 jobs k) (z k))) in
    let last : last_is_quiet (map (λ job. job.quiet) jobs) ≡ false = ap last_is_quiet (sym (quiets_plain jobs)) ∙ loud_last 0 jobs valid in
    record {
      end = f.explained.state;
      replays = f.explained.replays;
      chosen = f.explained.chosen;
      files = f.explained.files_at_end;
      report = record {
        whole = whole;
        outcomes = answers ∙ sym (told_outcomes (replies_at jobs) (quiet_at (quiets_at jobs)) 0 jobs ms (replies_first jobs) quiets (quiets_move_none jobs valid) last f.told f.loud f.quiets set) ∙ ap (replayed_outcomes (model_jobs jobs)) (sym results);
        idle = let r = f.restful whole in record { pending = r.pending; tail = r.tail; plain = plain };
        few = few;
      };
      fault = tt;
    }

pub journal_gain : (o p : Option (List LogEvent)) (ms : List Move) (start : ℕ) (journal : List Event) → IsLogged o ms p → IfSome o (λ l. start ≡ length l) → IfSome p (λ l. journal ≡ map event_of (drop start l)) → IfSome o (λ _. journal ≡ journal_of (log_of ms))
journal_gain None p ms start journal h s j = tt
journal_gain (Some l) p ms start journal h s j =
    let told : journal ≡ map event_of (drop start (l ++ log_of ms)) = subst (λ x. IfSome x (λ l. journal ≡ map event_of (drop start l))) h j in
    told ∙ ap (λ n. map event_of (drop n (l ++ log_of ms))) s ∙ ap (map event_of) (drop-append_seam l (log_of ms))

-- the report of a partner's part of a run
pub reported : {W : Type 0} (mach : schedule.Machine W) {P : Type 0} (log : P → Option (List LogEvent)) (state : P → Option (schedule.State W)) (old new : P) (jobs : List Job) (report : Report) (start : ℕ) → AllValid jobs → (d : Ran mach log state old new (entries_from 0 jobs))
    → first_strange (lends_at jobs) (quiets_at jobs) nothing_seen (log_of d.moves) ≡ None → count_open (slots_from 0 (offers_from 0 jobs) (posted d.moves)) ≡ 0 → map (λ o. Done o) report.outcomes.items ≡ slots_from 0 (offers_from 0 jobs) (posted d.moves)
    → IfSome (log old) (λ l. start ≡ length l) → IfSome (log new) (λ l. report.journal.items ≡ map event_of (drop start l)) → IsReported log old jobs d.moves report
reported mach log state old new jobs report start valid d honest none slots at journal = record {
  answered = answered_by jobs d.moves report.outcomes.items valid none honest slots;
  journal = journal_gain (log old) (log new) d.moves start report.journal.items d.logs at journal;
}

pub says_report : {W : Type 0} (mach : schedule.Machine W) (view : W → Files) (Plain : W → Type 0) {P : Type 0} (laws : ModelLaws mach view Plain) (log : P → Option (List LogEvent)) (state : P → Option (schedule.State W)) (old new : P) (jobs : List Job) (capacity bound : ℕ) (report : Report) (start : ℕ) → AllValid jobs → AllInRange jobs
    → (d : Driven mach log state old new (offers_from 0 jobs) capacity bound) → first_strange (lends_in (offers_from 0 jobs)) (quiets_in (offers_from 0 jobs)) nothing_seen (log_of d.ran.moves) ≡ None
    → count_open (slots_from 0 (offers_from 0 jobs) (posted d.ran.moves)) ≡ 0 → map (λ o. Done o) report.outcomes.items ≡ slots_from 0 (offers_from 0 jobs) (posted d.ran.moves)
    → IfSome (log old) (λ l. start ≡ length l) → IfSome (log new) (λ l. report.journal.items ≡ map event_of (drop start l))
    → ((a : schedule.State W) → state old ≡ Some a → IsPlainAndIdle Plain a → turns d.ran.moves ≤ length (offers_from 0 jobs))
    → RunSays mach view Plain log state old new jobs capacity bound (Ok report)
says_report mach view Plain laws log state old new jobs capacity bound report start valid range d honest none slots at journal few =
    let told = reported mach log state old new jobs report start valid d.ran honest none slots at journal in
    record {
      ran = d.ran;
      full = full_of jobs capacity bound d.ran.moves d.full;
      report = told;
      fault = tt;
      memory = λ a is rests.
          let f = from_idle mach view Plain laws log state old new jobs d.ran valid range a is rests in
          (f.0, f.1, whole_explains mach view Plain laws (length (model_jobs jobs)) jobs a f.0 d.ran.moves report valid f.2 f.3 none told.answered.outcomes (subst (λ n. turns d.ran.moves ≤ n) (offers_count 0 jobs ∙ sym (length-map jobs model_job)) (few a is rests)));
    }

pub not_stalled : {W : Type 0} (Plain : W → Type 0) (o : Option (schedule.State W)) → IfSome o (λ a. IsPlainAndIdle Plain a → is_stall faults.NoMemory ≡ false)
not_stalled Plain None = tt
not_stalled Plain (Some a) = λ h. refl

told_either : {W : Type 0} (mach : schedule.Machine W) (view : W → Files) (Plain : W → Type 0) {P : Type 0} (laws : ModelLaws mach view Plain) (log : P → Option (List LogEvent)) (state : P → Option (schedule.State W)) (old new : P) (jobs : List Job) (capacity bound : ℕ) (start : ℕ) (slots : List Slot) (r : Result Report RunFault) → AllValid jobs → AllInRange jobs
    → (d : Driven mach log state old new (offers_from 0 jobs) capacity bound) → count_open slots ≡ 0 → slots ≡ slots_from 0 (offers_from 0 jobs) (posted d.ran.moves) → first_strange (lends_in (offers_from 0 jobs)) (quiets_in (offers_from 0 jobs)) nothing_seen (log_of d.ran.moves) ≡ None → ((a : schedule.State W) → state old ≡ Some a → IsPlainAndIdle Plain a → turns d.ran.moves ≤ length (offers_from 0 jobs))
    → IfOk r (λ report. map (λ o. Done o) report.outcomes.items ≡ slots) → IfOk r (λ report. IfSome (log new) (λ l. report.journal.items ≡ map event_of (drop start l))) → IfErr r (λ e. e ≡ faults.NoMemory) → IfSome (log old) (λ l. start ≡ length l)
    → RunSays mach view Plain log state old new jobs capacity bound r
told_either mach view Plain laws log state old new jobs capacity bound start slots (Ok report) valid range d none told honest few outcomes journal err at =
    says_report mach view Plain laws log state old new jobs capacity bound report start valid range d honest (ap count_open (sym told) ∙ none) (outcomes ∙ told) at journal few
told_either mach view Plain laws log state old new jobs capacity bound start slots (Err e) valid range d none told honest few outcomes journal err at =
    subst (λ e. RunSays mach view Plain log state old new jobs capacity bound (Err e)) (sym err) (says_fault mach view Plain laws log state old new jobs capacity bound faults.NoMemory valid range d tt (not_stalled Plain (state old)))

-- what a run tells by its report, or by want of memory for it
pub says_either : {W : Type 0} (mach : schedule.Machine W) (view : W → Files) (Plain : W → Type 0) {P : Type 0} (laws : ModelLaws mach view Plain) (log : P → Option (List LogEvent)) (state : P → Option (schedule.State W)) (old new : P) (jobs : List Job) (capacity bound : ℕ) (start : ℕ) (slots : List Slot) (offers : List Offer) (r : Result Report RunFault) → AllValid jobs → AllInRange jobs → offers ≡ offers_from 0 jobs
    → ((d : Driven mach log state old new offers capacity bound) × ((count_open slots ≡ 0) × (slots ≡ slots_from 0 offers (posted d.ran.moves)) × (first_strange (lends_in offers) (quiets_in offers) nothing_seen (log_of d.ran.moves) ≡ None) × ((a : schedule.State W) → state old ≡ Some a → IsPlainAndIdle Plain a → turns d.ran.moves ≤ length offers)))
    → IfOk r (λ report. map (λ o. Done o) report.outcomes.items ≡ slots) → IfOk r (λ report. IfSome (log new) (λ l. report.journal.items ≡ map event_of (drop start l))) → IfErr r (λ e. e ≡ faults.NoMemory)
    → IfSome (log old) (λ l. start ≡ length l)
    → RunSays mach view Plain log state old new jobs capacity bound r
says_either {W = W} mach view Plain laws log state old new jobs capacity bound start slots offers r valid range same run outcomes journal err at =
    let whole : (d : Driven mach log state old new (offers_from 0 jobs) capacity bound) × ((count_open slots ≡ 0) × (slots ≡ slots_from 0 (offers_from 0 jobs) (posted d.ran.moves)) × (first_strange (lends_in (offers_from 0 jobs)) (quiets_in (offers_from 0 jobs)) nothing_seen (log_of d.ran.moves) ≡ None) × ((a : schedule.State W) → state old ≡ Some a → IsPlainAndIdle Plain a → turns d.ran.moves ≤ length (offers_from 0 jobs))) =
    subst (λ o. (d : Driven mach log state old new o capacity bound) × ((count_open slots ≡ 0) × (slots ≡ slots_from 0 o (posted d.ran.moves)) × (first_strange (lends_in o) (quiets_in o) nothing_seen (log_of d.ran.moves) ≡ None) × ((a : schedule.State W) → state old ≡ Some a → IsPlainAndIdle Plain a → turns d.ran.moves ≤ length o))) same run in
    told_either mach view Plain laws log state old new jobs capacity bound start slots r valid range whole.0 whole.1.0 whole.1.1 whole.1.2 whole.1.3 outcomes journal err at

-- the log's length is where its gain begins
pub gain_at : (o : Option (List LogEvent)) (start count : ℕ) → start ≡ count → IfSome o (λ l. count ≡ length l) → IfSome o (λ l. start ≡ length l)
gain_at None start count e h = tt
gain_at (Some l) start count e h = e ∙ h

-- want of memory isn't the partner's fault

lacking : {T : Type 0} (r : Result T RunFault) → IfErr r (λ e. e ≡ faults.NoMemory) → IfErr r (λ e. is_partner_fault e ≡ false)
lacking (Ok x) h = tt
lacking (Err e) h = ap is_partner_fault h

pub unplanned_lacking : {S T : Type 0} (state : Option S) (P : Type 0) (r : Result T RunFault) → IfErr r (λ e. e ≡ faults.NoMemory) → IfSome state (λ _. P → IfErr r (λ e. is_partner_fault e ≡ false))
unplanned_lacking None P r h = tt
unplanned_lacking (Some s) P r h = λ _. lacking r h

-- the positions of the ring, by the journal

posts_counted : (ms : List Move) → count_posts (journal_of (log_of ms)) ≡ length (posted ms)
posts_counted [] = refl
posts_counted (Turned p ∷ ms) = posts_counted ms
posts_counted (Took t ∷ ms) = posts_counted ms
posts_counted (Posted c ∷ ms) = ap suc (posts_counted ms)
posts_counted (Quieted n ∷ ms) = posts_counted ms

if_told : {A : Type 0} (o : Option A) (P Q : Type 0) → IfSome o (λ _. P) → (P → Q) → IfSome o (λ _. Q)
if_told None P Q h f = tt
if_told (Some a) P Q h f = f h

pub places_ran : {R P : Type 0} (offer_place reap_place : R → ℕ) (log : P → Option (List LogEvent)) (old new : P) (before after : R) (jobs : List Job) (offers : List Offer) (ms : List Move) (start : ℕ) (journal : List Event)
    → offers ≡ offers_from 0 jobs → PlacesGoOn offer_place reap_place before after (length offers) (length (posted ms)) → IsLogged (log old) ms (log new) → IfSome (log old) (λ l. start ≡ length l) → IfSome (log new) (λ l. journal ≡ map event_of (drop start l))
    → PlacesRanOn offer_place reap_place log old before after (length jobs) journal
places_ran offer_place reap_place log old new before after jobs offers ms start journal same places logs at told = (
  advances_by (offer_place before) (offer_place after) (length offers) (length jobs) (ap length same ∙ offers_count 0 jobs) places.0,
  if_told (log old) (journal ≡ journal_of (log_of ms)) (Advances (reap_place before) (count_posts journal) (reap_place after)) (journal_gain (log old) (log new) ms start journal logs at told)
      (λ e. advances_by (reap_place before) (reap_place after) (length (posted ms)) (count_posts journal) (sym (ap count_posts e ∙ posts_counted ms)) places.1),
)
