-- What a run tells whose sides know their own lists alone.
use Rattle.std.proofs.Common.{◌≡◌, ℕ, ◌+◌, ◌*◌, ◌≤◌, ◌⊎◌, inl, inr, Bool, true, false, List, [], ◌∷◌, ◌++◌, length, map, drop, Ok, Err, Option, Some, None, IfSome, refl, ap, sym, subst, ◌∙◌, arith, append_assoc, length-append}
use Rattle.std.specs.Bool.{OnTrue}
use Rattle.std.specs.List.{AllByRecursion}
use Rattle.std.proofs.lemmas.List.{length-map}
use Rattle.std.proofs.lemmas.List.Elements.{All-from_recursion}
use Rattle.uring_base.specs.declared.events.Taken.{Taken}
use Rattle.uring_base.specs.declared.events.Completion.{Completion}
use Rattle.uring_base.specs.declared.events.LogEvent.{LogEvent}
use Rattle.uring_model.specs.declared.jobs.Job.{Job}
use Rattle.uring_model.specs.declared.jobs.Report.{Report}
use Rattle.uring_model.specs.declared.jobs.RunFault.{RunFault}
use Rattle.uring_model.specs.declared.jobs.RunFault.TheVariants as faults
use Rattle.uring_model.specs.Jobs.{model_job, model_jobs}
use Rattle.uring_model.specs.Machine.{Files}
use Rattle.uring_model.specs.Moves.{Posted, posted, took, event_of, log_of}
use Rattle.uring_model.specs.Progress.{turns}
use Rattle.uring_model.specs.Asks.{IsJobEntry}
use Rattle.uring_model.specs.Honest.{HasOwnLoan}
use Rattle.uring_model.specs.Schedule as schedule
use Rattle.uring_model.specs.Refines.{IsPlainAndIdle, IsPlainState}
use Rattle.uring_model.specs.Strange.{nothing_seen, first_strange, is_answered, ended_in}
use Rattle.ring_traits.specs.Lists.{IsKept}
use Rattle.partner_serving.specs.Serving.{Serving, HasAnswers, EachWorks}
use Rattle.partner_serving.specs.TwoSides.{AreEntriesOf, TwoSides, TwoSidesAreOneRun, OneRun, started_all, AllAnswered}
use Rattle.run_loop.specs.declared.slot.Slot.TheVariants.{Done}
use Rattle.run_loop.specs.Entries.{AllValid, AllInRange, offers_from, entries_from, reply_in, lends_at}
use Rattle.run_loop.specs.Laws.{ModelLaws}
use Rattle.run_loop.specs.Rounds.{is_stall, is_stranger_fault}
use Rattle.run_loop.specs.Runs.{Ran}
use Rattle.run_loop.specs.SharedRuns.{IsHeard, IsHeardStrange, IsSharedFault, SharedSays}
use Rattle.run_loop.specs.Slots.{count_open, slots_from, stranger_among}
use Rattle.run_loop.proofs.Asks.{asks_all, six_all, numbered_all, own_all, replies_first}
use Rattle.run_loop.proofs.EntryLemmas.{offers_count}
use Rattle.run_loop.proofs.Posts.{slots_kept, stranger_kept}
use Rattle.run_loop.proofs.Quiets.{quiets_jobs, valid_linked, loud_last}
use Rattle.run_loop.proofs.Results.{outcomes_of_slots}
use Rattle.run_loop.proofs.Says.{from_idle, fault_explains, whole_explains, reported, journal_gain}
use Rattle.run_loop.proofs.UserLemmas.{entries-length, due_later, user_answered, strangers_told, all_posted}

-- What was reaped is what a ring keeps of the first of the posted completions.
record Kept (kept : Completion → Completion) (cs reaped : List Completion) : Type 0 where
  heard : List Completion
  unheard : List Completion
  posts : cs ≡ heard ++ unheard
  are : map kept heard ≡ reaped

heard_first : (kept : Completion → Completion) (cs reaped unreaped : List Completion) → map kept cs ≡ reaped ++ unreaped → Kept kept cs reaped
heard_first kept cs [] unreaped e = record { heard = []; unheard = cs; posts = refl; are = refl }
heard_first kept [] (r ∷ reaped) unreaped e = cc
heard_first kept (c ∷ cs) (r ∷ reaped) unreaped e =
    let one : kept c ≡ r = cc in
    let rest : map kept cs ≡ reaped ++ unreaped = cc in
    let q = heard_first kept cs reaped unreaped rest in
    record { heard = c ∷ q.heard; unheard = q.unheard; posts = ap (λ l. c ∷ l) q.posts; are = (λ i. one i ∷ q.are i) }

-- The entries of valid jobs ask what these ask.
entries_ask : (jobs : List Job) → AllValid jobs → AllInRange jobs → (large : Bool) → AreEntriesOf (lends_at jobs) (model_jobs jobs) (entries_from 0 jobs large)
entries_ask jobs valid range large = record {
  asks = asks_all 0 jobs valid range large;
  numbers = numbered_all 0 jobs large;
  operations = All-from_recursion IsJobEntry (entries_from 0 jobs large) (six_all 0 jobs valid range large);
  loans = All-from_recursion (HasOwnLoan (lends_at jobs)) (entries_from 0 jobs large) (own_all (reply_in (offers_from 0 jobs)) (lends_at jobs) (λ j. refl) 0 jobs (replies_first jobs) large);
  linked = valid_linked jobs valid;
}

all_first : {A : Type 0} (P : A → Type 0) (xs ys : List A) → AllByRecursion P (xs ++ ys) → AllByRecursion P xs
all_first P [] ys all = tt
all_first P (x ∷ xs) ys all = (all.0, all_first P xs ys all.1)

-- nothing is pending in an idle state
plain_idle : {W : Type 0} (Plain : W → Type 0) (a : schedule.State W) → IsPlainAndIdle Plain a → IsPlainState Plain IsJobEntry a
plain_idle Plain a rests = record { world = rests.plain; pending = subst (AllByRecursion (λ i. IsJobEntry i.taken)) (sym rests.pending) tt }

module _ {W : Type 0} (mach : schedule.Machine W) (view : W → Files) (Plain : W → Type 0) (laws : ModelLaws mach view Plain) (law : TwoSidesAreOneRun mach view Plain)
    {P : Type 0} (log : P → Option (List LogEvent)) (state : P → Option (schedule.State W)) (old new : P) (jobs : List Job) (valid : AllValid jobs) (range : AllInRange jobs)
    (large : Bool) (kept : Completion → Completion) (keeps : (c : Completion) → IsKept c (kept c)) (unbroken : Bool) (offered ts : List Taken) (cs reaped : List Completion)
    (s : Serving mach Plain unbroken (log old) (log new) (state old) (state new) ts cs) (sides : TwoSides kept (entries_from 0 jobs large) offered ts cs reaped) where
  -- what the partner did
  shared_ran : Ran mach log state old new (entries_from 0 jobs)
  shared_ran = record {
    moves = s.moves;
    large = large;
    ahead = sides.untaken ++ sides.todo;
    logs = s.logs;
    states = s.states;
    entries =
        sym (append_assoc (took s.moves) sides.untaken sides.todo)
        ∙ ap (λ l. (l ++ sides.untaken) ++ sides.todo) s.takes
        ∙ ap (λ l. l ++ sides.todo) (sym sides.takes)
        ∙ sym sides.offers;
    within = s.within;
  }

  one_run : (a b : schedule.State W) → state old ≡ Some a → state new ≡ Some b → IsPlainAndIdle Plain a → OneRun view Plain (lends_at jobs) (model_jobs jobs) kept (entries_from 0 jobs large) offered reaped unbroken a b s.moves
  one_run a b told told' rests = law (lends_at jobs) (model_jobs jobs) kept (entries_from 0 jobs large) offered ts cs reaped unbroken (log old) (log new) a b keeps (entries_ask jobs valid range large) sides rests
      (record {
        moves = s.moves;
        takes = s.takes;
        posts = s.posts;
        logs = s.logs;
        states = subst (λ o. schedule.IsServed mach (Some a) s.moves o) told' (subst (λ o. schedule.IsServed mach o s.moves (state new)) told s.states);
        within = s.within;
        works = subst (λ o. OnTrue unbroken (HasAnswers mach Plain o ts → EachWorks false s.moves)) told s.works;
      })

  -- where the stretch is unbroken, each turn of it works
  each_works : (a : schedule.State W) → state old ≡ Some a → IsPlainAndIdle Plain a → unbroken ≡ true → EachWorks false s.moves
  each_works a told rests whole =
      let works : HasAnswers mach Plain (state old) ts → EachWorks false s.moves = subst (λ b. OnTrue b (HasAnswers mach Plain (state old) ts → EachWorks false s.moves)) whole s.works in
      let all : AllByRecursion IsJobEntry ((ts ++ sides.untaken) ++ sides.todo) = subst (AllByRecursion IsJobEntry) (sides.offers ∙ ap (λ l. l ++ sides.todo) sides.takes) (six_all 0 jobs valid range large) in
      let taken = all_first IsJobEntry ts sides.untaken (all_first IsJobEntry (ts ++ sides.untaken) sides.todo all) in
      works (subst (λ o. HasAnswers mach Plain o ts) (sym told) (inr (plain_idle Plain a rests, taken)))

  the_heard : Kept kept cs reaped
  the_heard = heard_first kept cs reaped sides.unreaped sides.posts

  inside : length offered ≤ length (offers_from 0 jobs)
  inside = let n : length (entries_from 0 jobs large) ≡ length offered + length sides.todo = ap length sides.offers ∙ length-append offered sides.todo in omega (arith, n, entries-length (offers_from 0 jobs) large)

  -- a run that ended at a stranger
  module _ (u : ℕ) (strange : stranger_among (length offered) (slots_from 0 (offers_from 0 jobs) []) reaped ≡ Some u) where
    heard_strange : IsHeardStrange jobs s.moves u
    heard_strange = record {
      heard = the_heard.heard;
      unheard = the_heard.unheard;
      posts = s.posts ∙ the_heard.posts;
      offered = length offered;
      inside = omega (arith, inside, offers_count 0 jobs);
      strange =
          strangers_told (offers_from 0 jobs) 0 (length offered) the_heard.heard (loud_last 0 jobs valid) inside
          ∙ sym (stranger_kept kept keeps (length offered) (slots_from 0 (offers_from 0 jobs) []) the_heard.heard)
          ∙ ap (stranger_among (length offered) (slots_from 0 (offers_from 0 jobs) [])) the_heard.are
          ∙ strange;
    }

    none_strange : (a b : schedule.State W) → state old ≡ Some a → state new ≡ Some b → IsPlainAndIdle Plain a → ⊥
    none_strange a b told told' rests =
        let due = ap (λ qs. first_strange (lends_at jobs) qs (started_all (length offered)) (log_of (map Posted reaped))) (quiets_jobs 0 jobs) ∙ (one_run a b told told' rests).expected in
        let bad : None ≡ Some u = sym due ∙ strangers_told (offers_from 0 jobs) 0 (length offered) reaped (loud_last 0 jobs valid) inside ∙ strange in
        cc

    pub says_stranger : SharedSays mach view Plain log state old new jobs (Err (faults.Stranger u))
    unfolding shared_ran
    says_stranger = record {
      ran = shared_ran;
      report = tt;
      journal = tt;
      fault = heard_strange;
      memory = λ a told rests. let f = from_idle mach view Plain laws log state old new jobs shared_ran valid range a told rests in absurd (none_strange a f.0 told f.1 rests);
    }

  -- one that ended for want of memory, or by the partner's fault
  pub says_other : (e : RunFault) → (e ≡ faults.NoMemory) ⊎ (e ≡ faults.PartnerFault) → SharedSays mach view Plain log state old new jobs (Err e)
  unfolding shared_ran
  says_other e why = record {
    ran = shared_ran;
    report = tt;
    journal = tt;
    fault = elim why [ inl x ↦ subst (IsSharedFault jobs s.moves) (sym x) tt | inr x ↦ subst (IsSharedFault jobs s.moves) (sym x) tt ];
    memory = λ a told rests.
        let f = from_idle mach view Plain laws log state old new jobs shared_ran valid range a told rests in
        let not_strange : is_stranger_fault e ≡ false = elim why [ inl x ↦ ap is_stranger_fault x | inr x ↦ ap is_stranger_fault x ] in
        let not_stalled : is_stall e ≡ false = elim why [ inl x ↦ ap is_stall x | inr x ↦ ap is_stall x ] in
        (f.0, f.1, fault_explains view Plain (2 * length (model_jobs jobs)) jobs a f.0 s.moves e f.2 not_strange not_stalled, tt, tt);
  }

  -- one in which each job has its outcome
  module _ (report : Report) (start : ℕ) (whole : unbroken ≡ true) (due : stranger_among (length offered) (slots_from 0 (offers_from 0 jobs) []) reaped ≡ None)
      (none : count_open (slots_from 0 (offers_from 0 jobs) reaped) ≡ 0) (outcomes : map (λ o. Done o) report.outcomes.items ≡ slots_from 0 (offers_from 0 jobs) reaped)
      (at : IfSome (log old) (λ l. start ≡ length l)) (journal : IfSome (log new) (λ l. report.journal.items ≡ map event_of (drop start l))) where
    by_heard : slots_from 0 (offers_from 0 jobs) reaped ≡ slots_from 0 (offers_from 0 jobs) the_heard.heard
    by_heard = ap (slots_from 0 (offers_from 0 jobs)) (sym the_heard.are) ∙ slots_kept kept keeps 0 (offers_from 0 jobs) the_heard.heard

    heard_answers : IsHeard jobs s.moves report.outcomes.items
    heard_answers =
        let few : length offered ≤ length jobs = omega (arith, inside, offers_count 0 jobs) in
        let later = due_later (length offered) (length jobs) (slots_from 0 (offers_from 0 jobs) []) reaped few due in
        record {
          heard = the_heard.heard;
          unheard = the_heard.unheard;
          posts = s.posts ∙ the_heard.posts;
          expected =
              strangers_told (offers_from 0 jobs) 0 (length jobs) the_heard.heard (loud_last 0 jobs valid) (omega (arith, offers_count 0 jobs))
              ∙ sym (stranger_kept kept keeps (length jobs) (slots_from 0 (offers_from 0 jobs) []) the_heard.heard)
              ∙ ap (stranger_among (length jobs) (slots_from 0 (offers_from 0 jobs) [])) the_heard.are
              ∙ later;
          answered = λ j lt. user_answered (offers_from 0 jobs) the_heard.heard (loud_last 0 jobs valid) (ap count_open (sym by_heard) ∙ none) j (omega (arith, lt, offers_count 0 jobs));
          outcomes = outcomes_of_slots jobs (map Posted the_heard.heard) report.outcomes.items (outcomes ∙ by_heard ∙ ap (slots_from 0 (offers_from 0 jobs)) (sym (all_posted the_heard.heard)));
        }

    all_answered : AllAnswered (model_jobs jobs) reaped
    all_answered = λ j lt.
        ap (λ qs. is_answered qs (ended_in (log_of (map Posted reaped))) j) (sym (quiets_jobs 0 jobs))
        ∙ user_answered (offers_from 0 jobs) reaped (loud_last 0 jobs valid) none j (omega (arith, lt, offers_count 0 jobs, length-map jobs model_job))

    pub says_report : SharedSays mach view Plain log state old new jobs (Ok report)
    unfolding shared_ran
    says_report = record {
      ran = shared_ran;
      report = heard_answers;
      journal = journal_gain (log old) (log new) s.moves start report.journal.items s.logs at journal;
      fault = tt;
      memory = λ a told rests.
          let f = from_idle mach view Plain laws log state old new jobs shared_ran valid range a told rests in
          let one = one_run a f.0 told f.1 rests in
          let all = (one.done all_answered).1.reaped_all in
          let by_posts : slots_from 0 (offers_from 0 jobs) reaped ≡ slots_from 0 (offers_from 0 jobs) (posted s.moves) = ap (slots_from 0 (offers_from 0 jobs)) (sym all) ∙ slots_kept kept keeps 0 (offers_from 0 jobs) (posted s.moves) in
          let honest = ap (λ qs. first_strange (lends_at jobs) qs nothing_seen (log_of s.moves)) (quiets_jobs 0 jobs) ∙ one.honest in
          let told_report = reported mach log state old new jobs report start valid shared_ran honest (ap count_open (sym by_posts) ∙ none) (outcomes ∙ by_posts) at journal in
          let few : turns s.moves ≤ 2 * length (model_jobs jobs) = subst (λ b. OnTrue b (turns s.moves ≤ 2 * length (model_jobs jobs))) whole one.few in
          (f.0, f.1, whole_explains mach view Plain laws (2 * length (model_jobs jobs)) jobs a f.0 s.moves report valid f.2 f.3 (ap count_open (sym by_posts) ∙ none) told_report.answered.outcomes few, told_report, each_works a told rests whole);
    }
