-- What two sides that met tell of their run.
use Rattle.std.proofs.Common.{◌≡◌, ℕ, ◌+◌, ◌*◌, ◌<◌, ◌≤◌, suc, Bool, true, false, nat_lt, List, [], ◌∷◌, ◌++◌, length, map, inr, Some, None, All, refl, ap, sym, subst, ◌∙◌, append_assoc, append-nil, arith, length-append}
use Rattle.std.specs.Bool.{OnTrue}
use Rattle.std.specs.List.{AllByRecursion}
use Rattle.std.proofs.lemmas.List.{length-map}
use Rattle.std.proofs.lemmas.List.Elements.{All-from_recursion, recursion_from_All}
use Rattle.std.proofs.lemmas.Bool.Decides.{nat_tests}
use Rattle.uring_base.specs.declared.events.Taken.{Taken}
use Rattle.uring_base.specs.declared.events.Completion.{Completion}
use Rattle.uring_model.specs.Machine.{Files}
use Rattle.uring_model.specs.Jobs.{Job, quiets_are_linked, quiets_of}
use Rattle.uring_model.specs.Replay.{last_unlinked, first_state, IsWhole}
use Rattle.uring_model.specs.Moves.{Move, Posted, took, posted, log_of}
use Rattle.uring_model.specs.Asks.{job_of, IsJobEntry}
use Rattle.uring_model.specs.Schedule.{Machine, State}
use Rattle.uring_model.specs.Schedule as schedule
use Rattle.uring_model.specs.Partner.{PartnerState, Steps, IsIdle, idle}
use Rattle.uring_model.specs.Progress.{turns}
use Rattle.uring_model.specs.Refines.{IsPlainAndIdle, IsPlainState, WorldLaws, viewed}
use Rattle.uring_model.specs.Explained.{Numbered, Explained, IdleCallsAreMoves, IdlePartnersAreExplained}
use Rattle.uring_model.specs.Honest.{TakesWithinTurns, HasOwnLoan, NoPostIsStrange, PostsAnswer}
use Rattle.uring_model.specs.Strange.{nothing_seen, all_seen, first_strange, ended_in, is_answered}
use Rattle.uring_model.specs.Ends.{IdleWhereWhole, AnsweredAtEnd, WholeWhereAnswered}
use Rattle.ring_traits.specs.Lists.{IsKept}
use Rattle.partner_serving.specs.Serving.{EachWorks, HasAnswers}
use Rattle.partner_serving.specs.TwoSides.{AreEntriesOf, started_all, AllAnswered, TwoSidesAreOneRun}
use Rattle.partner_serving.proofs.Servings.{front_of, back_of, working_turns}
use Rattle.partner_serving.proofs.Posts.{kept_log, posts_log-append, ended_posts, answered-append, strange_parts, unanswered_before, IsBelow, posts_expected, numbered_front, all_below}
use Rattle.partner_serving.proofs.Rests.{rest_left}

-- the laws that this stands on, as their crates state them
pub record RunLaws {W : Type 0} (m : Machine W) (view : W → Files) (Plain : W → Type 0) : Type 0 where
  pub idle_moves : IdleCallsAreMoves
  pub explained : IdlePartnersAreExplained
  pub honest : NoPostIsStrange
  pub answers : PostsAnswer
  pub idle : IdleWhereWhole
  pub answered : AnsweredAtEnd
  pub heard : WholeWhereAnswered
  pub world : WorldLaws m view Plain

-- lists

none_of : {A : Type 0} (xs : List A) → length xs ≡ 0 → xs ≡ []
none_of [] h = refl
none_of (x ∷ xs) h = absurd (omega arith)

append-none : {A : Type 0} (xs ys : List A) → ys ≡ [] → xs ++ ys ≡ xs
append-none xs ys e = ap (λ l. xs ++ l) e ∙ append-nil xs

both_none : {A : Type 0} (xs ys : List A) → xs ++ ys ≡ [] → (xs ≡ []) × (ys ≡ [])
both_none [] ys e = (refl, e)
both_none (x ∷ xs) ys e = cc

unlinked-length : (jobs : List Job) → length (last_unlinked jobs) ≡ length jobs
unlinked-length [] = refl
unlinked-length (job ∷ []) = refl
unlinked-length (job ∷ next ∷ jobs) = ap suc (unlinked-length (next ∷ jobs))

-- What the partner did, as moves of a partner over files that began idle. `ahead` is what it hasn't taken.
pub record FileRun (lends : ℕ → Bool) (jobs : List Job) (files : Files) (choices : List ℕ) (ms : List Move) (ahead : List Taken) (b : PartnerState) : Type 0 where
  pub steps : Steps false (idle files choices) ms b
  pub asks : map job_of (took ms ++ ahead) ≡ last_unlinked jobs
  pub numbers : Numbered 0 (took ms ++ ahead)
  pub linked : quiets_are_linked jobs ≡ true
  pub honest : first_strange lends (quiets_of jobs) nothing_seen (log_of ms) ≡ None
  pub explained : Explained jobs files choices ms b

-- the posts are of jobs that were taken

posts_below : (lends : ℕ → Bool) (jobs : List Job) (files : Files) (choices : List ℕ) (ms : List Move) (ahead : List Taken) (b : PartnerState) (n : ℕ)
    → PostsAnswer → FileRun lends jobs files choices ms ahead b → length (took ms) ≤ n → AllByRecursion (IsBelow n) (posted ms)
posts_below lends jobs files choices ms ahead b n answers run fits =
    let taken : All (λ t. nat_lt t.entry.user_data n ≡ true) (took ms) = All-from_recursion (λ t. nat_lt t.entry.user_data n ≡ true) (took ms) (all_below 0 n (took ms) (numbered_front 0 (took ms) ahead run.numbers) (omega (arith, fits))) in
    recursion_from_All (IsBelow n) (posted ms) (answers (λ t. nat_lt t.entry.user_data n) (λ c. nat_lt c.user_data n) files choices ms b (λ now c asked loud. asked) run.steps taken)

kept_below : (kept : Completion → Completion) → ((c : Completion) → IsKept c (kept c)) → (n : ℕ) (cs : List Completion) → AllByRecursion (IsBelow n) cs → AllByRecursion (IsBelow n) (map kept cs)
kept_below kept keeps n [] h = tt
kept_below kept keeps n (c ∷ cs) h = (ap (λ x. nat_lt x.user_data n) (keeps c) ∙ h.0, kept_below kept keeps n cs h.1)

-- as many entries as jobs
count_entries : (jobs : List Job) (ts ahead : List Taken) → map job_of (ts ++ ahead) ≡ last_unlinked jobs → length ts + length ahead ≡ length jobs
count_entries jobs ts ahead asks = sym (length-append ts ahead) ∙ sym (length-map (ts ++ ahead) job_of) ∙ ap length asks ∙ unlinked-length jobs

-- where the replay is whole, all was taken
nothing_ahead : (lends : ℕ → Bool) (jobs : List Job) (files : Files) (choices : List ℕ) (ms : List Move) (ahead : List Taken) (b : PartnerState) (run : FileRun lends jobs files choices ms ahead b)
    → IsWhole run.explained.state → ahead ≡ []
nothing_ahead lends jobs files choices ms ahead b run whole =
    let left = rest_left ms (first_state jobs files) run.explained.state run.explained.replays in
    none_of ahead (omega (arith, left, ap length whole.taken, unlinked-length jobs, count_entries jobs (took ms) ahead run.asks))

-- where each job is answered by what was reaped, no other completion is to come

posted_all : (cs : List Completion) → posted (map Posted cs) ≡ cs
posted_all [] = refl
posted_all (c ∷ cs) = ap (λ l. c ∷ l) (posted_all cs)

nothing_unreaped : (lends : ℕ → Bool) (jobs : List Job) (n : ℕ) (reaped unreaped : List Completion) → first_strange lends (quiets_of jobs) (started_all n) (log_of (map Posted (reaped ++ unreaped))) ≡ None
    → AllByRecursion (IsBelow (length jobs)) unreaped → AllAnswered jobs reaped → unreaped ≡ []
nothing_unreaped lends jobs n reaped [] fine below answered = refl
nothing_unreaped lends jobs n reaped (c ∷ cs) fine below answered =
    let parts = strange_parts lends (quiets_of jobs) (started_all n) (log_of (map Posted reaped)) (log_of (map Posted (c ∷ cs))) (subst (λ l. first_strange lends (quiets_of jobs) (started_all n) l ≡ None) (posts_log-append reaped (c ∷ cs)) fine) in
    let open_still = unanswered_before lends (quiets_of jobs) (all_seen (started_all n) (log_of (map Posted reaped))) c (log_of (map Posted cs)) parts.1 in
    let same : ended_in (log_of (map Posted reaped)) ≡ (all_seen (started_all n) (log_of (map Posted reaped))).ended =
    ended_posts nothing_seen (started_all n) (map Posted reaped) refl ∙ ap (λ l. (all_seen (started_all n) (log_of (map Posted l))).ended) (posted_all reaped) in
    let inside : c.user_data < length jobs = (let here = below.0 in grind (arith, nat_tests)) in
    let bad : true ≡ false = sym (answered c.user_data inside) ∙ ap (λ l. is_answered (quiets_of jobs) l c.user_data) same ∙ open_still in
    cc

-- the turns of an unbroken run

few_turns : {W : Type 0} (m : Machine W) (view : W → Files) (Plain : W → Type 0) (unbroken : Bool) (a b : State W) (ms : List Move) (ts : List Taken) (n : ℕ) → WorldLaws m view Plain → a.pending ≡ [] → schedule.Steps m true a ms b → length (took ms) ≤ n
    → HasAnswers m Plain (Some a) ts → OnTrue unbroken (HasAnswers m Plain (Some a) ts → EachWorks false ms) → OnTrue unbroken (turns ms ≤ 2 * n)
few_turns m view Plain false a b ms ts n world none steps fits has works = tt
few_turns m view Plain true a b ms ts n world none steps fits has works = omega (arith, working_turns m view Plain world true a b ms steps (works has), ap length none, fits)

-- the law

-- the world is plain, and nothing is pending
plain_at : {W : Type 0} (Plain : W → Type 0) (a : State W) → IsPlainAndIdle Plain a → IsPlainState Plain IsJobEntry a
plain_at Plain a rests = record { world = rests.plain; pending = subst (AllByRecursion (λ i. IsJobEntry i.taken)) (sym rests.pending) tt }

-- the first of the entries ask what jobs ask
job_entries : (lends : ℕ → Bool) (jobs : List Job) (entries ts ahead : List Taken) → AreEntriesOf lends jobs entries → ts ++ ahead ≡ entries → AllByRecursion IsJobEntry ts
job_entries lends jobs entries ts ahead ask whole = front_of IsJobEntry ts ahead (subst (AllByRecursion IsJobEntry) (sym whole) (recursion_from_All IsJobEntry entries ask.operations))

-- What the moves that take the first of these entries are to the files that are seen. The world stays plain.
file_run : {W : Type 0} (m : Machine W) (view : W → Files) (Plain : W → Type 0) → RunLaws m view Plain → (lends : ℕ → Bool) (jobs : List Job) (entries : List Taken) (ms : List Move) (ahead : List Taken) (a b : State W)
    → AreEntriesOf lends jobs entries → took ms ++ ahead ≡ entries → IsPlainAndIdle Plain a → schedule.Steps m true a ms b → TakesWithinTurns 0 ms
    → FileRun lends jobs (view a.world) a.choices ms ahead (viewed view b) × Plain b.world
file_run m view Plain laws lends jobs entries ms ahead a b ask whole rests steps within =
    let six = job_entries lends jobs entries (took ms) ahead ask whole in
    let owns = front_of (HasOwnLoan lends) (took ms) ahead (subst (AllByRecursion (HasOwnLoan lends)) (sym whole) (recursion_from_All (HasOwnLoan lends) entries ask.loans)) in
    let seen = laws.world.steps_seen true a b ms (plain_at Plain a rests) six steps in
    let idle_a : IsIdle (viewed view a) = record { pending = rests.pending; tail = rests.tail } in
    let asks : map job_of (took ms ++ ahead) ≡ last_unlinked jobs = ap (map job_of) whole ∙ ask.asks in
    let numbers : Numbered 0 (took ms ++ ahead) = subst (Numbered 0) (sym whole) ask.numbers in
    let moves = laws.idle_moves (viewed view a) (viewed view b) ms idle_a seen.0 in (
      record {
        steps = moves;
        asks = asks;
        numbers = numbers;
        linked = ask.linked;
        honest = laws.honest lends jobs (view a.world) a.choices ms ahead (viewed view b) ask.linked asks numbers moves (All-from_recursion (HasOwnLoan lends) (took ms) owns) within;
        explained = laws.explained jobs ms ahead (viewed view a) (viewed view b) idle_a asks numbers seen.0;
      },
      seen.1.world,
    )

pub one_run : {W : Type 0} (m : Machine W) (view : W → Files) (Plain : W → Type 0) → RunLaws m view Plain → TwoSidesAreOneRun m view Plain
one_run m view Plain laws lends jobs kept entries offered ts cs reaped unbroken log log' a b keeps ask sides rests s =
    let ms = s.moves in
    let ahead = sides.untaken ++ sides.todo in
    let whole : took s.moves ++ (sides.untaken ++ sides.todo) ≡ entries =
    ap (λ l. l ++ (sides.untaken ++ sides.todo)) s.takes ∙ sym (append_assoc ts sides.untaken sides.todo) ∙ ap (λ l. l ++ sides.todo) (sym sides.takes) ∙ sym sides.offers in
    let files = file_run m view Plain laws lends jobs entries ms ahead a b ask whole rests s.states s.within in
    let run = files.0 in
    let count = count_entries jobs (took ms) ahead run.asks in
    let fits : length (took s.moves) ≤ length offered = omega (arith, ap length s.takes, ap length sides.takes, length-append ts sides.untaken) in
    let posts : map kept (posted s.moves) ≡ reaped ++ sides.unreaped = ap (map kept) s.posts ∙ sides.posts in
    let same_log : log_of (map Posted (posted s.moves)) ≡ log_of (map Posted (reaped ++ sides.unreaped)) = sym (kept_log kept keeps (posted ms)) ∙ ap (λ l. log_of (map Posted l)) posts in
    let fine : first_strange lends (quiets_of jobs) (started_all (length offered)) (log_of (map Posted (reaped ++ sides.unreaped))) ≡ None =
    sym (ap (first_strange lends (quiets_of jobs) (started_all (length offered))) same_log)
    ∙ posts_expected lends (quiets_of jobs) (length offered) nothing_seen ms run.honest (posts_below lends jobs (view a.world) a.choices ms ahead (viewed view b) (length offered) laws.answers run fits) in
    let ended : ended_in (log_of s.moves) ≡ ended_in (log_of (map Posted (posted s.moves))) = ended_posts nothing_seen nothing_seen ms refl in
    record {
      explained = run.explained;
      honest = run.honest;
      expected = (strange_parts lends (quiets_of jobs) (started_all (length offered)) (log_of (map Posted reaped)) (log_of (map Posted sides.unreaped)) (subst (λ l. first_strange lends (quiets_of jobs) (started_all (length offered)) l ≡ None) (posts_log-append reaped sides.unreaped) fine)).0;
      done = λ answered.
          let joined : ended_in (log_of s.moves) ≡ ended_in (log_of (map Posted reaped) ++ log_of (map Posted sides.unreaped)) = ended ∙ ap ended_in (same_log ∙ posts_log-append reaped sides.unreaped) in
          let heard : (j : ℕ) → j < length jobs → is_answered (quiets_of jobs) (ended_in (log_of s.moves)) j ≡ true =
          λ j lt. ap (λ l. is_answered (quiets_of jobs) l j) joined ∙ answered-append (quiets_of jobs) (log_of (map Posted reaped)) (log_of (map Posted sides.unreaped)) j (answered j lt) in
          let w = laws.heard jobs (view a.world) a.choices ms ahead (viewed view b) run.explained.state ask.linked run.asks run.numbers run.steps run.explained.replays heard in
          let none = nothing_ahead lends jobs (view a.world) a.choices ms ahead (viewed view b) run w in
          let no_more = both_none sides.untaken sides.todo none in
          let below = back_of (IsBelow (length jobs)) reaped sides.unreaped (subst (AllByRecursion (IsBelow (length jobs))) posts (kept_below kept keeps (length jobs) (posted ms) (posts_below lends jobs (view a.world) a.choices ms ahead (viewed view b) (length jobs) laws.answers run (omega (arith, count))))) in
          let all = nothing_unreaped lends jobs (length offered) reaped sides.unreaped fine below answered in
          let ends = laws.idle jobs (view a.world) a.choices ms ahead (viewed view b) run.explained.state run.asks run.numbers run.steps run.explained.replays w in (
            w,
            record {
              offered_all = sym (append-none offered sides.todo no_more.1) ∙ sym sides.offers;
              taken_all = sym (append-none (took ms) ahead none) ∙ whole;
              reaped_all = posts ∙ append-none reaped sides.unreaped all;
              idle = record { pending = ends.pending; tail = ends.tail; plain = files.1 };
            },
          );
      answered = λ d j lt.
          let at_end = laws.answered jobs (view a.world) a.choices ms (viewed view b) ask.linked (ap (map job_of) d.taken_all ∙ ask.asks) (subst (Numbered 0) (sym d.taken_all) ask.numbers) run.steps d.idle.pending j lt in
          let same : ended_in (log_of (map Posted reaped)) ≡ ended_in (log_of s.moves) = ap (λ l. ended_in (log_of (map Posted l))) (sym d.reaped_all) ∙ ap ended_in (kept_log kept keeps (posted ms)) ∙ sym ended in
          ap (λ l. is_answered (quiets_of jobs) l j) same ∙ at_end;
      few = few_turns m view Plain unbroken a b ms ts (length jobs) laws.world rests.pending s.states (omega (arith, count)) (inr (plain_at Plain a rests, subst (AllByRecursion IsJobEntry) s.takes (job_entries lends jobs entries (took ms) ahead ask whole))) s.works;
    }
