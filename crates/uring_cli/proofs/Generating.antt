-- A run of the generator's jobs over a new partner: its journal has them in groups, and its summary is theirs.
use Rattle.std.proofs.Common.{◌≡◌, ℕ, ◌+◌, ◌<◌, ◌≤◌, suc, Bool, true, false, cond, List, [], ◌∷◌, ◌++◌, length, map, replicate, Option, Some, None, Ok, Err, IfSome, refl, ap, sym, subst, ◌∙◌, arith, append-nil}
use Rattle.std.specs.Prelude.{codes}
use Rattle.std.specs.List.{AllByRecursion}
use Rattle.std.proofs.lemmas.List.{length-map}
use Rattle.uring_base.specs.declared.events.LogEvent.{LogEvent}
use Rattle.uring_base.specs.declared.events.Taken.{Taken}
use Rattle.uring_model.specs.declared.jobs.Job as code
use Rattle.uring_model.specs.declared.jobs.Outcome.{Outcome}
use Rattle.uring_model.specs.declared.jobs.Report.{Report}
use Rattle.uring_model.specs.declared.jobs.RunFault.{RunFault}
use Rattle.uring_model.specs.declared.jobs.RunFault.TheVariants.{BadSize, BadJob, Stranger, Stalled, PartnerFault, NoMemory}
use Rattle.uring_model.specs.Jobs.{Job, model_job, model_jobs, is_success, is_valid_job}
use Rattle.uring_model.specs.Moves.{Move, Took, journal_of, log_of}
use Rattle.file_tree.specs.Worlds.{AnyWorld, files_of}
use Rattle.uring_partner.specs.Served.{PartnerState, world_machine, idle, turn}
use Rattle.uring_model.specs.Progress.{EachSettles, moves_of_turn}
use Rattle.uring_model.specs.Refines.{IsPlainAndIdle}
use Rattle.uring_model.specs.Replay.{Row, Open, Done, ReplayState, replay, all_done, IsBusy, IsWhole, first_state, outcomes, table}
use Rattle.uring_model.specs.Chosen.{IsChosen}
use Rattle.uring_model.specs.Rows.{outcome_told}
use Rattle.uring_model.specs.Schedule.{EntryEnd, ByPost, Quietly, ended}
use Rattle.run_loop.specs.Entries.{first_bad}
use Rattle.run_loop.specs.Memory.{replayed_outcomes}
use Rattle.run_loop.specs.Rounds.{is_partner_fault}
use Rattle.run_loop.specs.Runs.{RunSays, IsValidRun}
use Rattle.run_loop.specs.Turns.{RanInTurns, turn_moves}
use Rattle.uring_partner.specs.declared.memory.MemoryPartner.{MemoryPartner}
use Rattle.uring_partner.specs.Told.{state_of, told_state, told_log}
use Rattle.uring_text.specs.Status.{status_of}
use Rattle.uring_text.specs.declared.status.Status.TheVariants as ends
use Rattle.job_generator.specs.Generator.{generated}
use Rattle.job_generator.specs.Journal.{empty_files, bytes_in, line, negatives, turns_in}
use Rattle.job_generator.specs.Laws.{Round, IsGroup, GroupsInOrder, JobsAreValid, moves_in, journal_in}
use Rattle.job_generator.proofs.Settled.{turn_settles_all}
use Rattle.uring_cli.specs.Generated.{RanGenerated, seeded_world, negative_outcomes, summary_told}

-- the jobs

none_bad : (n : ℕ) (jobs : List code.Job) → AllByRecursion (λ job. ((is_last : Bool) → is_valid_job is_last (model_job job) ≡ true) × (job.quiet ≡ false)) jobs → first_bad n jobs ≡ None
none_bad n [] h = refl
none_bad n (job ∷ jobs) h = rw (h.0.0 _) (none_bad (n + 1) jobs h.1)

none_quiet : (jobs : List code.Job) → AllByRecursion (λ job. ((is_last : Bool) → is_valid_job is_last (model_job job) ≡ true) × (job.quiet ≡ false)) jobs → AllByRecursion (λ job. job.quiet ≡ false) (model_jobs jobs)
none_quiet [] h = tt
none_quiet (job ∷ jobs) h = (h.0.1, none_quiet jobs h.1)

pub valid_run : JobsAreValid → (count : ℕ) (jobs : List code.Job) → jobs ≡ generated count → IsValidRun 64 128 jobs
valid_run valid count jobs e = record { size = refl; jobs_valid = ap (first_bad 0) e ∙ none_bad 0 (generated count) (valid count).0 }

-- the faults

pub lacking : (fault : RunFault) (given after : MemoryPartner) (jobs : List code.Job) (capacity idle : ℕ) → IsPlainAndIdle AnyWorld (state_of given) → RunSays world_machine files_of AnyWorld told_log told_state given after jobs capacity idle (Err fault) → is_partner_fault fault ≡ false → status_of fault ≡ ends.NoMemory
lacking BadSize given after jobs capacity idle rests says none = absurd says.fault
lacking (BadJob n) given after jobs capacity idle rests says none = absurd says.fault
lacking (Stranger u) given after jobs capacity idle rests says none = let x = (says.memory (state_of given) refl rests).2.fault.0 in absurd cc
lacking Stalled given after jobs capacity idle rests says none = let x = (says.memory (state_of given) refl rests).2.fault.1 in absurd cc
lacking PartnerFault given after jobs capacity idle rests says none = absurd cc
lacking NoMemory given after jobs capacity idle rests says none = refl

-- the turns

rounds_of : ℕ → PartnerState → List (List Taken) → List Round
rounds_of room a [] = []
rounds_of room a (ts ∷ tss) = record { taken = ts; ends = (turn ts room a).ends } ∷ rounds_of room (turn ts room a).state tss

same_moves : (room : ℕ) (a : PartnerState) (tss : List (List Taken)) → moves_in (rounds_of room a tss) ≡ turn_moves world_machine room a tss
unfolding rounds_of
same_moves room a [] = refl
same_moves room a (ts ∷ tss) = ap (λ l. moves_of_turn (length ts) ts (turn ts room a).ends ++ l) (same_moves room (turn ts room a).state tss)

past_takes : (owed : Bool) (ts : List Taken) (ms : List Move) → EachSettles owed (map Took ts ++ ms) → EachSettles owed ms
past_takes owed [] ms h = h
past_takes owed (t ∷ ts) ms h = past_takes owed ts ms h

past_ends : (es : List EntryEnd) (ms : List Move) → EachSettles false (map ended es ++ ms) → EachSettles false ms
past_ends [] ms h = h
past_ends (ByPost c ∷ es) ms h = past_ends es ms h
past_ends (Quietly n ∷ es) ms h = past_ends es ms h

none_owed : (room : ℕ) (a : PartnerState) (tss : List (List Taken)) → EachSettles true (turn_moves world_machine room a tss) → ⊥
none_owed room a [] h = cc
none_owed room a (ts ∷ tss) h = let x = h.0 in cc

some_ends : (room : ℕ) (a : PartnerState) (tss : List (List Taken)) (es : List EntryEnd) → EachSettles true (map ended es ++ turn_moves world_machine room a tss) → (0 < length es) × EachSettles false (turn_moves world_machine room a tss)
some_ends room a tss [] h = absurd (none_owed room a tss h)
some_ends room a tss (ByPost c ∷ es) h = (omega arith, past_ends es (turn_moves world_machine room a tss) h)
some_ends room a tss (Quietly n ∷ es) h = (omega arith, past_ends es (turn_moves world_machine room a tss) h)

append_thrice : (xs ys zs : List Move) → (xs ++ ys) ++ zs ≡ xs ++ (ys ++ zs)
append_thrice [] ys zs = refl
append_thrice (x ∷ xs) ys zs = ap (λ l. x ∷ l) (append_thrice xs ys zs)

all_groups : (a : PartnerState) (tss : List (List Taken)) → a.pending ≡ [] → a.choices ≡ [] → AllByRecursion (λ ts. length ts ≤ 64) tss → EachSettles false (turn_moves world_machine 128 a tss) → AllByRecursion IsGroup (rounds_of 128 a tss)
unfolding rounds_of
all_groups a [] rests none fits settles = tt
all_groups a (ts ∷ tss) rests none fits settles =
    let es = (turn ts 128 a).ends in
    let b = (turn ts 128 a).state in
    let all = turn_settles_all world_machine (λ w t. refl) 128 ts a rests none (omega (arith, fits.0)) in
    let behind : EachSettles true (map ended es ++ turn_moves world_machine 128 b tss) = past_takes true ts (map ended es ++ turn_moves world_machine 128 b tss) (subst (EachSettles true) (append_thrice (map Took ts) (map ended es) (turn_moves world_machine 128 b tss)) settles.1) in
    let some = some_ends 128 b tss es behind in
    (record { some = (let n = all.ends in let m = some.0 in omega (arith, n, m)); fits = fits.0; all = all.ends }, all_groups b tss all.pending all.choices fits.1 some.1)

-- the outcomes

some_is : {A : Type 0} (a b : A) → ◌≡◌ {A = Option A} (Some a) (Some b) → a ≡ b
some_is a b e = cc

same_negatives : (jobs : List Job) (rows : List Row) (answers : List Outcome) → length rows ≤ length jobs → all_done rows ≡ true → map (λ o. Some o) answers ≡ replayed_outcomes jobs (outcomes rows) → negative_outcomes answers ≡ negatives rows
same_negatives jobs [] [] few done e = refl
same_negatives [] [] (o ∷ answers) few done e = absurd (cc)
same_negatives (job ∷ jobs) [] (o ∷ answers) few done e = absurd (cc)
same_negatives jobs (Open k m ∷ rows) answers few done e = absurd (cc)
same_negatives [] (Done k r ∷ rows) answers few done e = absurd (omega arith)
same_negatives (job ∷ jobs) (Done k r ∷ rows) [] few done e = absurd (cc)
same_negatives (job ∷ jobs) (Done k r ∷ rows) (o ∷ answers) few done e =
    let first : ◌≡◌ {A = Option Outcome} (Some o) (Some (outcome_told job r)) = cc in
    let rest : map (λ o. Some o) answers ≡ replayed_outcomes jobs (outcomes rows) = cc in
    let result : o.result ≡ r.result = ap (λ x. x.result) (some_is o (outcome_told job r) first) in
    let more = same_negatives jobs rows answers (omega arith) done rest in
    (λ i. cond (is_success (result i)) (more i) (suc (more i)))

whole_table : (s : ReplayState) → IsWhole s → table s ≡ outcomes s.rows
whole_table s whole = ap (λ l. outcomes s.rows ++ replicate (length l) None) whole.taken ∙ append-nil (outcomes s.rows)

-- the run

same_log : (o p q : Option (List LogEvent)) (xs ys : List LogEvent) → o ≡ Some [] → IfSome o (λ l. p ≡ Some (l ++ xs)) → q ≡ p → IfSome o (λ l. q ≡ Some (l ++ ys)) → xs ≡ ys
same_log None p q xs ys e a b c = absurd (cc)
same_log (Some l) p q xs ys e a b c =
    let nil : l ≡ [] = some_is l [] e in
    some_is xs ys (ap (λ x. Some (x ++ xs)) (sym nil) ∙ sym a ∙ sym b ∙ c ∙ ap (λ x. Some (x ++ ys)) nil)

-- what the summary's text is compared with
pub ran : GroupsInOrder → JobsAreValid → (count : ℕ) (jobs : List code.Job) (given after : MemoryPartner) (report : Report) (text : List ℕ)
    → jobs ≡ generated count → state_of given ≡ idle seeded_world [] → given.log.items ≡ []
    → RanInTurns world_machine AnyWorld told_log 64 128 (state_of given) given after
    → RunSays world_machine files_of AnyWorld told_log told_state given after jobs 64 16 (Ok report)
    → text ≡ summary_told count report (bytes_in (state_of after).world.files)
    → RanGenerated (λ bytes. text ≡ bytes) count after
ran order valid count jobs given after report text made state fresh turned says told =
    let a = state_of given in
    let rests : IsPlainAndIdle AnyWorld a = record { pending = ap (λ x. x.pending) state; tail = ap (λ x. x.tail) state; plain = tt } in
    let ms = turn_moves world_machine 128 a turned.taken in
    let log_is : after.log.items ≡ log_of ms = some_is after.log.items (given.log.items ++ log_of ms) turned.logs ∙ ap (λ l. l ++ log_of ms) fresh in
    let same : log_of says.ran.moves ≡ after.log.items = ap (λ l. l ++ log_of says.ran.moves) (sym fresh) ∙ sym (some_is after.log.items (given.log.items ++ log_of says.ran.moves) says.ran.logs) in
    let journal : journal_of (log_of says.ran.moves) ≡ journal_of after.log.items = ap journal_of same in
    let rounds = rounds_of 128 a turned.taken in
    let in_rounds : journal_of after.log.items ≡ journal_in rounds = ap journal_of log_is ∙ ap (λ l. journal_of (log_of l)) (sym (same_moves 128 a turned.taken)) in
    let each = all_groups a turned.taken (ap (λ x. x.pending) state) (ap (λ x. x.choices) state) turned.fits (turned.settles rests) in
    let m = says.memory a refl rests in
    let x = m.2 in
    let whole = x.report.whole in
    let model_is : model_jobs jobs ≡ model_jobs (generated count) = ap model_jobs made in
    let world : a.world.files ≡ empty_files = ap (λ y. y.world.files) state in
    let replays : replay (model_jobs (generated count)) empty_files (journal_of after.log.items) ≡ Some x.end = sym (λ i. replay (model_is i) (world i) (journal i)) ∙ x.replays in
    let chosen : IsChosen (journal_of after.log.items) [] false (first_state (model_jobs (generated count)) empty_files) =
    subst (λ y. IsChosen (journal_of after.log.items) y false (first_state (model_jobs (generated count)) empty_files)) (ap (λ y. y.choices) state)
    (subst (λ y. IsChosen (journal_of after.log.items) a.choices false (first_state (model_jobs (generated count)) y)) world
    (subst (λ y. IsChosen (journal_of after.log.items) a.choices false (first_state y a.world.files)) model_is
    (subst (λ y. IsChosen y a.choices false (first_state (model_jobs jobs) a.world.files)) journal x.chosen))) in
    let size : length jobs ≡ length (model_jobs (generated count)) = ap length made ∙ sym (length-map (generated count) model_job) in
    let busy : IsBusy 64 (length (model_jobs (generated count))) 0 (journal_of after.log.items) = subst (λ n. IsBusy 64 n 0 (journal_of after.log.items)) size (subst (IsBusy 64 (length jobs) 0) journal says.full.busy) in
    let goes = order (model_jobs (generated count)) empty_files rounds x.end (none_quiet (generated count) (valid count).0) each (subst (IsBusy 64 (length (model_jobs (generated count))) 0) in_rounds busy)
    (ap (replay (model_jobs (generated count)) empty_files) (sym in_rounds) ∙ replays) whole (subst (λ y. IsChosen y [] false (first_state (model_jobs (generated count)) empty_files)) in_rounds chosen) in
    let rows_few = goes.rows in
    let same_size : length (model_jobs jobs) ≡ length (model_jobs (generated count)) = ap length model_is in
    let negative : negative_outcomes report.outcomes.items ≡ negatives x.end.rows = same_negatives (model_jobs jobs) x.end.rows report.outcomes.items (omega (arith, rows_few, same_size)) whole.settled (x.report.outcomes ∙ ap (replayed_outcomes (model_jobs jobs)) (whole_table x.end whole)) in
    let turns : report.journal.items ≡ journal_of after.log.items = says.report.journal ∙ journal in
    let world_is : (state_of after).world.files ≡ x.end.files = ap (λ y. y.world.files) (some_is (state_of after) m.0 m.1) ∙ sym x.files in
    record {
      log = after.log.items;
      logged = refl;
      end = x.end;
      journal = record { results = goes.results; counted = goes.counted ∙ length-map (generated count) model_job ∙ (valid count).1; grouped = in_rounds ∙ goes.grouped; replays = replays; whole = whole };
      files = world_is;
      wrote = told ∙ (λ i. line (codes "jobs") count ++ line (codes "negative") (negative i) ++ line (codes "turns") (turns_in (turns i)) ++ line (codes "bytes") (bytes_in (world_is i)));
    }

pub state_is : (p : MemoryPartner) (a : PartnerState) → told_state p ≡ Some a → state_of p ≡ a
state_is p a e = some_is (state_of p) a e

pub log_is : (p : MemoryPartner) (l : List LogEvent) → told_log p ≡ Some l → p.log.items ≡ l
log_is p l e = some_is p.log.items l e

pub rests : (p : MemoryPartner) → told_state p ≡ Some (idle seeded_world []) → IsPlainAndIdle AnyWorld (state_of p)
rests p e = let s = state_is p (idle seeded_world []) e in record { pending = ap (λ x. x.pending) s; tail = ap (λ x. x.tail) s; plain = tt }

-- what holds of the number that the words give
pub at_count : (given : Option ℕ) (count : ℕ) (Q : ℕ → Type 0) → given ≡ Some count → Q count → IfSome given Q
at_count given count Q e q = subst (λ o. IfSome o Q) (sym e) q

-- the summary's text was written, or a front of it
pub written : (Wrote : List ℕ → Type 0) (count : ℕ) (after : MemoryPartner) (text bytes : List ℕ) → RanGenerated (λ b. text ≡ b) count after → bytes ≡ text → Wrote bytes → RanGenerated Wrote count after
written Wrote count after text bytes r same wrote = record { log = r.log; logged = r.logged; end = r.end; journal = r.journal; files = r.files; wrote = subst Wrote (same ∙ r.wrote) wrote }
