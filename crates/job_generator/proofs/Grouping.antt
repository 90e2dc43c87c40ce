-- A journal of turns that each settle what they take has all jobs in their order, where no choice is left and no job is quiet.
use Rattle.std.proofs.Common.{◌≡◌, ◌⊎◌, inl, inr, ℕ, ◌+◌, ◌<◌, ◌≤◌, ◌/◌, ◌%◌, zero, suc, Bool, true, false, ◌&&◌, cond, nat_eq, List, [], ◌∷◌, ◌++◌, length, map, take, drop, ℤ, Option, Some, None, slice_get, refl, ap, sym, subst, ◌∙◌, arith, append_assoc, append-nil, length-append}
use Rattle.std.specs.List.{AllByRecursion}
use Rattle.std.proofs.lemmas.Bool.Decides.{nat_tests}
use Rattle.uring_base.specs.Completions.{is_final}
use Rattle.uring_base.specs.declared.events.Taken.{Taken}
use Rattle.uring_base.specs.declared.events.Event.{Event}
use Rattle.uring_base.specs.declared.events.Event.TheVariants.{Turn, Take, Post, Quiet}
use Rattle.uring_model.specs.Machine.{Files}
use Rattle.uring_model.specs.Jobs.{Job, ends_quietly}
use Rattle.uring_model.specs.Replay.{Result, Row, Open, Done, Place, ReplayState, may, keep_if, ready, place_of, all_done, mark, mark_if, settle, settle_at, settled, outcome_of, take_job, by_post, replay, replay_event, replay_next, replay_from, first_state, last_unlinked, IsWhole, IsBusy}
use Rattle.uring_model.specs.Chosen.{IsChosen, IsChosenNext, Names, numbers}
use Rattle.uring_model.specs.Moves.{Move, Took, event_of, logged, journal_of, log_of}
use Rattle.uring_model.specs.Schedule.{EntryEnd, ByPost, Quietly, ended}
use Rattle.uring_model.proofs.Progress.{lowest_may}
use Rattle.job_generator.specs.Journal.{takes, posts, group, groups}
use Rattle.job_generator.specs.Laws.{Round, moves_in, journal_in, IsGroup, GoesInGroups}

abbrev pub journal : List Move → List Event
journal ms = journal_of (log_of ms)

-- what holds of a journal at a place of it: n jobs were taken before
record Goes (count n : ℕ) (es : List Event) (s end : ReplayState) : Type 0 where
  pub replays : replay_from es s ≡ Some end
  pub chosen : IsChosen es [] false s
  pub busy : IsBusy 64 count n es

abbrev IsLoud : Job → Type 0
IsLoud job = job.quiet ≡ false

abbrev IsLoudOpen : Row → Type 0
IsLoudOpen (Open job m) = IsLoud job
IsLoudOpen (Done job r) = ⊥

some_is : {A : Type 0} (a b : A) → ◌≡◌ {A = Option A} (Some a) (Some b) → a ≡ b
some_is a b e = cc

next_some : (es : List Event) (o : Option ReplayState) (end : ReplayState) → replay_next es o (λ _ t. replay_from es t) ≡ Some end → (t : ReplayState) × (o ≡ Some t) × (replay_from es t ≡ Some end)
next_some es None end e = absurd (cc)
next_some es (Some t) end e = (t, refl, e)

chosen_at : (o : Option ReplayState) (t : ReplayState) (go : ReplayState → Type 0) → o ≡ Some t → IsChosenNext o go → go t
chosen_at o t go e h = subst (λ x. IsChosenNext x go) e h

-- what is taken

record OneTaken (s : ReplayState) (j : ℕ) (t : ReplayState) : Type 0 where
  pub job : Job
  pub rows : t.rows ≡ s.rows ++ Open job false ∷ []
  pub number : j ≡ length s.rows
  pub loud : IsLoud job
  pub rest : length s.rest ≡ suc (length t.rest)
  pub loud_rest : AllByRecursion IsLoud t.rest

same_number : (a b : ℕ) → nat_eq a b ≡ true → a ≡ b
same_number a b e = grind (arith, nat_tests)

taken_if : (b : Bool) (s t u : ReplayState) → cond b (Some u) None ≡ Some t → (b ≡ true) × (u ≡ t)
taken_if true s t u e = (refl, some_is u t e)
taken_if false s t u e = absurd (cc)

one_taken : (s : ReplayState) (j : ℕ) (rest : List Job) (t : ReplayState) → s.rest ≡ rest → take_job s j rest ≡ Some t → AllByRecursion IsLoud rest → OneTaken s j t
one_taken s j [] t er e loud = absurd (cc)
one_taken s j (job ∷ rest) t er e loud =
    let p = taken_if (nat_eq j (length s.rows)) s t (record { files = s.files; rows = s.rows ++ Open job false ∷ []; rest = rest }) e in
    record {
      job = job;
      rows = ap (λ x. x.rows) (sym p.1);
      number = same_number j (length s.rows) p.0;
      loud = loud.0;
      rest = ap length er ∙ ap (λ x. suc (length x.rest)) p.1;
      loud_rest = subst (λ x. AllByRecursion IsLoud x.rest) p.1 loud.1;
    }

record AfterTakes (count n : ℕ) (ts : List Taken) (ms : List Move) (s end : ReplayState) : Type 0 where
  pub at : ReplayState
  pub opens : List Row
  pub rows : at.rows ≡ s.rows ++ opens
  pub loud : AllByRecursion IsLoudOpen opens
  pub counted : length opens ≡ length ts
  pub rest : length s.rest ≡ length ts + length at.rest
  pub loud_rest : AllByRecursion IsLoud at.rest
  pub told : journal (map Took ts) ≡ takes (length s.rows) (length ts)
  pub goes : Goes count (n + length ts) (journal ms) at end

after_takes : (count n : ℕ) (ts : List Taken) (ms : List Move) (s end : ReplayState) → AllByRecursion IsLoud s.rest → Goes count n (journal (map Took ts ++ ms)) s end → AfterTakes count n ts ms s end
after_takes count n [] ms s end loud g =
    record { at = s; opens = []; rows = sym (append-nil s.rows); loud = tt; counted = refl; rest = omega arith; loud_rest = loud; told = refl; goes = subst (λ k. Goes count k (journal ms) s end) (omega arith) g }
after_takes count n (x ∷ ts) ms s end loud g =
    let es = journal (map Took ts ++ ms) in
    let t = next_some es (take_job s x.entry.user_data s.rest) end g.replays in
    let o = one_taken s x.entry.user_data s.rest t.0 refl t.1 loud in
    let more = after_takes count (n + 1) ts ms t.0 end o.loud_rest (record { replays = t.2; chosen = chosen_at (take_job s x.entry.user_data s.rest) t.0 (IsChosen es [] false) t.1 g.chosen.1; busy = g.busy }) in
    let longer : length t.0.rows ≡ length s.rows + 1 = ap length o.rows ∙ length-append s.rows (Open o.job false ∷ []) in
    record {
      at = more.at;
      opens = Open o.job false ∷ more.opens;
      rows = more.rows ∙ ap (λ l. l ++ more.opens) o.rows ∙ append_assoc s.rows (Open o.job false ∷ []) more.opens;
      loud = (o.loud, more.loud);
      counted = ap suc more.counted;
      rest = (let r = more.rest in let q = o.rest in omega (arith, r, q));
      loud_rest = more.loud_rest;
      told = (λ i. Take (o.number i) ∷ more.told i) ∙ ap (λ k. Take (length s.rows) ∷ takes k (length ts)) longer;
      goes = subst (λ k. Goes count k (journal ms) more.at end) (omega arith) more.goes;
    }

-- what settles

kept_first : {A : Type 0} (b : Bool) (x : A) (xs : List A) → b ≡ true → keep_if b x xs ≡ x ∷ xs
kept_first b x xs e = rw e refl

-- done rows in front of an open one: it is the first that is ready, and stands at its number

done_more : (front : List Row) (job : Job) (r : Result) → all_done front ≡ true → all_done (front ++ Done job r ∷ []) ≡ true
done_more [] job r h = refl
done_more (Open j m ∷ front) job r h = absurd (cc)
done_more (Done j q ∷ front) job r h = done_more front job r h

first_ready : (front before opens : List Row) (job : Job) (m : Bool) → all_done front ≡ true → all_done before ≡ true
    → (more : List Place) × (ready front (before ++ Open job m ∷ opens) ≡ record { before = front ++ before; job = job; marked = m; after = opens } ∷ more)
first_ready front [] opens job m f h = (
  ready (front ++ Open job m ∷ []) opens,
  kept_first (may front job) (record { before = front; job = job; marked = m; after = opens }) (ready (front ++ Open job m ∷ []) opens) (lowest_may front job f)
      ∙ ap (λ l. record { before = l; job = job; marked = m; after = opens } ∷ ready (front ++ Open job m ∷ []) opens) (sym (append-nil front)),
)
first_ready front (Open j k ∷ before) opens job m f h = absurd (cc)
first_ready front (Done j r ∷ before) opens job m f h =
    let more = first_ready (front ++ Done j r ∷ []) before opens job m (done_more front j r f) h in
    (more.0, more.1 ∙ ap (λ l. record { before = l; job = job; marked = m; after = opens } ∷ more.0) (append_assoc front (Done j r ∷ []) before))

place_first : (front before opens : List Row) (job : Job) (m : Bool) → all_done before ≡ true → place_of front (before ++ Open job m ∷ opens) (length before) ≡ Some (record { before = front ++ before; job = job; marked = m; after = opens })
place_first front [] opens job m h = ap (λ l. Some (record { before = l; job = job; marked = m; after = opens })) (sym (append-nil front))
place_first front (Open j k ∷ before) opens job m h = absurd (cc)
place_first front (Done j r ∷ before) opens job m h =
    place_first (front ++ Done j r ∷ []) before opens job m h ∙ ap (λ l. Some (record { before = l; job = job; marked = m; after = opens })) (append_assoc front (Done j r ∷ []) before)

none_over : (k : ℕ) → (1 / 2) % k ≡ 0
none_over k = omega arith

named_first : (ps : List Place) (p : Place) (more : List Place) (j : ℕ) → ps ≡ p ∷ more → Names 1 (numbers ps) j → j ≡ length p.before
named_first ps p more j e h =
    let at : slice_get (numbers (p ∷ more)) ((1 / 2) % length (numbers (p ∷ more))) ≡ Some j = subst (λ l. Names 1 (numbers l) j) e h in
    let zero_at : slice_get (numbers (p ∷ more)) 0 ≡ Some j = ap (slice_get (numbers (p ∷ more))) (sym (none_over (length (numbers (p ∷ more))))) ∙ at in
    sym (some_is (length p.before) j zero_at)

-- a mark leaves done rows as they are, and open ones open

record Marked (before opens rows : List Row) : Type 0 where
  pub after : List Row
  pub rows_are : rows ≡ before ++ after
  pub loud : AllByRecursion IsLoudOpen after
  pub counted : length after ≡ length opens

mark_opens : (t n : ℕ) (opens : List Row) → AllByRecursion IsLoudOpen opens → AllByRecursion IsLoudOpen (mark t n opens) × (length (mark t n opens) ≡ length opens)
mark_opens t n [] h = (tt, refl)
mark_opens t n (Open job m ∷ opens) h = let more = mark_opens t (n + 1) opens h.1 in ((h.0, more.0), ap suc more.1)
mark_opens t n (Done job r ∷ opens) h = absurd h.0

mark_behind : (t n : ℕ) (before opens : List Row) → all_done before ≡ true → AllByRecursion IsLoudOpen opens → Marked before opens (mark t n (before ++ opens))
mark_behind t n [] opens h loud = let m = mark_opens t n opens loud in record { after = mark t n opens; rows_are = refl; loud = m.0; counted = m.1 }
mark_behind t n (Open job m ∷ before) opens h loud = absurd (cc)
mark_behind t n (Done job r ∷ before) opens h loud =
    let m = mark_behind t (n + 1) before opens h loud in
    record { after = m.after; rows_are = ap (λ l. Done job r ∷ l) m.rows_are; loud = m.loud; counted = m.counted }

mark_maybe : (o : Option ℕ) (before opens : List Row) → all_done before ≡ true → AllByRecursion IsLoudOpen opens → Marked before opens (mark_if o (before ++ opens))
mark_maybe None before opens h loud = record { after = opens; rows_are = refl; loud = loud; counted = refl }
mark_maybe (Some t) before opens h loud = mark_behind t 0 before opens h loud

settled_if : (b : Bool) (t u : ReplayState) → cond b (Some u) None ≡ Some t → (b ≡ true) × (u ≡ t)
settled_if true t u e = (refl, some_is u t e)
settled_if false t u e = absurd (cc)

record OneSettled (s : ReplayState) (before opens : List Row) (t : ReplayState) : Type 0 where
  pub done : List Row
  pub after : List Row
  pub rows : t.rows ≡ done ++ after
  pub all_are : all_done done ≡ true
  pub loud : AllByRecursion IsLoudOpen after
  pub more : length done ≡ length before + 1
  pub less : length after ≡ length opens
  pub rest : t.rest ≡ s.rest

-- the job that settles is the first of those that are open
one_settled : (s t : ReplayState) (told : Job → ℤ → Bool) (j : ℕ) (before opens : List Row) (job : Job) (m : Bool) → s.rows ≡ before ++ Open job m ∷ opens → all_done before ≡ true → AllByRecursion IsLoudOpen opens → Names 1 (numbers (ready [] s.rows)) j
    → settle_at s told (place_of [] s.rows j) ≡ Some t → (j ≡ length before) × ((told job (settle s.files (record { before = before; job = job; marked = m; after = opens })).result) ≡ true) × OneSettled s before opens t
one_settled s t told j before opens job m rows done loud named e =
    let p : Place = record { before = before; job = job; marked = m; after = opens } in
    let first = first_ready [] before opens job m refl done in
    let number : j ≡ length before = named_first (ready [] s.rows) p first.0 j (ap (ready []) rows ∙ first.1) named in
    let place : place_of [] s.rows j ≡ Some p = (λ i. place_of [] (rows i) (number i)) ∙ place_first [] before opens job m done in
    let a = settle s.files p in
    let q = settled_if (may before job && told job a.result) t (settled s p a) (ap (settle_at s told) (sym place) ∙ e) in
    let marks = mark_maybe a.marks (before ++ Done job (outcome_of a) ∷ []) opens (done_more before job (outcome_of a) done) loud in (
      number,
      second (may before job) (told job a.result) q.0,
      record {
        done = before ++ Done job (outcome_of a) ∷ [];
        after = marks.after;
        rows = ap (λ x. x.rows) (sym q.1) ∙ ap (mark_if a.marks) (sym (append_assoc before (Done job (outcome_of a) ∷ []) opens)) ∙ marks.rows_are;
        all_are = done_more before job (outcome_of a) done;
        loud = marks.loud;
        more = length-append before (Done job (outcome_of a) ∷ []);
        less = marks.counted;
        rest = ap (λ x. x.rest) (sym q.1);
      },
    )
  where
    second : (b c : Bool) → (b && c) ≡ true → c ≡ true
    second true c h = h
    second false c h = cc

record AfterPosts (count n : ℕ) (ends : List EntryEnd) (ms : List Move) (s end : ReplayState) (before opens : List Row) : Type 0 where
  pub at : ReplayState
  pub done : List Row
  pub after : List Row
  pub rows : at.rows ≡ done ++ after
  pub all_are : all_done done ≡ true
  pub more : length done ≡ length before + length ends
  pub less : length after + length ends ≡ length opens
  pub rest : at.rest ≡ s.rest
  pub results : List ℤ
  pub counted : length results ≡ length ends
  pub told : journal (map ended ends) ≡ posts (length before) results
  pub goes : Goes count n (journal ms) at end

settle_final : (b : Bool) (o : Option ReplayState) (t : ReplayState) → cond b o None ≡ Some t → (b ≡ true) × (o ≡ Some t)
settle_final true o t e = (refl, e)
settle_final false o t e = absurd (cc)

not_quiet : (job : Job) (b : Bool) → IsLoud job → (job.quiet && b) ≡ true → ⊥
not_quiet job b loud h = let x : (false && b) ≡ true = ap (λ q. q && b) (sym loud) ∙ h in cc

after_posts : (count n : ℕ) (ends : List EntryEnd) (ms : List Move) (s end : ReplayState) (before opens : List Row) → s.rows ≡ before ++ opens → all_done before ≡ true → AllByRecursion IsLoudOpen opens → length ends ≤ length opens → Goes count n (journal (map ended ends ++ ms)) s end → AfterPosts count n ends ms s end before opens
after_posts count n [] ms s end before opens rows done loud few g =
    record { at = s; done = before; after = opens; rows = rows; all_are = done; more = omega arith; less = omega arith; rest = refl; results = []; counted = refl; told = refl; goes = g }
after_posts count n (e ∷ ends) ms s end before [] rows done loud few g = absurd (omega arith)
after_posts count n (e ∷ ends) ms s end before (Done job r ∷ opens) rows done loud few g = absurd loud.0
after_posts count n (Quietly q ∷ ends) ms s end before (Open job m ∷ opens) rows done loud few g =
    let es = journal (map ended ends ++ ms) in
    let t = next_some es (replay_event s (Quiet q)) end g.replays in
    let o = one_settled s t.0 ends_quietly q before opens job m rows done loud.1 g.chosen.1 t.1 in
    absurd (not_quiet job _ loud.0 o.1)
after_posts count n (ByPost c ∷ ends) ms s end before (Open job m ∷ opens) rows done loud few g =
    let es = journal (map ended ends ++ ms) in
    let event = Post c.user_data c.result (is_final c.flags) in
    let t = next_some es (replay_event s event) end g.replays in
    let final = settle_final (is_final c.flags) (settle_at s (by_post c.result) (place_of [] s.rows c.user_data)) t.0 t.1 in
    let o = one_settled s t.0 (by_post c.result) c.user_data before opens job m rows done loud.1 g.chosen.1 final.1 in
    let k = o.2 in
    let enough = k.less in
    let more = after_posts count n ends ms t.0 end k.done k.after k.rows k.all_are k.loud (omega (arith, enough, few)) (record { replays = t.2; chosen = chosen_at (replay_event s event) t.0 (IsChosen es [] false) t.1 g.chosen.2; busy = g.busy }) in
    let longer = k.more in
    let grown = more.more in
    let shrunk = more.less in
    record {
      at = more.at;
      done = more.done;
      after = more.after;
      rows = more.rows;
      all_are = more.all_are;
      more = omega (arith, longer, grown);
      less = omega (arith, enough, shrunk);
      rest = more.rest ∙ k.rest;
      results = c.result ∷ more.results;
      counted = ap suc more.counted;
      told = (λ i. Post (o.0 i) c.result (final.0 i) ∷ more.told i) ∙ ap (λ l. Post (length before) c.result true ∷ posts l more.results) longer;
      goes = more.goes;
    }

-- groups

take_front : {A : Type 0} (n : ℕ) (xs ys : List A) → length xs ≡ n → take n (xs ++ ys) ≡ xs
take_front zero [] ys e = refl
take_front zero (x ∷ xs) ys e = absurd (omega arith)
take_front (suc n) [] ys e = absurd (omega arith)
take_front (suc n) (x ∷ xs) ys e = ap (λ l. x ∷ l) (take_front n xs ys (omega arith))

drop_front : {A : Type 0} (n : ℕ) (xs ys : List A) → length xs ≡ n → drop n (xs ++ ys) ≡ ys
drop_front zero [] ys e = refl
drop_front zero (x ∷ xs) ys e = absurd (omega arith)
drop_front (suc n) [] ys e = absurd (omega arith)
drop_front (suc n) (x ∷ xs) ys e = drop_front n xs ys (omega arith)

take_all : {A : Type 0} (n : ℕ) (xs : List A) → length xs ≤ n → take n xs ≡ xs
take_all zero [] h = refl
take_all zero (x ∷ xs) h = absurd (omega arith)
take_all (suc n) [] h = refl
take_all (suc n) (x ∷ xs) h = ap (λ l. x ∷ l) (take_all n xs (omega arith))

drop_all : {A : Type 0} (n : ℕ) (xs : List A) → length xs ≤ n → drop n xs ≡ []
drop_all zero [] h = refl
drop_all zero (x ∷ xs) h = absurd (omega arith)
drop_all (suc n) [] h = refl
drop_all (suc n) (x ∷ xs) h = drop_all n xs (omega arith)

no_groups : (left n : ℕ) → groups left n [] ≡ []
no_groups zero n = refl
no_groups (suc left) n = refl

nil_of : {A : Type 0} (xs : List A) → length xs ≡ 0 → xs ≡ []
nil_of [] e = refl
nil_of (x ∷ xs) e = absurd (omega arith)

one_group : (left n : ℕ) (rs more : List ℤ) → 0 < length rs → length rs ≤ 64 → (length rs ≡ 64) ⊎ (length more ≡ 0) → groups (suc left) n (rs ++ more) ≡ group n rs ++ groups left (n + length rs) more
one_group left n [] more some fits full = absurd (omega arith)
one_group left n (r ∷ rs) more some fits full = elim full [
  | inl e ↦ (λ i. group n (take_front 64 (r ∷ rs) more e i) ++ groups left (n + sym e i) (drop_front 64 (r ∷ rs) more e i))
  | inr e ↦
      let none = nil_of more e in
      let short : (r ∷ rs) ++ more ≡ r ∷ rs = ap (λ l. (r ∷ rs) ++ l) none ∙ append-nil (r ∷ rs) in
      ap (λ l. group n l ++ groups left (n + 64) (drop 64 ((r ∷ rs) ++ more))) (ap (take 64) short ∙ take_all 64 (r ∷ rs) fits)
      ∙ ap (λ l. group n (r ∷ rs) ++ l) (ap (groups left (n + 64)) (ap (drop 64) short ∙ drop_all 64 (r ∷ rs) fits) ∙ no_groups left (n + 64) ∙ sym (no_groups left (n + length (r ∷ rs))) ∙ ap (groups left (n + length (r ∷ rs))) (sym none))
]

few_left : (left k rest ts after kept : ℕ) → rest ≤ left → left ≡ suc k → rest ≡ ts + after → 0 < ts → kept ≡ after → kept ≤ k
few_left left k rest ts after kept h e split some same = omega arith

some_left : (left rest ts after : ℕ) → rest ≤ left → rest ≡ ts + after → 0 < ts → 0 < left
some_left left rest ts after h split some = omega arith

record AllGroups (count : ℕ) (es : List Event) (s end : ReplayState) : Type 0 where
  pub results : List ℤ
  pub counted : length results ≡ length s.rest
  pub rows : length end.rows ≡ count
  pub grouped : (left : ℕ) → length s.rest ≤ left → es ≡ groups left (length s.rows) results

journal-append : (ms ns : List Move) → journal (ms ++ ns) ≡ journal ms ++ journal ns
journal-append [] ns = refl
journal-append (m ∷ ms) ns = ap (λ l. event_of (logged m) ∷ l) (journal-append ms ns)

-- one round's events: its turn, its takes, its ends, and then those of the rounds behind it
round_apart : (r : Round) (rounds : List Round) → journal_in (r ∷ rounds) ≡ Turn (length r.taken) ∷ journal (map Took r.taken ++ (map ended r.ends ++ moves_in rounds))
round_apart r rounds = ap (λ l. Turn (length r.taken) ∷ journal l) (append_assoc (map Took r.taken) (map ended r.ends) (moves_in rounds))

round_spread : (r : Round) (rounds : List Round) → journal_in (r ∷ rounds) ≡ Turn (length r.taken) ∷ (journal (map Took r.taken) ++ (journal (map ended r.ends) ++ journal_in rounds))
round_spread r rounds =
    round_apart r rounds
    ∙ ap (λ l. Turn (length r.taken) ∷ l) (journal-append (map Took r.taken) (map ended r.ends ++ moves_in rounds))
    ∙ ap (λ l. Turn (length r.taken) ∷ (journal (map Took r.taken) ++ l)) (journal-append (map ended r.ends) (moves_in rounds))

joined : (n p k left : ℕ) (results more : List ℤ) (es took_part ended_part behind : List Event) → es ≡ Turn p ∷ (took_part ++ (ended_part ++ behind)) → took_part ≡ takes n p → ended_part ≡ posts n results → p ≡ length results → 0 < p → p ≤ 64 → (length results ≡ 64) ⊎ (length more ≡ 0)
    → left ≡ suc k → behind ≡ groups k (n + p) more → es ≡ groups left n (results ++ more)
joined n p k left results more es took_part ended_part behind e a b size some fits full left_is c =
    e
    ∙ (λ i. Turn (size i) ∷ ((a ∙ ap (takes n) size) i ++ (b i ++ (c ∙ ap (λ m. groups k (n + m) more) size) i)))
    ∙ ap (λ l. Turn (length results) ∷ l) (sym (append_assoc (takes n (length results)) (posts n results) (groups k (n + length results) more)))
    ∙ sym (one_group k n results more (subst (λ m. 0 < m) size some) (subst (λ m. m ≤ 64) size fits) full)
    ∙ ap (λ l. groups l n (results ++ more)) (sym left_is)

full_or_last : (p n count rest after kept results more : ℕ) → (p ≡ 64) ⊎ (n + p ≡ count) → results ≡ p → count ≡ n + rest → rest ≡ p + after → kept ≡ after → more ≡ kept → (results ≡ 64) ⊎ (more ≡ 0)
full_or_last p n count rest after kept results more busy a b c d e = elim busy [
  | inl q ↦ inl (omega (arith, a, q))
  | inr q ↦ inr (omega (arith, a, b, c, d, e, q))
]

suc_of : (left : ℕ) → 0 < left → (k : ℕ) × (left ≡ suc k)
suc_of zero h = absurd (omega arith)
suc_of (suc k) h = (k, refl)

-- what one round leaves: the place behind it, at which all that was taken is done
record AfterRound (count : ℕ) (r : Round) (rounds : List Round) (s end : ReplayState) : Type 0 where
  pub at : ReplayState
  pub done : all_done at.rows ≡ true
  pub loud : AllByRecursion IsLoud at.rest
  pub here : length at.rows ≡ length s.rows + length r.taken
  pub rest : length s.rest ≡ length r.taken + length at.rest
  pub results : List ℤ
  pub counted : length results ≡ length r.taken
  pub taken : journal (map Took r.taken) ≡ takes (length s.rows) (length r.taken)
  pub ended : journal (map ended r.ends) ≡ posts (length s.rows) results
  pub full : (length r.taken ≡ 64) ⊎ (length s.rows + length r.taken ≡ count)
  pub goes : Goes count (length at.rows) (journal_in rounds) at end

after_round : (count : ℕ) (r : Round) (rounds : List Round) (s end : ReplayState) → all_done s.rows ≡ true → AllByRecursion IsLoud s.rest → IsGroup r → Goes count (length s.rows) (journal_in (r ∷ rounds)) s end → AfterRound count r rounds s end
after_round count r rounds s end done loud each g =
    let n = length s.rows in
    let went : Goes count n (Turn (length r.taken) ∷ journal (map Took r.taken ++ (map ended r.ends ++ moves_in rounds))) s end = subst (λ l. Goes count n l s end) (round_apart r rounds) g in
    let a = after_takes count n r.taken (map ended r.ends ++ moves_in rounds) s end loud (record { replays = went.replays; chosen = went.chosen; busy = went.busy.1 }) in
    let settled_all = each.all in
    let opened = a.counted in
    let b = after_posts count (n + length r.taken) r.ends (moves_in rounds) a.at end s.rows a.opens a.rows done a.loud (omega (arith, settled_all, opened)) a.goes in
    let less = b.less in
    let none : b.after ≡ [] = nil_of b.after (omega (arith, less, settled_all, opened)) in
    let rows : b.at.rows ≡ b.done = b.rows ∙ ap (λ l. b.done ++ l) none ∙ append-nil b.done in
    let longer = b.more in
    let here : length b.at.rows ≡ n + length r.taken = ap length rows ∙ omega (arith, longer, settled_all) in
    record {
      at = b.at;
      done = ap all_done rows ∙ b.all_are;
      loud = subst (AllByRecursion IsLoud) (sym b.rest) a.loud_rest;
      here = here;
      rest = a.rest ∙ ap (λ l. length r.taken + length l) (sym b.rest);
      results = b.results;
      counted = b.counted ∙ settled_all;
      taken = a.told;
      ended = b.told;
      full = went.busy.0;
      goes = subst (λ k. Goes count k (journal_in rounds) b.at end) (sym here) b.goes;
    }

all_groups : (count : ℕ) (rounds : List Round) (s end : ReplayState) → all_done s.rows ≡ true → AllByRecursion IsLoud s.rest → count ≡ length s.rows + length s.rest → AllByRecursion IsGroup rounds → IsWhole end → Goes count (length s.rows) (journal_in rounds) s end → AllGroups count (journal_in rounds) s end
all_groups count [] s end done loud total each whole g =
    let same : s ≡ end = some_is s end g.replays in
    let none : length s.rest ≡ 0 = ap (λ x. length x.rest) same ∙ ap length whole.taken in
    record { results = []; counted = sym none; rows = ap (λ x. length x.rows) (sym same) ∙ omega (arith, total, none); grouped = λ left h. sym (no_groups left (length s.rows)) }
all_groups count (r ∷ rounds) s end done loud total each whole g =
    let a = after_round count r rounds s end done loud each.0 g in
    let here = a.here in
    let rest = a.rest in
    let more = all_groups count rounds a.at end a.done a.loud (omega (arith, total, here, rest)) each.1 whole a.goes in
    let sizes = a.counted in
    let rest_sizes = more.counted in
    record {
      results = a.results ++ more.results;
      counted = length-append a.results more.results ∙ omega (arith, sizes, rest_sizes, rest);
      rows = more.rows;
      grouped = λ left h.
          let k = suc_of left (some_left left _ _ _ h a.rest each.0.some) in
          joined (length s.rows) (length r.taken) k.0 left a.results more.results (journal_in (r ∷ rounds)) (journal (map Took r.taken)) (journal (map ended r.ends)) (journal_in rounds) (round_spread r rounds) a.taken a.ended (sym a.counted) each.0.some each.0.fits
          (full_or_last (length r.taken) (length s.rows) count (length s.rest) (length a.at.rest) (length a.at.rest) (length a.results) (length more.results) a.full a.counted total a.rest refl more.counted) k.1
          (more.grouped k.0 (few_left left k.0 _ _ _ _ h k.1 a.rest each.0.some refl) ∙ ap (λ m. groups k.0 m more.results) a.here);
    }

unlinked_rest : (jobs : List Job) → AllByRecursion IsLoud jobs → AllByRecursion IsLoud (last_unlinked jobs) × (length (last_unlinked jobs) ≡ length jobs)
unlinked_rest [] h = (tt, refl)
unlinked_rest (job ∷ []) h = ((h.0, tt), refl)
unlinked_rest (job ∷ next ∷ jobs) h = let more = unlinked_rest (next ∷ jobs) h.1 in ((h.0, more.0), ap suc more.1)

pub groups_in_order : (jobs : List Job) (files : Files) (rounds : List Round) (end : ReplayState) → AllByRecursion IsLoud jobs → AllByRecursion IsGroup rounds → IsBusy 64 (length jobs) 0 (journal_in rounds)
    → replay jobs files (journal_in rounds) ≡ Some end → IsWhole end → IsChosen (journal_in rounds) [] false (first_state jobs files) → GoesInGroups jobs rounds end
groups_in_order jobs files rounds end loud each busy replays whole chosen =
    let rest = unlinked_rest jobs loud in
    let count = rest.1 in
    let all = all_groups (length jobs) rounds (first_state jobs files) end refl rest.0 (omega (arith, count)) each whole (record { replays = replays; chosen = chosen; busy = busy }) in
    let sizes = all.counted in
    record {
      results = all.results;
      counted = all.counted ∙ count;
      grouped = all.grouped (length all.results) (omega (arith, sizes));
      rows = all.rows;
    }
