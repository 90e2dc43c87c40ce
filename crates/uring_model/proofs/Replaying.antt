-- What the replay's functions do, over plain variables.
use Rattle.std.proofs.Common.{◌≡◌, ◌∙◌, refl, ap, sym, subst, ℕ, zero, suc, ◌+◌, ◌-◌, ◌<◌, ◌≤◌, arith, Bool, true, false, ◌||◌, List, [], ◌∷◌, ◌++◌, length, take, drop, get_or, Option, Some, None, length-drop}
use Rattle.std.specs.Prelude.{ℤ, is_some}
use Rattle.std.specs.List.{All}
use Rattle.std.proofs.Math.ListN.{set}
use Rattle.std.proofs.Math.Bool.{and-false}
use Rattle.std.proofs.lemmas.List.Elements.{All-set, All-append}
use Rattle.std.proofs.Math.Seq.{take-append_seam, take-length, drop-length}
use Rattle.uring_base.specs.Lending.{laid_over}
use Rattle.uring_model.specs.declared.jobs.Job as jobs
use Rattle.uring_model.specs.declared.jobs.Link.TheVariants.{Free}
use Rattle.uring_model.specs.declared.rows.Row as code
use Rattle.uring_model.specs.declared.rows.Settled.{Settled}
use Rattle.uring_model.specs.declared.operation.Operation.{Operation}
use Rattle.uring_model.specs.Machine.{Files, FileAnswer, step}
use Rattle.uring_model.specs.Jobs.{Job, model_job, model_jobs, model_op, buf_lent}
use Rattle.uring_model.specs.Operations.{op_in, answer_in, FindsAs}
use Rattle.uring_model.specs.Replay.{Done, Place, ReplayState, can_mark, can_mark_other, mark_if, settle, severed, may, place_of, settle_at, settled, outcome_of, last_unlinked}
use Rattle.uring_model.specs.Rows.{rows_in, place_between, HasCount, HasCounts}
use Rattle.uring_model.proofs.Scanned.{place_at, place_past, place_in, place_if, rows_put}
use Rattle.uring_model.proofs.Steps.{step_finds}

All-one : {X : Type 0} (P : X → Type 0) (x : X) → P x → All P (x ∷ [])
All-one P x h = λ k d lt. let z : k ≡ 0 = omega arith in rw z h

-- bytes as many as the buffer's take its place
pub laid_whole : (buf part : List ℕ) → length part ≡ length buf → laid_over buf part ≡ part
laid_whole buf part h =
    rw (← h) (ap (λ n. take (length part) (part ++ drop n buf)) h ∙ ap (λ r. take (length part) (part ++ r)) (drop-length buf) ∙ take-append_seam part [])

settle_open : (files : Files) (p : Place) → p.marked ≡ false → severed false p.before ≡ false → settle files p ≡ step files (can_mark_other p) p.job.op p.job.buf
settle_open files p m s = rw (m, s) refl

-- a job that is neither canceled nor severed steps
pub settle_steps : (files : Files) (before : List code.Row) (row : code.Row) (after : List code.Row) (asks : Operation) (can : Bool) (buf : List ℕ)
    → row.marked ≡ false → severed false (rows_in before) ≡ false → op_in asks ≡ model_op row.job.kind → buf ≡ buf_lent row.job.kind
    → FindsAs (λ t. can_mark t 0 (rows_in before) || can_mark t (length (rows_in before) + 1) (rows_in after)) can asks
    → answer_in files can asks buf ≡ settle files (place_between before row after)
settle_steps files before row after asks can buf m s op b f =
    let p = place_between before row after in
    step_finds files (can_mark_other p) can asks buf f
    ∙ ap (λ o. step files (can_mark_other p) o buf) op
    ∙ ap (λ b. step files (can_mark_other p) (model_op row.job.kind) b) b
    ∙ sym (settle_open files p m s)

pub answer_parts : (a : FileAnswer) (r : ℤ) (buf part : List ℕ) (files : Files) (marks : Option ℕ) → length part ≡ length buf → r ≡ a.result → part ≡ a.buf → files ≡ a.world → marks ≡ a.marks → record { result = r; buf = laid_over buf part; world = files; marks = marks } ≡ a
answer_parts a r buf part files marks h er eb ef em =
    let e : record { result = r; buf = part; world = files; marks = marks } ≡ record { result = a.result; buf = a.buf; world = a.world; marks = a.marks } = cc in
    rw (laid_whole buf part h) e

-- the last job without its link
pub unlinked : (js : List jobs.Job) (k : ℕ) (j : jobs.Job) → k + 1 ≡ length js → j ≡ get_or js k j → model_jobs (set js k (record j { link = Free })) ≡ last_unlinked (model_jobs js)
unlinked [] k j h e = absurd (omega arith)
unlinked (x ∷ []) zero j h e = ap (λ y. model_job (record y { link = Free }) ∷ []) e
unlinked (x ∷ []) (suc k) j h e = absurd (omega arith)
unlinked (x ∷ y ∷ js) zero j h e = absurd (omega arith)
unlinked (x ∷ y ∷ js) (suc k) j h e = ap (λ l. model_job x ∷ l) (unlinked (y ∷ js) k j (omega arith) e)

pub settle_past : (s : ReplayState) (told : Job → ℤ → Bool) (k : ℕ) (rows : List code.Row) → length rows ≤ k → None ≡ settle_at s told (place_of [] (rows_in rows) k)
settle_past s told k rows h = ap (settle_at s told) (sym (place_past [] k rows h))

place_if_some : (o : Option Settled) (p : Place) → is_some o ≡ true → place_if o p ≡ None
place_if_some None p h = cc
place_if_some (Some o) p h = refl

place_if_none : (o : Option Settled) (p : Place) → is_some o ≡ false → place_if o p ≡ Some p
place_if_none None p h = refl
place_if_none (Some o) p h = cc

pub settle_done : (s : ReplayState) (told : Job → ℤ → Bool) (k : ℕ) (rows : List code.Row) (row : code.Row) → k < length rows → row ≡ get_or rows k row → is_some row.outcome ≡ true → None ≡ settle_at s told (place_of [] (rows_in rows) k)
settle_done s told k rows row h e o = ap (settle_at s told) (sym (place_at [] k rows row h e ∙ place_if_some row.outcome (place_in [] rows k row) o))

pub settle_open_row : (s : ReplayState) (told : Job → ℤ → Bool) (k : ℕ) (rows : List code.Row) (row : code.Row) → k < length rows → row ≡ get_or rows k row → is_some row.outcome ≡ false → settle_at s told (Some (place_between (take k rows) row (drop (k + 1) rows))) ≡ settle_at s told (place_of [] (rows_in rows) k)
settle_open_row s told k rows row h e o =
    let one : k + 1 ≡ suc k = omega arith in
    ap (λ n. settle_at s told (Some (place_between (take k rows) row (drop n rows)))) one
    ∙ ap (settle_at s told) (sym (place_at [] k rows row h e ∙ place_if_none row.outcome (place_in [] rows k row) o))

pub settle_early : (s : ReplayState) (told : Job → ℤ → Bool) (p : Place) → may p.before p.job ≡ false → None ≡ settle_at s told (Some p)
settle_early s told p h = rw h refl

pub settle_wrong : (s : ReplayState) (told : Job → ℤ → Bool) (p : Place) (a : FileAnswer) → a ≡ settle s.files p → told p.job a.result ≡ false → None ≡ settle_at s told (Some p)
settle_wrong s told p a e h =
    let t : told p.job (settle s.files p).result ≡ false = subst (λ a. told p.job a.result ≡ false) e h in
    rw (t, and-false (may p.before p.job)) refl

-- what stands behind a place, as a range of the slice
pub settle_behind : (a : FileAnswer) (files : Files) (before : List code.Row) (row : code.Row) (rows : List code.Row) (n : ℕ) → a ≡ settle files (place_between before row (take (length rows - n) (drop n rows))) → a ≡ settle files (place_between before row (drop n rows))
settle_behind a files before row rows n e =
    e ∙ ap (λ m. settle files (place_between before row (take m (drop n rows)))) (sym (length-drop n rows))
    ∙ ap (λ l. settle files (place_between before row l)) (take-length (drop n rows))

pub settle_right : (s : ReplayState) (told : Job → ℤ → Bool) (p : Place) (a : FileAnswer) → may p.before p.job ≡ true → a ≡ settle s.files p → told p.job a.result ≡ true → Some (settled s p a) ≡ settle_at s told (Some p)
settle_right s told p a m e h =
    let t : told p.job (settle s.files p).result ≡ true = subst (λ a. told p.job a.result ≡ true) e h in
    rw (m, t) (ap (λ a. Some (settled s p a)) e)

got_same : (k : ℕ) (rows : List code.Row) (a b : code.Row) → k < length rows → a ≡ get_or rows k a → b ≡ get_or rows k b → a ≡ b
got_same k [] a b h ea eb = absurd (omega arith)
got_same zero (x ∷ rows) a b h ea eb = ea ∙ sym eb
got_same (suc k) (x ∷ rows) a b h ea eb = got_same k rows a b (omega arith) ea eb

abbrev pub settled_row : code.Row → ℤ → List ℕ → code.Row
settled_row now r buf = record { job = now.job; marked = now.marked; outcome = Some (record { result = r; buf = buf }) }

-- the state that is left where a job settled, and marked the job that its cancel found
pub settled_so : (s : ReplayState) (k : ℕ) (rows new : List code.Row) (row now : code.Row) (a : FileAnswer) (r : ℤ)
    → k < length rows → row ≡ get_or rows k row → now ≡ get_or rows k now → r ≡ a.result
    → rows_in new ≡ mark_if a.marks (rows_in (set rows k (settled_row now r a.buf)))
    → record { files = a.world; rows = rows_in new; rest = s.rest } ≡ settled s (place_between (take k rows) row (drop (k + 1) rows)) a
settled_so s k rows new row now a r h e en er en' =
    let one : suc k ≡ k + 1 = omega arith in
    ap (λ rs. record { files = a.world; rows = rs; rest = s.rest })
    (en' ∙ ap (mark_if a.marks)
    (rows_put k rows (settled_row now r a.buf) h
    ∙ ap (λ x. rows_in (take k rows) ++ Done (model_job x.job) (record { result = r; buf = a.buf }) ∷ rows_in (drop (suc k) rows)) (got_same k rows now row h en e)
    ∙ ap (λ r. rows_in (take k rows) ++ Done (model_job row.job) (record { result = r; buf = a.buf }) ∷ rows_in (drop (suc k) rows)) er
    ∙ ap (λ n. rows_in (take k rows) ++ Done (model_job row.job) (outcome_of a) ∷ rows_in (drop n rows)) one))

-- a job's buffer is in bounds also where its row has an outcome
pub counts_put : (rows : List code.Row) (k : ℕ) (now : code.Row) (r : ℤ) (buf : List ℕ) → k < length rows → now ≡ get_or rows k now → HasCounts rows → HasCounts (set rows k (settled_row now r buf))
counts_put rows k now r buf h e all = All-set (λ row. HasCount row.job) rows k (settled_row now r buf) (subst (λ row. HasCount row.job) (sym e) (all k now h)) all

pub counts_push : (rows : List code.Row) (rest old : List jobs.Job) (job : jobs.Job) → old ≡ job ∷ rest → HasCounts rows → All HasCount old → HasCounts (rows ++ record { job = job; marked = false; outcome = None } ∷ [])
counts_push rows rest old job e all more = All-append (λ row. HasCount row.job) rows (record { job = job; marked = false; outcome = None } ∷ []) all (All-one (λ row. HasCount row.job) (record { job = job; marked = false; outcome = None }) (subst (All HasCount) e more 0 job (omega arith)))

pub counts_rest : (rest old : List jobs.Job) (job : jobs.Job) → old ≡ job ∷ rest → All HasCount old → All HasCount rest
counts_rest rest old job e more = λ k d h. subst (All HasCount) e more (suc k) d (omega arith)
