-- Rows that are gone through one by one, and a row by its place.
use Rattle.std.proofs.Common.{◌≡◌, ◌∙◌, refl, ap, sym, ℕ, zero, suc, ◌+◌, ◌<◌, ◌≤◌, arith, Bool, true, false, ◌&&◌, not, List, [], ◌∷◌, ◌++◌, length, take, drop, get_or, Option, Some, None, append-nil, append_assoc}
use Rattle.std.proofs.Math.ListN.{set}
use Rattle.std.proofs.Math.Seq.{drop-cons}
use Rattle.std.proofs.Math.Bool.{or-true, or-false}
use Rattle.std.proofs.lemmas.Bool.Decides.{nat_tests}
use Rattle.std.specs.Prelude.{slice_get, nat_eq}
use Rattle.uring_model.specs.Jobs.{Job, model_job}
use Rattle.uring_model.specs.Replay.{Row, Open, Done, Place, waits, severed, drains_done, all_done, can_mark, mark, mark_if, place_of}
use Rattle.uring_model.specs.Rows.{row_in, rows_in, row_of, result_in, is_markable}
use Rattle.uring_model.specs.declared.rows.Row as code
use Rattle.uring_model.specs.declared.rows.Settled.{Settled}

pub rows_from : (rows : List code.Row) (i : ℕ) (d : code.Row) → i < length rows → d ≡ get_or rows i d → rows_in (drop i rows) ≡ row_in d ∷ rows_in (drop (i + 1) rows)
rows_from rows i d h e =
    let one : i + 1 ≡ suc i = omega arith in
    rw one (ap rows_in (drop-cons rows i d h) ∙ ap (λ r. row_in r ∷ rows_in (drop (suc i) rows)) (sym e))

waits_one : (w : Bool) (r : Row) (rs : List Row) → waits w (r ∷ rs) ≡ waits (waits w (r ∷ [])) rs
waits_one w (Open job m) rs = refl
waits_one w (Done job r) rs = refl

pub waits_from : (w : Bool) (rows : List code.Row) (i : ℕ) (d : code.Row) → i < length rows → d ≡ get_or rows i d → waits w (rows_in (drop i rows)) ≡ waits (waits w (row_in d ∷ [])) (rows_in (drop (i + 1) rows))
waits_from w rows i d h e = ap (waits w) (rows_from rows i d h e) ∙ waits_one w (row_in d) (rows_in (drop (i + 1) rows))

severed_one : (s : Bool) (r : Row) (rs : List Row) → severed s (r ∷ rs) ≡ severed (severed s (r ∷ [])) rs
severed_one s (Open job m) rs = refl
severed_one s (Done job r) rs = refl

pub severed_from : (s : Bool) (rows : List code.Row) (i : ℕ) (d : code.Row) → i < length rows → d ≡ get_or rows i d → severed s (rows_in (drop i rows)) ≡ severed (severed s (row_in d ∷ [])) (rows_in (drop (i + 1) rows))
severed_from s rows i d h e = ap (severed s) (rows_from rows i d h e) ∙ severed_one s (row_in d) (rows_in (drop (i + 1) rows))

drains_one : (r : Row) (rs : List Row) → drains_done (r ∷ rs) ≡ (drains_done (r ∷ []) && drains_done rs)
drains_one (Open job m) rs = elim job.drain as (λ b. (not b && drains_done rs) ≡ ((not b && true) && drains_done rs)) [ true ↦ refl | false ↦ refl ]
drains_one (Done job r) rs = refl

pub drains_from : (rows : List code.Row) (i : ℕ) (d : code.Row) → i < length rows → d ≡ get_or rows i d → drains_done (rows_in (drop i rows)) ≡ (drains_done (row_in d ∷ []) && drains_done (rows_in (drop (i + 1) rows)))
drains_from rows i d h e = ap drains_done (rows_from rows i d h e) ∙ drains_one (row_in d) (rows_in (drop (i + 1) rows))

all_done_one : (r : Row) (rs : List Row) → all_done (r ∷ rs) ≡ (all_done (r ∷ []) && all_done rs)
all_done_one (Open job m) rs = refl
all_done_one (Done job r) rs = refl

pub all_done_from : (rows : List code.Row) (i : ℕ) (d : code.Row) → i < length rows → d ≡ get_or rows i d → all_done (rows_in (drop i rows)) ≡ (all_done (row_in d ∷ []) && all_done (rows_in (drop (i + 1) rows)))
all_done_from rows i d h e = ap all_done (rows_from rows i d h e) ∙ all_done_one (row_in d) (rows_in (drop (i + 1) rows))

pub can_mark_below : (t n : ℕ) (rows : List Row) → t < n → can_mark t n rows ≡ false
can_mark_below t n [] h = refl
can_mark_below t n (Open job m ∷ rows) h =
    let e : nat_eq n t ≡ false = grind (arith, nat_tests) in
    rw e (can_mark_below t (n + 1) rows (omega arith))
can_mark_below t n (Done job r ∷ rows) h = can_mark_below t (n + 1) rows (omega arith)

pub can_mark_at : (n k : ℕ) (rows : List Row) → can_mark (n + k) n rows ≡ is_markable (slice_get rows k)
can_mark_at n k [] = refl
can_mark_at n zero (Open job m ∷ rows) =
    let e : nat_eq n (n + 0) ≡ true = grind (arith, nat_tests) in
    let b = can_mark_below (n + 0) (n + 1) rows (omega arith) in
    rw (e, b) (or-false (not m))
can_mark_at n zero (Done job r ∷ rows) = can_mark_below (n + 0) (n + 1) rows (omega arith)
can_mark_at n (suc k) (Open job m ∷ rows) =
    let e : nat_eq n (n + suc k) ≡ false = grind (arith, nat_tests) in
    let s : n + suc k ≡ n + 1 + k = omega arith in
    rw e (ap (λ t. can_mark t (n + 1) rows) s ∙ can_mark_at (n + 1) k rows)
can_mark_at n (suc k) (Done job r ∷ rows) =
    let s : n + suc k ≡ n + 1 + k = omega arith in
    ap (λ t. can_mark t (n + 1) rows) s ∙ can_mark_at (n + 1) k rows

get_in : (k : ℕ) (rows : List code.Row) (r : code.Row) → k < length rows → r ≡ get_or rows k r → slice_get (rows_in rows) k ≡ Some (row_in r)
get_in k [] r h e = absurd (omega arith)
get_in zero (x ∷ rows) r h e = ap (λ y. Some (row_in y)) (sym e)
get_in (suc k) (x ∷ rows) r h e = get_in k rows r (omega arith) e

get_past : (k : ℕ) (rows : List code.Row) → length rows ≤ k → slice_get (rows_in rows) k ≡ None
get_past k [] h = refl
get_past zero (x ∷ rows) h = absurd (omega arith)
get_past (suc k) (x ∷ rows) h = get_past k rows (omega arith)

pub can_mark_in : (t n k : ℕ) (rows : List code.Row) (r : code.Row) → t ≡ n + k → k < length rows → r ≡ get_or rows k r → can_mark t n (rows_in rows) ≡ is_markable (Some (row_in r))
can_mark_in t n k rows r s h e = ap (λ t. can_mark t n (rows_in rows)) s ∙ can_mark_at n k (rows_in rows) ∙ ap is_markable (get_in k rows r h e)

pub can_mark_past : (t n k : ℕ) (rows : List code.Row) → t ≡ n + k → length rows ≤ k → can_mark t n (rows_in rows) ≡ false
can_mark_past t n k rows s h = ap (λ t. can_mark t n (rows_in rows)) s ∙ can_mark_at n k (rows_in rows) ∙ ap is_markable (get_past k rows h)

mark_below : (t n : ℕ) (rows : List Row) → t < n → mark t n rows ≡ rows
mark_below t n [] h = refl
mark_below t n (Open job m ∷ rows) h =
    let e : nat_eq n t ≡ false = grind (arith, nat_tests) in
    rw (e, or-false m, mark_below t (n + 1) rows (omega arith)) refl
mark_below t n (Done job r ∷ rows) h = rw (mark_below t (n + 1) rows (omega arith)) refl

mark_hits : (n : ℕ) (job : Job) (m : Bool) (o : Option Settled) (rows : List Row) → mark (n + 0) n (row_of job m o ∷ rows) ≡ row_of job true o ∷ rows
mark_hits n job m None rows =
    let e : nat_eq n (n + 0) ≡ true = grind (arith, nat_tests) in
    rw (e, or-true m, mark_below (n + 0) (n + 1) rows (omega arith)) refl
mark_hits n job m (Some o) rows = rw (mark_below (n + 0) (n + 1) rows (omega arith)) refl

mark_misses : (n k : ℕ) (job : Job) (m : Bool) (o : Option Settled) (rows : List Row) → mark (n + suc k) n (row_of job m o ∷ rows) ≡ row_of job m o ∷ mark (n + 1 + k) (n + 1) rows
mark_misses n k job m None rows =
    let e : nat_eq n (n + suc k) ≡ false = grind (arith, nat_tests) in
    let s : n + suc k ≡ n + 1 + k = omega arith in
    rw (e, or-false m) (ap (λ t. Open job m ∷ mark t (n + 1) rows) s)
mark_misses n k job m (Some o) rows =
    let s : n + suc k ≡ n + 1 + k = omega arith in
    ap (λ t. Done job (result_in o) ∷ mark t (n + 1) rows) s

abbrev pub marked_row : code.Row → code.Row
marked_row r = record { job = r.job; marked = true; outcome = r.outcome }

pub mark_at : (n k : ℕ) (rows : List code.Row) (r : code.Row) → k < length rows → r ≡ get_or rows k r → rows_in (set rows k (marked_row r)) ≡ mark (n + k) n (rows_in rows)
mark_at n k [] r h e = absurd (omega arith)
mark_at n zero (x ∷ rows) r h e = ap (λ y. row_in (marked_row y) ∷ rows_in rows) e ∙ sym (mark_hits n (model_job x.job) x.marked x.outcome (rows_in rows))
mark_at n (suc k) (x ∷ rows) r h e = ap (λ ys. row_in x ∷ ys) (mark_at (n + 1) k rows r (omega arith) e) ∙ sym (mark_misses n k (model_job x.job) x.marked x.outcome (rows_in rows))

pub mark_past : (n k : ℕ) (rows : List code.Row) → length rows ≤ k → mark (n + k) n (rows_in rows) ≡ rows_in rows
mark_past n k [] h = refl
mark_past n zero (x ∷ rows) h = absurd (omega arith)
mark_past n (suc k) (x ∷ rows) h = mark_misses n k (model_job x.job) x.marked x.outcome (rows_in rows) ∙ ap (λ ys. row_in x ∷ ys) (mark_past (n + 1) k rows (omega arith))

pub marks_row : (t : ℕ) (marks : Option ℕ) (rows : List code.Row) (r : code.Row) → marks ≡ Some t → t < length rows → r ≡ get_or rows t r → rows_in (set rows t (marked_row r)) ≡ mark_if marks (rows_in rows)
marks_row t marks rows r is h e =
    let z : 0 + t ≡ t = omega arith in
    mark_at 0 t rows r h e ∙ ap (λ t. mark t 0 (rows_in rows)) z ∙ ap (λ m. mark_if m (rows_in rows)) (sym is)

pub marks_past : (t : ℕ) (marks : Option ℕ) (rows : List code.Row) → marks ≡ Some t → length rows ≤ t → rows_in rows ≡ mark_if marks (rows_in rows)
marks_past t marks rows is h =
    let z : 0 + t ≡ t = omega arith in
    sym (mark_past 0 t rows h) ∙ ap (λ t. mark t 0 (rows_in rows)) z ∙ ap (λ m. mark_if m (rows_in rows)) (sym is)

abbrev pub place_if : Option Settled → Place → Option Place
place_if None p = Some p
place_if (Some o) p = None

abbrev pub place_in : List Row → List code.Row → ℕ → code.Row → Place
place_in front rows k r = record { before = front ++ rows_in (take k rows); job = model_job r.job; marked = r.marked; after = rows_in (drop (suc k) rows) }

place_hits : (front : List Row) (job : Job) (m : Bool) (o : Option Settled) (rows : List Row) → place_of front (row_of job m o ∷ rows) zero ≡ place_if o (record { before = front; job = job; marked = m; after = rows })
place_hits front job m None rows = refl
place_hits front job m (Some o) rows = refl

place_misses : (front : List Row) (k : ℕ) (job : Job) (m : Bool) (o : Option Settled) (rows : List Row) → place_of front (row_of job m o ∷ rows) (suc k) ≡ place_of (front ++ row_of job m o ∷ []) rows k
place_misses front k job m None rows = refl
place_misses front k job m (Some o) rows = refl

pub place_at : (front : List Row) (k : ℕ) (rows : List code.Row) (r : code.Row) → k < length rows → r ≡ get_or rows k r → place_of front (rows_in rows) k ≡ place_if r.outcome (place_in front rows k r)
place_at front k [] r h e = absurd (omega arith)
place_at front zero (x ∷ rows) r h e =
    place_hits front (model_job x.job) x.marked x.outcome (rows_in rows)
    ∙ ap (λ b. place_if x.outcome (record { before = b; job = model_job x.job; marked = x.marked; after = rows_in rows })) (sym (append-nil front))
    ∙ ap (λ y. place_if y.outcome (place_in front (x ∷ rows) 0 y)) (sym e)
place_at front (suc k) (x ∷ rows) r h e =
    place_misses front k (model_job x.job) x.marked x.outcome (rows_in rows)
    ∙ place_at (front ++ row_in x ∷ []) k rows r (omega arith) e
    ∙ ap (λ b. place_if r.outcome (record { before = b; job = model_job r.job; marked = r.marked; after = rows_in (drop (suc k) rows) })) (append_assoc front (row_in x ∷ []) (rows_in (take k rows)))

pub place_past : (front : List Row) (k : ℕ) (rows : List code.Row) → length rows ≤ k → place_of front (rows_in rows) k ≡ None
place_past front k [] h = refl
place_past front zero (x ∷ rows) h = absurd (omega arith)
place_past front (suc k) (x ∷ rows) h = place_misses front k (model_job x.job) x.marked x.outcome (rows_in rows) ∙ place_past (front ++ row_in x ∷ []) k rows (omega arith)

pub rows_put : (k : ℕ) (rows : List code.Row) (r : code.Row) → k < length rows → rows_in (set rows k r) ≡ rows_in (take k rows) ++ row_in r ∷ rows_in (drop (suc k) rows)
rows_put k [] r h = absurd (omega arith)
rows_put zero (x ∷ rows) r h = refl
rows_put (suc k) (x ∷ rows) r h = ap (λ ys. row_in x ∷ ys) (rows_put k rows r (omega arith))
