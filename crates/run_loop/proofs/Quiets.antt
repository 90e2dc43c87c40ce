-- Which jobs are quiet, by the jobs, by their offers and by the entries.
use Rattle.std.proofs.Common.{◌≡◌, ℕ, ◌+◌, zero, suc, Bool, true, false, ◌&&◌, ◌||◌, not, nat_eq, List, [], ◌∷◌, length, map, refl, ap, sym, ◌∙◌, arith}
use Rattle.std.specs.List.{AllByRecursion, list_any}
use Rattle.std.proofs.lemmas.Bool.Decides.{nat_tests}
use Rattle.uring_base.specs.declared.events.Taken.{Taken}
use Rattle.uring_model.specs.declared.jobs.Job.{Job}
use Rattle.uring_model.specs.Jobs.{model_job, model_jobs, model_op, linked, moves_bytes, is_valid_op, quiets_are_linked, quiets_of}
use Rattle.uring_model.specs.Partner.{job_of}
use Rattle.uring_model.specs.Explained.{Numbered}
use Rattle.run_loop.specs.Entries.{offers_from, quiets_in, AllValid}
use Rattle.run_loop.proofs.Posts.{last_is_quiet}

-- the number of a job among marks
abbrev pub quiet_at : List Bool → ℕ → Bool
quiet_at [] k = false
quiet_at (q ∷ quiets) zero = q
quiet_at (q ∷ quiets) (suc k) = quiet_at quiets k

pub quiets_jobs : (n : ℕ) (jobs : List Job) → quiets_in (offers_from n jobs) ≡ quiets_of (model_jobs jobs)
quiets_jobs n [] = refl
quiets_jobs n (job ∷ []) = refl
quiets_jobs n (job ∷ next ∷ jobs) = ap (λ l. job.quiet ∷ l) (quiets_jobs (n + 1) (next ∷ jobs))

-- a valid quiet job is linked, moves no bytes and isn't the last

linked_if : (v q bytes l last : Bool) → (v && (not q || (not bytes && l && not last))) ≡ true → (not q || l) ≡ true
linked_if true true true l last e = cc
linked_if true true false true last e = refl
linked_if true true false false last e = cc
linked_if true false bytes l last e = refl
linked_if false q bytes l last e = cc

silent_if : (v q bytes l last : Bool) → (v && (not q || (not bytes && l && not last))) ≡ true → q ≡ true → bytes ≡ false
silent_if true true true l last e h = cc
silent_if true true false l last e h = refl
silent_if true false bytes l last e h = cc
silent_if false q bytes l last e h = cc

last_if : (v q bytes l : Bool) → (v && (not q || (not bytes && l && false))) ≡ true → not q ≡ true
last_if true true true l e = cc
last_if true true false true e = cc
last_if true true false false e = cc
last_if true false bytes l e = refl
last_if false q bytes l e = cc

both_true : (b c : Bool) → b ≡ true → c ≡ true → (b && c) ≡ true
both_true b c e f = rw (e, f) refl

pub valid_linked : (jobs : List Job) → AllValid jobs → quiets_are_linked (model_jobs jobs) ≡ true
valid_linked [] v = refl
valid_linked (job ∷ []) v = last_if (is_valid_op (model_job job).op (model_job job).buf) job.quiet (moves_bytes (model_job job).op) (linked job.link) v.0
valid_linked (job ∷ next ∷ jobs) v =
    both_true (not job.quiet || linked job.link) (quiets_are_linked (model_jobs (next ∷ jobs)))
    (linked_if (is_valid_op (model_job job).op (model_job job).buf) job.quiet (moves_bytes (model_job job).op) (linked job.link) (nat_eq (length (next ∷ jobs)) 0) v.0) (valid_linked (next ∷ jobs) v.1)

and_right : (b c : Bool) → (b && c) ≡ true → c ≡ true
and_right true c e = e
and_right false c e = cc

never : (q : Bool) → not q ≡ true → q ≡ false
never true e = cc
never false e = refl

last_loud : (jobs : List Job) → quiets_are_linked (model_jobs jobs) ≡ true → last_is_quiet (quiets_of (model_jobs jobs)) ≡ false
last_loud [] h = refl
last_loud (job ∷ []) h = never job.quiet h
last_loud (job ∷ next ∷ jobs) h = last_loud (next ∷ jobs) (and_right (not job.quiet || linked job.link) (quiets_are_linked (model_jobs (next ∷ jobs))) h)

pub loud_last : (n : ℕ) (jobs : List Job) → AllValid jobs → last_is_quiet (quiets_in (offers_from n jobs)) ≡ false
loud_last n jobs v = ap last_is_quiet (quiets_jobs n jobs) ∙ last_loud jobs (valid_linked jobs v)

abbrev pub MovesNone : Job → Type 0
MovesNone job = job.quiet ≡ true → moves_bytes (model_op job.kind) ≡ false

pub quiets_move_none : (jobs : List Job) → AllValid jobs → AllByRecursion MovesNone jobs
quiets_move_none [] v = tt
quiets_move_none (job ∷ jobs) v = (silent_if (is_valid_op (model_job job).op (model_job job).buf) job.quiet (moves_bytes (model_job job).op) (linked job.link) (nat_eq (length jobs) 0) v.0, quiets_move_none jobs v.1)

-- the entries are quiet by their numbers
pub quiets_named : (quiet : ℕ → Bool) (n : ℕ) (ts : List Taken) → ((i : ℕ) → quiet (n + i) ≡ quiet_at (quiets_of (map job_of ts)) i) → Numbered n ts → AllByRecursion (λ t. (job_of t).quiet ≡ quiet t.entry.user_data) ts
quiets_named quiet n [] f h = tt
quiets_named quiet n (t ∷ ts) f h =
    let here : n + 0 ≡ t.entry.user_data = omega (arith, h.0) in
    (sym (f 0) ∙ ap quiet here, quiets_named quiet (n + 1) ts (λ i. let e : n + 1 + i ≡ n + suc i = omega arith in ap quiet e ∙ f (suc i)) h.1)

-- the jobs by number
abbrev pub AreQuiets : (ℕ → Bool) → ℕ → List Job → Type 0
AreQuiets quiet n [] = Unit {0}
AreQuiets quiet n (job ∷ jobs) = (quiet n ≡ job.quiet) × AreQuiets quiet (n + 1) jobs

pub are_quiets : (quiet : ℕ → Bool) (n : ℕ) (jobs : List Job) → ((i : ℕ) → quiet (n + i) ≡ quiet_at (quiets_of (model_jobs jobs)) i) → AreQuiets quiet n jobs
are_quiets quiet n [] f = tt
are_quiets quiet n (job ∷ jobs) f =
    let here : n ≡ n + 0 = omega arith in
    (ap quiet here ∙ f 0, are_quiets quiet (n + 1) jobs (λ i. let e : n + 1 + i ≡ n + suc i = omega arith in ap quiet e ∙ f (suc i)))

pub any_holds : (p : ℕ → Bool) (k : ℕ) (ns : List ℕ) → AllByRecursion (λ n. p n ≡ true) ns → list_any (nat_eq k) ns ≡ true → p k ≡ true
any_holds p k [] h e = cc
any_holds p k (n ∷ ns) h e = here (nat_eq k n) refl e (any_holds p k ns h.1)
  where
    here : (b : Bool) → nat_eq k n ≡ b → (b || list_any (nat_eq k) ns) ≡ true → (list_any (nat_eq k) ns ≡ true → p k ≡ true) → p k ≡ true
    here true q e f = let same : k ≡ n = grind (arith, nat_tests) in ap p same ∙ h.0
    here false q e f = f e

pub quiets_plain : (jobs : List Job) → quiets_in (offers_from 0 jobs) ≡ map (λ job. job.quiet) jobs
quiets_plain jobs = quiets_jobs 0 jobs ∙ plain jobs
  where
    plain : (jobs : List Job) → quiets_of (model_jobs jobs) ≡ map (λ job. job.quiet) jobs
    plain [] = refl
    plain (job ∷ jobs) = ap (λ l. job.quiet ∷ l) (plain jobs)
