-- The offers of jobs.
use Rattle.std.proofs.Common.{◌≡◌, ℕ, zero, suc, ◌+◌, ◌<◌, ◌≤◌, Bool, true, false, ◌&&◌, ◌||◌, not, cond, nat_eq, nat_le, List, [], ◌∷◌, length, drop, Some, None, refl, ap, sym, subst, ◌∙◌, arith, slice_get, get_or, ◌⊎◌, inl, inr}
use Rattle.std.specs.Bool.{◌==◌}
use Rattle.std.proofs.lemmas.Option.{same_Some}
use Rattle.std.proofs.lemmas.Bool.Decides.{nat_tests}
use Rattle.uring_base.specs.declared.limits.TheConstants.{MAX_BUFFER}
use Rattle.uring_model.specs.declared.jobs.Job.{Job}
use Rattle.uring_model.specs.declared.jobs.JobKind.{JobKind}
use Rattle.uring_model.specs.declared.jobs.JobKind.TheVariants.{Nop, Read, Write, Fsync, Ftruncate, Cancel}
use Rattle.uring_model.specs.Jobs.{model_job, model_op, buf_lent, linked, moves_bytes, is_valid_op, is_valid_job, is_valid_at}
use Rattle.run_loop.specs.Entries.{offer_of, unlinked_if, offers_from, AllValid, IsInRange, AllInRange, first_bad}

and_first : (a b : Bool) → (a && b) ≡ true → a ≡ true
and_first true b e = refl
and_first false b e = e

at_fits : (offset : ℕ) (buf : List ℕ) → is_valid_at offset buf ≡ true → length buf ≤ MAX_BUFFER
at_fits offset buf e = let h : nat_le (length buf) MAX_BUFFER ≡ true = and_first _ _ e in grind (arith, nat_tests)

kind_fits : (kind : JobKind) → is_valid_op (model_op kind) (buf_lent kind) ≡ true → length (buf_lent kind) ≤ MAX_BUFFER
kind_fits Nop e = omega arith
kind_fits (Read file offset buf) e = at_fits offset buf e
kind_fits (Write file offset buf) e = at_fits offset buf e
kind_fits (Fsync file) e = omega arith
kind_fits (Ftruncate file len) e = omega arith
kind_fits (Cancel j) e = omega arith

-- a valid job's buffer is short enough for a length word
pub valid_fits : (last : Bool) (job : Job) → is_valid_job last (model_job job) ≡ true → length (buf_lent job.kind) ≤ MAX_BUFFER
valid_fits last job e = kind_fits job.kind (and_first _ _ e)

-- a valid quiet job moves no bytes, and has a link

silent_if : (v q bytes l last : Bool) → (v && (not q || (not bytes && l && not last))) ≡ true → q ≡ true → (bytes ≡ false) × (l ≡ true)
silent_if true true true l last e h = cc
silent_if true true false true last e h = (refl, refl)
silent_if true true false false last e h = cc
silent_if true false bytes l last e h = cc
silent_if false q bytes l last e h = cc

pub valid_silent : (last : Bool) (job : Job) → is_valid_job last (model_job job) ≡ true → job.quiet ≡ true → moves_bytes (model_op job.kind) ≡ false
valid_silent last job e q = (silent_if (is_valid_op (model_job job).op (model_job job).buf) job.quiet (moves_bytes (model_job job).op) (linked job.link) last e q).0

pub valid_link : (last : Bool) (job : Job) → is_valid_job last (model_job job) ≡ true → job.quiet ≡ true → linked job.link ≡ true
valid_link last job e q = (silent_if (is_valid_op (model_job job).op (model_job job).buf) job.quiet (moves_bytes (model_job job).op) (linked job.link) last e q).1

pub none_bad : (n : ℕ) (jobs : List Job) → first_bad n jobs ≡ None → AllValid jobs
none_bad n [] e = tt
none_bad n (job ∷ jobs) e = elim (is_valid_job (nat_eq (length jobs) 0) (model_job job)) as (λ b. cond b (first_bad (n + 1) jobs) (Some n) ≡ None → (b ≡ true) × AllValid jobs) [
  | true ↦ λ h. (refl, none_bad (n + 1) jobs h)
  | false ↦ λ h. let bad : Some n ≡ None = h in cc
] e

pub bad_next : (n : ℕ) (job : Job) (jobs : List Job) → is_valid_job (nat_eq (length jobs) 0) (model_job job) ≡ true → first_bad n (job ∷ jobs) ≡ first_bad (n + 1) jobs
bad_next n job jobs e = rw e refl

pub bad_here : (n : ℕ) (job : Job) (jobs : List Job) → is_valid_job (nat_eq (length jobs) 0) (model_job job) ≡ false → first_bad n (job ∷ jobs) ≡ Some n
bad_here n job jobs e = rw e refl

-- behind the end no job is bad
pub past_end : (n i : ℕ) (jobs : List Job) → length jobs ≤ i → first_bad n (drop i jobs) ≡ None
past_end n zero [] h = refl
past_end n (suc i) [] h = refl
past_end n zero (job ∷ jobs) h = absurd (omega arith)
past_end n (suc i) (job ∷ jobs) h = past_end n i jobs (omega arith)

-- what holds of each job passed holds of all
pub all_in_range : (jobs : List Job) → ((k : ℕ) (job : Job) → slice_get jobs k ≡ Some job → IsInRange job.kind) → AllInRange jobs
all_in_range [] f = tt
all_in_range (job ∷ jobs) f = (f 0 job refl, all_in_range jobs (λ k j e. f (suc k) j e))

at_index : {A : Type 0} (xs : List A) (i : ℕ) (x y : A) → slice_get xs i ≡ Some y → x ≡ get_or xs i x → x ≡ y
at_index [] i x y e h = cc
at_index (z ∷ xs) zero x y e h = h ∙ same_Some z y e
at_index (z ∷ xs) (suc i) x y e h = at_index xs i x y e h

drop_at : {A : Type 0} (xs : List A) (i : ℕ) (x : A) → i < length xs → x ≡ get_or xs i x → drop i xs ≡ x ∷ drop (i + 1) xs
drop_at [] i x h e = absurd (omega arith)
drop_at (z ∷ xs) zero x h e = ap (λ y. y ∷ xs) (sym e)
drop_at (z ∷ xs) (suc i) x h e = drop_at xs i x (omega arith) e ∙ ap (λ n. x ∷ drop n (z ∷ xs)) (let n : suc (i + 1) ≡ suc i + 1 = omega arith in n)

-- a job is the last one exactly where none is behind it

last_behind : {A : Type 0} (xs : List A) (i : ℕ) → i < length xs → nat_eq (suc i) (length xs) ≡ nat_eq (length (drop (suc i) xs)) 0
last_behind [] i h = absurd (omega arith)
last_behind (x ∷ xs) zero h = grind (arith, nat_tests)
last_behind (x ∷ xs) (suc i) h =
    let next : nat_eq (suc (suc i)) (suc (length xs)) ≡ nat_eq (suc i) (length xs) = grind (arith, nat_tests) in
    next ∙ last_behind xs i (omega (arith, h))

last_at : (jobs : List Job) (i : ℕ) → i < length jobs → nat_eq (i + 1) (length jobs) ≡ nat_eq (length (drop (i + 1) jobs)) 0
last_at jobs i h = let e : suc i ≡ i + 1 = omega arith in subst (λ n. nat_eq n (length jobs) ≡ nat_eq (length (drop n jobs)) 0) e (last_behind jobs i h)

-- one more job that is valid and in range
pub bad_step : (jobs : List Job) (i : ℕ) (job : Job) → i < length jobs → job ≡ get_or jobs i job → is_valid_job (nat_eq (i + 1) (length jobs)) (model_job job) ≡ true → first_bad i (drop i jobs) ≡ first_bad (i + 1) (drop (i + 1) jobs)
bad_step jobs i job h e v = ap (first_bad i) (drop_at jobs i job h e) ∙ bad_next i job (drop (i + 1) jobs) (ap (λ b. is_valid_job b (model_job job)) (sym (last_at jobs i h)) ∙ v)

pub bad_found : (jobs : List Job) (i : ℕ) (job : Job) → i < length jobs → job ≡ get_or jobs i job → is_valid_job (nat_eq (i + 1) (length jobs)) (model_job job) ≡ false → first_bad i (drop i jobs) ≡ Some i
bad_found jobs i job h e v = ap (first_bad i) (drop_at jobs i job h e) ∙ bad_here i job (drop (i + 1) jobs) (ap (λ b. is_valid_job b (model_job job)) (sym (last_at jobs i h)) ∙ v)

pub range_step : (jobs : List Job) (i : ℕ) (job : Job) → job ≡ get_or jobs i job → IsInRange job.kind → ((k : ℕ) (x : Job) → k < i → slice_get jobs k ≡ Some x → IsInRange x.kind)
    → (k : ℕ) (x : Job) → k < i + 1 → slice_get jobs k ≡ Some x → IsInRange x.kind
range_step jobs i job e r f k x h g = elim (below_or k i h) [
  | inl p ↦ f k x p g
  | inr q ↦ subst (λ y. IsInRange y.kind) (at_index jobs i job x (ap (slice_get jobs) (sym q) ∙ g) e) r
]
  where
    below_or : (k i : ℕ) → k < i + 1 → (k < i) ⊎ (k ≡ i)
    below_or zero zero h = inr refl
    below_or zero (suc i) h = inl (omega arith)
    below_or (suc k) zero h = absurd (omega arith)
    below_or (suc k) (suc i) h = elim (below_or k i (omega arith)) [ inl p ↦ inl (omega (arith, p)) | inr q ↦ inr (ap suc q) ]

inside : {A : Type 0} (xs : List A) (k : ℕ) (x : A) → slice_get xs k ≡ Some x → k < length xs
inside [] k x e = cc
inside (y ∷ xs) zero x e = omega arith
inside (y ∷ xs) (suc k) x e = omega (arith, inside xs k x e)

pub range_end : (jobs : List Job) (i : ℕ) → length jobs ≤ i → ((k : ℕ) (x : Job) → k < i → slice_get jobs k ≡ Some x → IsInRange x.kind) → AllInRange jobs
range_end jobs i h f = all_in_range jobs (λ k x e. f k x (omega (arith, inside jobs k x e, h)) e)

pub offers_count : (n : ℕ) (jobs : List Job) → length (offers_from n jobs) ≡ length jobs
offers_count n [] = refl
offers_count n (job ∷ []) = refl
offers_count n (job ∷ next ∷ jobs) = ap suc (offers_count (n + 1) (next ∷ jobs))

-- the job in front and the others

front_of : (n : ℕ) (job front : Job) (jobs : List Job) (empty : Bool) → empty ≡ nat_eq (length jobs) 0 → front ≡ unlinked_if empty job → offers_from n (job ∷ jobs) ≡ offer_of n front ∷ offers_from (n + 1) jobs
front_of n job front [] empty e f = ap (λ j. offer_of n j ∷ []) (sym (f ∙ ap (λ b. unlinked_if b job) e))
front_of n job front (next ∷ jobs) empty e f =
    let some : nat_eq (length (next ∷ jobs)) 0 ≡ false = grind (arith, nat_tests) in
    ap (λ j. offer_of n j ∷ offers_from (n + 1) (next ∷ jobs)) (sym (f ∙ ap (λ b. unlinked_if b job) (e ∙ some)))

pub front_offer : (n : ℕ) (job front : Job) (all jobs : List Job) (len : ℕ) (empty : Bool) → all ≡ job ∷ jobs → len ≡ length jobs → empty ≡ (len == 0) → front ≡ unlinked_if empty job → offers_from n all ≡ offer_of n front ∷ offers_from (n + 1) jobs
front_offer n job front all jobs len empty a l e f = ap (offers_from n) a ∙ front_of n job front jobs empty (e ∙ same_test len (length jobs) l) f
  where
    same_test : (m k : ℕ) → m ≡ k → (m == 0) ≡ nat_eq k 0
    same_test m k h = grind (arith, nat_tests, h)
