-- The list of jobs, one more at a time; and what holds of each.
use Rattle.std.proofs.Common.{◌≡◌, ℕ, ◌+◌, ◌-◌, ◌/◌, ◌%◌, ◌<◌, ◌≤◌, zero, suc, Bool, true, false, ◌&&◌, cond, nat_eq, nat_le, length, replicate, List, [], ◌∷◌, ◌++◌, refl, ap, sym, ◌∙◌, arith, append_assoc}
use Rattle.std.proofs.Math.Nat.{mod-lt}
use Rattle.std.proofs.lemmas.List.{length-replicate}
use Rattle.std.proofs.lemmas.Bool.Decides.{nat_tests}
use Rattle.std.specs.List.{AllByRecursion}
use Rattle.uring_base.specs.declared.limits.TheConstants.{MAX_BUFFER, MAX_POSITION}
use Rattle.uring_model.specs.declared.jobs.Job.{Job}
use Rattle.uring_model.specs.declared.jobs.JobKind.{JobKind}
use Rattle.uring_model.specs.Jobs.{model_op, buf_lent, model_job, is_valid_at, is_valid_op, is_valid_job}
use Rattle.job_generator.specs.Generator.{first, next, kind_by, job_by, jobs_from, generated}

pub one_more : (i x y count : ℕ) (job : Job) (xs ys : List Job) → i < count → y ≡ next x → job ≡ job_by i y → ys ≡ xs ++ job ∷ [] → xs ++ jobs_from i x (count - i) ≡ ys ++ jobs_from (i + 1) y (count - (i + 1))
one_more i x y count job xs ys h ey ej es =
    let k : count - i ≡ suc (count - (i + 1)) = omega arith in
    let one : job ≡ job_by i (next x) = ej ∙ ap (job_by i) ey in
    ap (λ n. xs ++ jobs_from i x n) k
    ∙ sym (append_assoc xs (job_by i (next x) ∷ []) (jobs_from (i + 1) (next x) (count - (i + 1))))
    ∙ (λ t. (xs ++ sym one t ∷ []) ++ jobs_from (i + 1) (sym ey t) (count - (i + 1)))
    ∙ ap (λ l. l ++ jobs_from (i + 1) y (count - (i + 1))) (sym es)

IsValidKind : JobKind → Type 0
IsValidKind kind = is_valid_op (model_op kind) (buf_lent kind) ≡ true

either : {A : Type 0} (P : A → Type 0) (b : Bool) (x y : A) → P x → P y → P (cond b x y)
either P true x y p q = p
either P false x y p q = q

both : (a b : Bool) → a ≡ true → b ≡ true → (a && b) ≡ true
both a b p q = rw (p, q) refl

no_more : (n limit : ℕ) → n ≤ limit → nat_le n limit ≡ true
no_more n limit h = grind (arith, nat_tests)

fits : (offset : ℕ) (count : ℕ) (byte : ℕ) → offset < 4096 → count < 65 → is_valid_at offset (replicate count byte) ≡ true
fits offset count byte h k =
    let n : length (replicate count byte) ≡ count = length-replicate count byte in
    let size : nat_le (length (replicate count byte)) MAX_BUFFER ≡ true = no_more (length (replicate count byte)) MAX_BUFFER (omega (arith, n, k)) in
    let end : nat_le (offset + length (replicate count byte)) MAX_POSITION ≡ true = no_more (offset + length (replicate count byte)) MAX_POSITION (omega (arith, n, h, k)) in
    both _ _ size end

valid_kind : (choice i x : ℕ) → IsValidKind (kind_by choice i x)
unfolding IsValidKind
valid_kind choice i x =
    let place = mod-lt x {m = 4096} (omega arith) in
    let read = mod-lt (x / 4096) {m = 64} (omega arith) in
    let written = mod-lt (x / 4096) {m = 16} (omega arith) in
    either IsValidKind (nat_eq choice 0) _ _ refl
    (either IsValidKind (nat_eq choice 1) _ _ (fits (x % 4096) (x / 4096 % 64) 0 place (omega (arith, read)))
    (either IsValidKind (nat_eq choice 2) _ _ (fits (x % 4096) (x / 4096 % 16 + 1) (x / 16 % 256) place (omega (arith, written)))
    (either IsValidKind (nat_eq choice 3) _ _ refl
    (either IsValidKind (nat_eq choice 4) _ _ (no_more (x % 4096) MAX_POSITION (omega (arith, place))) refl))))

valid_from : (i x count : ℕ) → AllByRecursion (λ job. ((is_last : Bool) → is_valid_job is_last (model_job job) ≡ true) × (job.quiet ≡ false)) (jobs_from i x count) × (length (jobs_from i x count) ≡ count)
unfolding IsValidKind
valid_from i x zero = (tt, refl)
valid_from i x (suc count) =
    let more = valid_from (i + 1) (next x) count in
    (((λ is_last. both _ _ (valid_kind (next x / 65536 % 6) i (next x)) refl, refl), more.0), ap suc more.1)

pub valid_jobs : (count : ℕ) → AllByRecursion (λ job. ((is_last : Bool) → is_valid_job is_last (model_job job) ≡ true) × (job.quiet ≡ false)) (generated count) × (length (generated count) ≡ count)
valid_jobs count = valid_from 0 first count
