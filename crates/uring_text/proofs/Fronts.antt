-- The first lines of a script are a script.
use Rattle.std.proofs.Common.{◌≡◌, ℕ, Bool, true, false, not, leb, ◌&&◌, ◌||◌, List, [], ◌∷◌, ◌++◌, length, sum_by, Some, None, refl, sym, ap, ◌∙◌, arith}
use Rattle.std.specs.Prelude.{Option, IsSome, ◌==◌}
use Rattle.std.proofs.lemmas.Bool.{and_parts}
use Rattle.std.proofs.lemmas.Bool.Decides.{nat_tests}
use Rattle.std.proofs.lemmas.Option.{cond_some}
use Rattle.std.proofs.lemmas.List.{length-append}
use Rattle.std.proofs.lemmas.List.Folds.{list_any-append}
use Rattle.std.proofs.lemmas.List.Sums.{sum_by-append}
use Rattle.uring_text.specs.declared.script.Seed.{Seed}
use Rattle.uring_model.specs.declared.jobs.Job.{Job}
use Rattle.uring_text.specs.declared.script.Line.{Line}
use Rattle.uring_text.specs.declared.script.Line.TheVariants as line
use Rattle.uring_text.specs.declared.limits.TheConstants.{MAX_FILES, MAX_JOBS, MAX_JOB_BYTES}
use Rattle.uring_text.specs.Script.{◌>>=◌, line_says, lines_say, Told, files_of, choices_of, jobs_of, buffer_len, has_number, numbers_differ, is_within_limits, script_of}
use Rattle.uring_text.proofs.Steps.{bind_some, some_is, limits, within_is, tell, checked}

said_first : (o : Option Line) (p : Option (List Line)) (x : Line) (others : List Line) → o ≡ Some x → p ≡ Some others → (o >>= λ first. p >>= λ ls. Some (first ∷ ls)) ≡ Some (x ∷ others)
said_first o p x others e f = rw (e, f) refl

-- what the first lines say is said first
lines_front : (front rest : List (List ℕ)) (all : List Line) → lines_say (front ++ rest) ≡ Some all → (said : List Line) × (more : List Line) × (lines_say front ≡ Some said) × (all ≡ said ++ more)
unfolding lines_say
lines_front [] rest all e = ([], all, refl, refl)
lines_front (x ∷ xs) rest all e =
    let a = bind_some (line_says x) (λ first. lines_say (xs ++ rest) >>= λ others. Some (first ∷ others)) all e in
    let b = bind_some (lines_say (xs ++ rest)) (λ others. Some (a.0 ∷ others)) all a.2 in
    let c = lines_front xs rest b.0 b.1 in
    (a.0 ∷ c.0, c.1, said_first (line_says x) (lines_say xs) a.0 c.0 a.1 c.2, sym (some_is (a.0 ∷ b.0) all b.2) ∙ ap (λ (ls : List Line). a.0 ∷ ls) c.3)

files_append : (said more : List Line) → files_of (said ++ more) ≡ files_of said ++ files_of more
files_append [] more = refl
files_append (line.Blank ∷ said) more = files_append said more
files_append (line.File seed ∷ said) more = ap (λ (fs : List Seed). seed ∷ fs) (files_append said more)
files_append (line.Choose c ∷ said) more = files_append said more
files_append (line.Job job ∷ said) more = files_append said more

jobs_append : (said more : List Line) → jobs_of (said ++ more) ≡ jobs_of said ++ jobs_of more
jobs_append [] more = refl
jobs_append (line.Blank ∷ said) more = jobs_append said more
jobs_append (line.File seed ∷ said) more = jobs_append said more
jobs_append (line.Choose c ∷ said) more = jobs_append said more
jobs_append (line.Job job ∷ said) more = ap (λ (js : List Job). job ∷ js) (jobs_append said more)

short : {X : Type 0} (xs ys : List X) (most : ℕ) → leb (length (xs ++ ys)) most ≡ true → leb (length xs) most ≡ true
short {X} xs ys most e = grind (arith, nat_tests, length-append xs ys)

no_other : (a b : Bool) → not (a || b) ≡ true → not a ≡ true
no_other true b e = e
no_other false b e = refl

both : (a b : Bool) → a ≡ true → b ≡ true → (a && b) ≡ true
both a b p q = rw (p, q) refl

differ_front : (xs ys : List Seed) → numbers_differ (xs ++ ys) ≡ true → numbers_differ xs ≡ true
differ_front [] ys e = refl
differ_front (x ∷ xs) ys e =
    let a = and_parts (not (has_number x.number (xs ++ ys))) (numbers_differ (xs ++ ys)) e in
    let b : not (has_number x.number xs || has_number x.number ys) ≡ true = ap not (sym (list_any-append (λ (y : Seed). y.number == x.number) xs ys)) ∙ a.0 in
    both _ _ (no_other _ _ b) (differ_front xs ys a.1)

less : (jobs more : List Job) (most : ℕ) → leb (sum_by buffer_len (jobs ++ more)) most ≡ true → leb (sum_by buffer_len jobs) most ≡ true
less jobs more most e = grind (arith, nat_tests, sum_by-append buffer_len jobs more)

front_within : (said more : List Line) → is_within_limits (tell (said ++ more)) ≡ true → is_within_limits (tell said) ≡ true
front_within said more e =
    let w = limits (files_of (said ++ more)) (choices_of (said ++ more)) (jobs_of (said ++ more)) e in
    let files = files_append said more in
    let jobs = jobs_append said more in
    within_is (files_of said) (choices_of said) (jobs_of said) (
      short (files_of said) (files_of more) MAX_FILES (rw files at w.0),
      differ_front (files_of said) (files_of more) (rw files at w.1),
      short (jobs_of said) (jobs_of more) MAX_JOBS (rw jobs at w.2),
      less (jobs_of said) (jobs_of more) MAX_JOB_BYTES (rw jobs at w.3),
    )

there : (o : Option Told) → IsSome o → (told : Told) × (o ≡ Some told)
there (Some told) e = (told, refl)
there None e = absurd cc

is_there : (o : Option Told) (told : Told) → o ≡ Some told → IsSome o
is_there (Some t) told e = refl
is_there None told e = absurd cc

pub front_is_script : (front rest : List (List ℕ)) → IsSome (script_of (front ++ rest)) → IsSome (script_of front)
unfolding script_of
front_is_script front rest e =
    let t = there (script_of (front ++ rest)) e in
    let a = bind_some (lines_say (front ++ rest)) (λ said. checked (tell said)) t.0 t.1 in
    let b = lines_front front rest a.0 a.1 in
    let whole = (cond_some (is_within_limits (tell a.0)) (tell a.0) t.0 a.2).0 in
    let ok = front_within b.0 b.1 (rw b.3 at whole) in
    is_there (script_of front) (tell b.0) (rw (b.2, ok) refl)
