-- A script goes on by one line.
use Rattle.std.proofs.Common.{◌≡◌, ℕ, ◌+◌, Bool, true, false, cond, not, ltb, leb, ◌&&◌, ◌||◌, List, [], ◌∷◌, ◌++◌, length, sum_by, Some, None, subst, refl, ap, ◌∙◌, arith, add-one}
use Rattle.std.specs.Prelude.{Option, nat_le, nat_lt, ◌==◌}
use Rattle.std.proofs.lemmas.Bool.{and_parts}
use Rattle.std.proofs.lemmas.Bool.Decides.{nat_tests}
use Rattle.std.proofs.lemmas.Option.{cond_some}
use Rattle.std.proofs.lemmas.List.Folds.{list_any-append}
use Rattle.std.proofs.lemmas.List.Sums.{sum_by_push}
use Rattle.std.proofs.lemmas.List.{append-nil, length-append}
use Rattle.uring_text.specs.declared.script.Seed.{Seed}
use Rattle.uring_model.specs.declared.jobs.Job.{Job}
use Rattle.uring_text.specs.declared.script.Line.{Line}
use Rattle.uring_text.specs.declared.script.Line.TheVariants as line
use Rattle.uring_text.specs.declared.limits.TheConstants.{MAX_FILES, MAX_JOBS, MAX_JOB_BYTES}
use Rattle.uring_text.specs.Script.{◌>>=◌, line_says, lines_say, Told, files_of, choices_of, jobs_of, buffer_len, has_number, numbers_differ, is_within_limits, script_of}
use Rattle.uring_text.specs.Adding.{adds}

pub bind_some : {A B : Type 0} (o : Option A) (f : A → Option B) (y : B) → (o >>= f) ≡ Some y → (x : A) × (o ≡ Some x) × (f x ≡ Some y)
bind_some (Some x) f y e = (x, refl, e)
bind_some None f y e = absurd cc

abbrev pub there : {A : Type 0} → A → Option A
there x = Some x

pub some_is : {A : Type 0} (x y : A) → there x ≡ there y → x ≡ y
some_is x y e = cc

push_in : (a c : Option Line) (b : Option (List Line)) → (a >>= λ first. (b >>= λ said. c >>= λ l. Some (said ++ l ∷ [])) >>= λ others. Some (first ∷ others)) ≡ ((a >>= λ first. b >>= λ others. Some (first ∷ others)) >>= λ said. c >>= λ l. Some (said ++ l ∷ []))
push_in None c b = refl
push_in (Some x) c None = refl
push_in (Some x) None (Some said) = refl
push_in (Some x) (Some l) (Some said) = refl

single : (o : Option Line) → (o >>= λ first. Some (first ∷ [])) ≡ (o >>= λ l. Some ([] ++ l ∷ []))
single None = refl
single (Some l) = refl

lines_push : (front : List (List ℕ)) (text : List ℕ) → lines_say (front ++ text ∷ []) ≡ (lines_say front >>= λ said. line_says text >>= λ l. Some (said ++ l ∷ []))
unfolding lines_say
lines_push [] text = single (line_says text)
lines_push (x ∷ xs) text = rw (lines_push xs text) (push_in (line_says x) (line_says text) (lines_say xs))

files_push : (said : List Line) (l : Line) → files_of (said ++ l ∷ []) ≡ files_of said ++ files_of (l ∷ [])
files_push [] l = refl
files_push (line.Blank ∷ said) l = files_push said l
files_push (line.File seed ∷ said) l = ap (λ (fs : List Seed). seed ∷ fs) (files_push said l)
files_push (line.Choose c ∷ said) l = files_push said l
files_push (line.Job job ∷ said) l = files_push said l

choices_push : (said : List Line) (l : Line) → choices_of (said ++ l ∷ []) ≡ choices_of said ++ choices_of (l ∷ [])
choices_push [] l = refl
choices_push (line.Blank ∷ said) l = choices_push said l
choices_push (line.File seed ∷ said) l = choices_push said l
choices_push (line.Choose c ∷ said) l = ap (λ (cs : List ℕ). c ∷ cs) (choices_push said l)
choices_push (line.Job job ∷ said) l = choices_push said l

jobs_push : (said : List Line) (l : Line) → jobs_of (said ++ l ∷ []) ≡ jobs_of said ++ jobs_of (l ∷ [])
jobs_push [] l = refl
jobs_push (line.Blank ∷ said) l = jobs_push said l
jobs_push (line.File seed ∷ said) l = jobs_push said l
jobs_push (line.Choose c ∷ said) l = jobs_push said l
jobs_push (line.Job job ∷ said) l = ap (λ (js : List Job). job ∷ js) (jobs_push said l)

regroup : (a e d h : Bool) → (not (a || e) && (d && not h)) ≡ ((not a && d) && not (e || h))
regroup true e d h = refl
regroup false true true h = refl
regroup false true false h = refl
regroup false false true h = refl
regroup false false false h = refl

or_none : (b : Bool) → (b || false) ≡ b
or_none true = refl
or_none false = refl

turned : (a b : ℕ) → (a == b || false) ≡ (b == a)
turned a b = or_none (a == b) ∙ grind (arith, nat_tests)

differ_push : (files : List Seed) (s : Seed) → numbers_differ (files ++ s ∷ []) ≡ (numbers_differ files && not (has_number s.number files))
differ_push [] s = refl
differ_push (x ∷ xs) s =
    let same : has_number x.number (xs ++ s ∷ []) ≡ (has_number x.number xs || (x.number == s.number)) = list_any-append (λ (y : Seed). y.number == x.number) xs (s ∷ []) ∙ ap (λ (b : Bool). has_number x.number xs || b) (turned s.number x.number) in
    rw (same, differ_push xs s) (regroup (has_number x.number xs) (x.number == s.number) (numbers_differ xs) (has_number s.number xs))

and_yes : (b : Bool) → (b && true) ≡ b
and_yes true = refl
and_yes false = refl

one_more : {X : Type 0} (xs : List X) (x : X) (most : ℕ) → leb (length (xs ++ x ∷ [])) most ≡ ltb (length xs) most
one_more xs x most = ap (λ (k : ℕ). leb k most) (length-append xs (x ∷ []) ∙ add-one (length xs))

-- the limits, one by one
abbrev pub Within : List Seed → List Job → Type 0
Within files jobs = (leb (length files) MAX_FILES ≡ true) × (numbers_differ files ≡ true) × (leb (length jobs) MAX_JOBS ≡ true) × (leb (sum_by buffer_len jobs) MAX_JOB_BYTES ≡ true)

pub limits : (files : List Seed) (choices : List ℕ) (jobs : List Job) → is_within_limits (record { files = files; choices = choices; jobs = jobs }) ≡ true → Within files jobs
limits files choices jobs e =
    let a = and_parts (leb (length files) MAX_FILES && numbers_differ files && leb (length jobs) MAX_JOBS) (leb (sum_by buffer_len jobs) MAX_JOB_BYTES) e in
    let b = and_parts (leb (length files) MAX_FILES && numbers_differ files) (leb (length jobs) MAX_JOBS) a.0 in
    let c = and_parts (leb (length files) MAX_FILES) (numbers_differ files) b.0 in
    (c.0, c.1, b.1, a.1)

pub within_is : (files : List Seed) (choices : List ℕ) (jobs : List Job) → Within files jobs → is_within_limits (record { files = files; choices = choices; jobs = jobs }) ≡ true
within_is files choices jobs w = rw (w.0, w.1, w.2, w.3) refl

within_file : (files : List Seed) (choices : List ℕ) (jobs : List Job) (s : Seed) → is_within_limits (record { files = files; choices = choices; jobs = jobs }) ≡ true → is_within_limits (record { files = files ++ s ∷ []; choices = choices; jobs = jobs }) ≡ (nat_lt (length files) MAX_FILES && not (has_number s.number files))
within_file files choices jobs s e =
    let w = limits files choices jobs e in
    rw (one_more files s MAX_FILES, differ_push files s, w.1, w.2, w.3) (and_yes _ ∙ and_yes _)

within_job : (files : List Seed) (choices : List ℕ) (jobs : List Job) (j : Job) → is_within_limits (record { files = files; choices = choices; jobs = jobs }) ≡ true → is_within_limits (record { files = files; choices = choices; jobs = jobs ++ j ∷ [] }) ≡ (nat_lt (length jobs) MAX_JOBS && nat_le (sum_by buffer_len jobs + buffer_len j) MAX_JOB_BYTES)
within_job files choices jobs j e =
    let w = limits files choices jobs e in
    rw (one_more jobs j MAX_JOBS, sum_by_push buffer_len jobs j, w.0, w.1) refl

-- what a list of lines tells, within the limits
abbrev pub tell : List Line → Told
tell said = record { files = files_of said; choices = choices_of said; jobs = jobs_of said }

abbrev pub checked : Told → Option Told
checked told = cond (is_within_limits told) (Some told) None

-- no limit reads the choices
unmoved : (files : List Seed) (choices others : List ℕ) (jobs : List Job) → is_within_limits (record { files = files; choices = choices; jobs = jobs }) ≡ true → is_within_limits (record { files = files; choices = others; jobs = jobs }) ≡ true
unmoved files choices others jobs e = e

told_push : (said : List Line) (l : Line) → is_within_limits (tell said) ≡ true → checked (tell (said ++ l ∷ [])) ≡ adds (tell said) l
told_push said line.Blank e = rw (files_push said line.Blank, choices_push said line.Blank, jobs_push said line.Blank, append-nil (files_of said), append-nil (choices_of said), append-nil (jobs_of said), e) refl
told_push said (line.File s) e = rw (files_push said (line.File s), choices_push said (line.File s), jobs_push said (line.File s), append-nil (choices_of said), append-nil (jobs_of said), within_file (files_of said) (choices_of said) (jobs_of said) s e) refl
told_push said (line.Choose c) e = rw (files_push said (line.Choose c), choices_push said (line.Choose c), jobs_push said (line.Choose c), append-nil (files_of said), append-nil (jobs_of said)) (rw (unmoved (files_of said) (choices_of said) (choices_of said ++ c ∷ []) (jobs_of said) e) refl)
told_push said (line.Job j) e = rw (files_push said (line.Job j), choices_push said (line.Job j), jobs_push said (line.Job j), append-nil (files_of said), append-nil (choices_of said), within_job (files_of said) (choices_of said) (jobs_of said) j e) refl

push_case : (o : Option Line) (said : List Line) (told : Told) → is_within_limits (tell said) ≡ true → tell said ≡ told → ((o >>= λ l. Some (said ++ l ∷ [])) >>= λ all. checked (tell all)) ≡ (o >>= adds told)
push_case None said told e same = refl
push_case (Some l) said told e same = subst (λ (t : Told). checked (tell (said ++ l ∷ [])) ≡ adds t l) same (told_push said l e)

-- One more line adds what it says, if it says something.
pub script_push : (front : List (List ℕ)) (text : List ℕ) (told : Told) → script_of front ≡ Some told → script_of (front ++ text ∷ []) ≡ (line_says text >>= adds told)
unfolding script_of
script_push front text told e =
    let a = bind_some (lines_say front) (λ said. checked (tell said)) told e in
    let b = cond_some (is_within_limits (tell a.0)) (tell a.0) told a.2 in
    rw (lines_push front text, a.1) (push_case (line_says text) a.0 told b.0 b.1)
