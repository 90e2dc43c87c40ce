-- What is read of a line is what it says.
use Rattle.std.proofs.Common.{◌≡◌, ℕ, ◌+◌, ◌^◌, true, false, cond, List, [], ◌∷◌, length, get_or, Some, None, subst, refl, sym, ap, arith, inl, inr}
use Rattle.std.specs.Prelude.{Option, bytes_eq, codes, ◌==◌}
use Rattle.std.proofs.lemmas.Bool.{eqb-true}
use Rattle.uring_model.specs.declared.jobs.Job.{Job}
use Rattle.uring_model.specs.declared.jobs.JobKind.{JobKind}
use Rattle.uring_model.specs.declared.jobs.JobKind.TheVariants.{Nop, Read, Write, Fsync, Ftruncate, Cancel}
use Rattle.uring_text.specs.declared.marks.Marks.{Marks}
use Rattle.uring_text.specs.declared.script.Line.{Line}
use Rattle.uring_text.specs.declared.script.Line.TheVariants as line
use Rattle.uring_text.specs.declared.limits.TheConstants.{MAX_READ_BYTES}
use Rattle.uring_text.specs.Lines.{fields_of, number_below, bytes_spelled}
use Rattle.uring_text.specs.Script.{◌>>=◌, file_line, choose_line, marks_of, read_fields, write_fields, fsync_fields, truncate_fields, cancel_fields, job_fields, is_well_marked, marked_job, job_line, worded_line, line_says}
use Rattle.uring_text.specs.Grammar.{marks, KindSaid, FieldsSay, Says}
use Rattle.uring_text.proofs.Found.{chosen, same_bytes, none_is_some, bound}
use Rattle.uring_text.proofs.KindsSaid.{bytes_found, job_found, number_is, bytes_again}
use Rattle.uring_text.proofs.MarksSaid.{marks_found, marks_again, quiet_found, quiet_again}
use Rattle.uring_text.proofs.Numbers.{number_found}
use Rattle.uring_text.proofs.Pieces.{a_piece}
use Rattle.uring_text.proofs.Steps.{there, some_is}

-- what a job line tells of a job with these marks
abbrev line_of : Job → Option Line
line_of job = cond (is_well_marked job) (Some (line.Job job)) None

job_line_found : (word : List ℕ) (fields : List (List ℕ)) (said : Line) → job_line word fields ≡ Some said → FieldsSay (word ∷ fields) said
unfolding job_line
job_line_found word fields said e =
    bound (job_fields word fields) (λ x. marks_of x.1 >>= λ m. line_of (marked_job x.0 m)) said e (λ x ex e1.
    bound (marks_of x.1) (λ m. line_of (marked_job x.0 m)) said e1 (λ m em e2.
    let job = marked_job x.0 m in
    elim (chosen (is_well_marked job) (there (line.Job job)) None (Some said) e2) [
      | inl p ↦ subst (λ (l : Line). FieldsSay (word ∷ fields) l) (some_is (line.Job job) said p.1)
          (subst (λ (ms : List (List ℕ)). KindSaid x.0 (word ∷ fields) ms) (marks_found x.0 x.1 m em) (job_found word fields x ex), quiet_found job p.0)
      | inr p ↦ none_is_some said p.1
    ]))

file_found : (fields : List (List ℕ)) (said : Line) → file_line fields ≡ Some said → FieldsSay (codes "file" ∷ fields) said
unfolding file_line
file_found [] said e = absurd cc
file_found (n ∷ []) said e = absurd cc
file_found (n ∷ h ∷ []) said e =
    bound (number_below (2 ^ 32) n) (λ k. bytes_spelled h >>= λ bytes. there (line.File (record { number = k; bytes = bytes }))) said e (λ k ek e1.
    bound (bytes_spelled h) (λ bytes. there (line.File (record { number = k; bytes = bytes }))) said e1 (λ bytes eb e2.
    let p = number_found (2 ^ 32) n k ek in
    subst (λ (l : Line). FieldsSay (codes "file" ∷ n ∷ h ∷ []) l) (some_is (line.File (record { number = k; bytes = bytes })) said e2) (h, rw p.1 refl, p.0, bytes_found h bytes eb)))
file_found (n ∷ h ∷ x ∷ more) said e = absurd cc

choose_found : (fields : List (List ℕ)) (said : Line) → choose_line fields ≡ Some said → FieldsSay (codes "choose" ∷ fields) said
unfolding choose_line
choose_found [] said e = absurd cc
choose_found (c ∷ []) said e =
    bound (number_below (2 ^ 32) c) (λ k. there (line.Choose k)) said e (λ k ek e1.
    let p = number_found (2 ^ 32) c k ek in
    subst (λ (l : Line). FieldsSay (codes "choose" ∷ c ∷ []) l) (some_is (line.Choose k) said e1) (rw p.1 refl, p.0))
choose_found (c ∷ x ∷ more) said e = absurd cc

worded_say : (word text : List ℕ) (fields : List (List ℕ)) (said : Line) → bytes_eq word text ≡ true → FieldsSay (text ∷ fields) said → FieldsSay (word ∷ fields) said
worded_say word text fields said e h = rw (same_bytes word text e) h

worded_found : (fields : List (List ℕ)) (said : Line) → worded_line fields ≡ Some said → FieldsSay fields said
unfolding worded_line
worded_found [] said e = absurd cc
worded_found (word ∷ fields) said e =
    elim (chosen (bytes_eq word (codes "file")) (file_line fields) _ (Some said) e) [
      | inl p ↦ worded_say word _ fields said p.0 (file_found fields said p.1)
      | inr p ↦ elim (chosen (bytes_eq word (codes "choose")) (choose_line fields) (job_line word fields) (Some said) p.1) [
        | inl q ↦ worded_say word _ fields said q.0 (choose_found fields said q.1)
        | inr q ↦ job_line_found word fields said q.1
      ]
    ]

says_by_fields : (b : ℕ) (more : List ℕ) (said : Line) → FieldsSay (fields_of (b ∷ more)) said → Says (b ∷ more) said
says_by_fields b more line.Blank h = absurd h
says_by_fields b more (line.File seed) h = h
says_by_fields b more (line.Choose c) h = h
says_by_fields b more (line.Job job) h = h

pub line_found : (text : List ℕ) (said : Line) → line_says text ≡ Some said → Says text said
unfolding line_says
line_found [] said e = sym (some_is line.Blank said e)
line_found (b ∷ more) said e =
    elim (chosen (b == 35) (there line.Blank) (worded_line (fields_of (b ∷ more))) (Some said) e) [
      | inl p ↦ subst (λ (l : Line). Says (b ∷ more) l) (some_is line.Blank said p.1) (eqb-true b 35 p.0)
      | inr p ↦ says_by_fields b more said (worded_found (fields_of (b ∷ more)) said p.1)
    ]

-- ---- and what is said so is read

-- the kind and the marks are read in turn
job_again : (kind : JobKind) (fields : List (List ℕ)) (end : List (List ℕ)) (marks : Marks) → KindSaid kind fields end → marks_of end ≡ Some marks → is_well_marked (marked_job kind marks) ≡ true → worded_line fields ≡ Some (line.Job (marked_job kind marks))
unfolding worded_line job_line job_fields read_fields write_fields fsync_fields truncate_fields cancel_fields
job_again Nop fields end marks h read fits = rw (h, read, fits) refl
job_again (Read n at buf) fields end marks h read fits = rw h.0 (rw (number_is (2 ^ 32) n (omega arith) h.1, number_is (2 ^ 64) at (omega arith) h.2, number_is (MAX_READ_BYTES + 1) (length buf) (omega arith) (omega (arith, h.3)), read, ← h.4, fits) refl)
job_again (Write n at buf) fields end marks h read fits = rw h.1 (rw (number_is (2 ^ 32) n (omega arith) h.2, number_is (2 ^ 64) at (omega arith) h.3, bytes_again h.0 buf h.4, read, fits) refl)
job_again (Fsync n) fields end marks h read fits = rw h.0 (rw (number_is (2 ^ 32) n (omega arith) h.1, read, fits) refl)
job_again (Ftruncate n len) fields end marks h read fits = rw h.0 (rw (number_is (2 ^ 32) n (omega arith) h.1, number_is (2 ^ 64) len (omega arith) h.2, read, fits) refl)
job_again (Cancel job) fields end marks h read fits = rw h.0 (rw (number_is (2 ^ 64) job (omega arith) h.1, read, fits) refl)

fields_again : (fields : List (List ℕ)) (said : Line) → FieldsSay fields said → worded_line fields ≡ Some said
unfolding worded_line file_line choose_line
fields_again fields line.Blank h = absurd h
fields_again fields (line.File seed) h = rw h.1 (rw (number_is (2 ^ 32) seed.number (omega arith) h.2, bytes_again h.0 seed.bytes h.3) refl)
fields_again fields (line.Choose c) h = rw h.0 (rw (number_is (2 ^ 32) c (omega arith) h.1) refl)
fields_again fields (line.Job job) h = job_again job.kind fields (marks job) (record { drain = job.drain; quiet = job.quiet; link = job.link }) h.0 (marks_again job.kind job.drain job.quiet job.link) (quiet_again job h.1)

-- the first byte of the first field
abbrev head : List (List ℕ) → ℕ
head fields = get_or (get_or fields 0 []) 0 0

no_kind : (kind : JobKind) (fields end : List (List ℕ)) → head fields ≡ 35 → KindSaid kind fields end → ⊥
no_kind Nop fields end s h = omega (arith, ap head h)
no_kind (Read n at buf) fields end s h = omega (arith, ap head h.0)
no_kind (Write n at buf) fields end s h = omega (arith, ap head h.1)
no_kind (Fsync n) fields end s h = omega (arith, ap head h.0)
no_kind (Ftruncate n len) fields end s h = omega (arith, ap head h.0)
no_kind (Cancel job) fields end s h = omega (arith, ap head h.0)

no_word : (said : Line) (fields : List (List ℕ)) → head fields ≡ 35 → FieldsSay fields said → ⊥
no_word line.Blank fields s h = h
no_word (line.File seed) fields s h = omega (arith, ap head h.1)
no_word (line.Choose c) fields s h = omega (arith, ap head h.0)
no_word (line.Job job) fields s h = no_kind job.kind fields (marks job) s h.0

-- the fields of a comment begin with its sign, and so with no word
no_comment : (more : List ℕ) (said : Line) → FieldsSay (fields_of (35 ∷ more)) said → ⊥
no_comment more said h =
    let rest = a_piece (λ b. b == 32) more in
    let first : head (fields_of (35 ∷ more)) ≡ 35 = rw rest.2 refl in
    no_word said (fields_of (35 ∷ more)) first h

by_fields : (b : ℕ) (more : List ℕ) (said : Line) → FieldsSay (fields_of (b ∷ more)) said → line_says (b ∷ more) ≡ Some said
unfolding line_says
by_fields b more said h =
    elim (b == 35) as (λ t. (b == 35) ≡ t → cond t (there line.Blank) (worded_line (fields_of (b ∷ more))) ≡ Some said) [
      | true ↦ λ yes. absurd (no_comment more said (subst (λ (k : ℕ). FieldsSay (fields_of (k ∷ more)) said) (eqb-true b 35 yes) h))
      | false ↦ λ no. fields_again (fields_of (b ∷ more)) said h
    ] refl

pub line_again : (text : List ℕ) (said : Line) → Says text said → line_says text ≡ Some said
unfolding line_says
line_again [] said h = rw h refl
line_again (b ∷ more) line.Blank h = rw h refl
line_again (b ∷ more) (line.File seed) h = by_fields b more (line.File seed) h
line_again (b ∷ more) (line.Choose c) h = by_fields b more (line.Choose c) h
line_again (b ∷ more) (line.Job job) h = by_fields b more (line.Job job) h
