-- The marks that are read of a job line are those that are written for its job.
use Rattle.std.proofs.Common.{◌≡◌, ℕ, Bool, true, false, not, cond, ◌&&◌, ◌||◌, List, [], ◌∷◌, ◌++◌, Some, None, refl, sym, ap, ◌∙◌, append_assoc, inl, inr}
use Rattle.std.specs.Prelude.{IsTrue, bytes_eq, codes}
use Rattle.uring_model.specs.declared.jobs.Job.{Job}
use Rattle.uring_model.specs.declared.jobs.JobKind.{JobKind}
use Rattle.uring_model.specs.declared.jobs.Link.{Link}
use Rattle.uring_model.specs.declared.jobs.Link.TheVariants.{Free, Soft, Hard}
use Rattle.uring_model.specs.Jobs.{model_op, moves_bytes, linked}
use Rattle.uring_text.specs.declared.marks.Marks.{Marks}
use Rattle.uring_text.specs.Script.{after_word, link_mark, marks_of, marked_job, is_well_marked}
use Rattle.uring_text.specs.Grammar.{word_where, link_text, marks, IsWellMarked}
use Rattle.uring_text.proofs.Found.{chosen, same_bytes, none_is_some, mapped}
use Rattle.uring_text.proofs.Steps.{there, some_is}

link_found : (ms : List (List ℕ)) (link : Link) → link_mark ms ≡ Some link → ms ≡ link_text link
unfolding link_mark
link_found [] link e = ap link_text (some_is Free link e)
link_found (m ∷ []) link e =
    elim (chosen (bytes_eq m (codes "link")) (there Soft) (cond (bytes_eq m (codes "hard")) (there Hard) None) (Some link) e) [
      | inl p ↦ ap (λ (w : List ℕ). w ∷ []) (same_bytes m _ p.0) ∙ ap link_text (some_is Soft link p.1)
      | inr p ↦ elim (chosen (bytes_eq m (codes "hard")) (there Hard) None (Some link) p.1) [
        | inl q ↦ ap (λ (w : List ℕ). w ∷ []) (same_bytes m _ q.0) ∙ ap link_text (some_is Hard link q.1)
        | inr q ↦ none_is_some link q.1
      ]
    ]
link_found (m ∷ n ∷ ms) link e = absurd cc

-- what stands in front is the word where it was found there
after_found : (word : List ℕ) (ms : List (List ℕ)) → ms ≡ word_where (after_word word ms).0 word ++ (after_word word ms).1
unfolding after_word
after_found word [] = refl
after_found word (m ∷ ms) =
    let parts : Bool → Bool × List (List ℕ) = λ b. cond b (true, ms) (false, m ∷ ms) in
    elim (bytes_eq m word) as (λ b. bytes_eq m word ≡ b → m ∷ ms ≡ word_where (parts b).0 word ++ (parts b).1) [
      | true ↦ λ yes. ap (λ (w : List ℕ). w ∷ ms) (same_bytes m word yes)
      | false ↦ λ no. refl
    ] refl

pub marks_found : (kind : JobKind) (ms : List (List ℕ)) (said : Marks) → marks_of ms ≡ Some said → ms ≡ marks (marked_job kind said)
unfolding marks_of
marks_found kind ms said e =
    let drain = after_word (codes "drain") ms in
    let quiet = after_word (codes "quiet") drain.1 in
    mapped (link_mark quiet.1) (λ (link : Link). record { drain = drain.0; quiet = quiet.0; link = link }) said e (λ link found same.
    let front = after_found (codes "drain") ms in
    let middle = after_found (codes "quiet") drain.1 in
    let end = link_found quiet.1 link found in
    let parts : ms ≡ word_where drain.0 (codes "drain") ++ (word_where quiet.0 (codes "quiet") ++ link_text link) = front ∙ ap (λ (r : List (List ℕ)). word_where drain.0 (codes "drain") ++ r) (middle ∙ ap (λ (r : List (List ℕ)). word_where quiet.0 (codes "quiet") ++ r) end) in
    parts ∙ sym (append_assoc (word_where drain.0 (codes "drain")) (word_where quiet.0 (codes "quiet")) (link_text link)) ∙ ap (λ (m : Marks). marks (marked_job kind m)) same)

pub marks_again : (kind : JobKind) (drain quiet : Bool) (link : Link) → marks_of (marks (marked_job kind (record { drain = drain; quiet = quiet; link = link }))) ≡ Some (record { drain = drain; quiet = quiet; link = link })
unfolding marks_of after_word link_mark
marks_again kind true true Free = refl
marks_again kind true true Soft = refl
marks_again kind true true Hard = refl
marks_again kind true false Free = refl
marks_again kind true false Soft = refl
marks_again kind true false Hard = refl
marks_again kind false true Free = refl
marks_again kind false true Soft = refl
marks_again kind false true Hard = refl
marks_again kind false false Free = refl
marks_again kind false false Soft = refl
marks_again kind false false Hard = refl

-- ---- a quiet job moves no bytes and has a link

fits_found : (quiet moves linked : Bool) → (not quiet || (not moves && linked && not false)) ≡ true → IsTrue quiet → IsTrue (not moves) × IsTrue linked
fits_found true true linked e q = absurd cc
fits_found true false true e q = (refl, refl)
fits_found true false false e q = absurd cc
fits_found false moves linked e q = absurd cc

pub quiet_found : (job : Job) → is_well_marked job ≡ true → IsWellMarked job
quiet_found job e = fits_found job.quiet (moves_bytes (model_op job.kind)) (linked job.link) e

fits_again : (quiet moves linked : Bool) → (IsTrue quiet → IsTrue (not moves) × IsTrue linked) → (not quiet || (not moves && linked && not false)) ≡ true
fits_again true moves linked fits = let both = fits refl in rw (both.0, both.1) refl
fits_again false moves linked fits = refl

pub quiet_again : (job : Job) → IsWellMarked job → is_well_marked job ≡ true
quiet_again job fits = fits_again job.quiet (moves_bytes (model_op job.kind)) (linked job.link) fits
