-- A script is what its lines say, within the limits.
use Rattle.std.proofs.Common.{◌≡◌, ℕ, ◌≤◌, true, leb, List, [], ◌∷◌, Some, subst, refl, sym, ap, arith}
use Rattle.std.proofs.lemmas.Bool.Decides.{nat_tests}
use Rattle.std.proofs.lemmas.Option.{cond_some}
use Rattle.uring_text.specs.declared.script.Line.{Line}
use Rattle.uring_text.specs.Script.{◌>>=◌, line_says, lines_say, Told, files_of, choices_of, jobs_of, is_within_limits, script_of}
use Rattle.uring_text.specs.Grammar.{EachSays, IsScript}
use Rattle.uring_text.proofs.Steps.{bind_some, there, some_is, limits, within_is, tell, checked}
use Rattle.uring_text.proofs.LinesSaid.{line_found, line_again}

each_found : (lines : List (List ℕ)) (said : List Line) → lines_say lines ≡ Some said → EachSays lines said
unfolding lines_say
each_found [] said e = subst (λ (ls : List Line). EachSays [] ls) (some_is [] said e) tt
each_found (x ∷ xs) said e =
    let a = bind_some (line_says x) (λ first. lines_say xs >>= λ others. Some (first ∷ others)) said e in
    let b = bind_some (lines_say xs) (λ others. Some (a.0 ∷ others)) said a.2 in
    subst (λ (ls : List Line). EachSays (x ∷ xs) ls) (some_is (a.0 ∷ b.0) said b.2) (line_found x a.0 a.1, each_found xs b.0 b.1)

each_again : (lines : List (List ℕ)) (said : List Line) → EachSays lines said → lines_say lines ≡ Some said
unfolding lines_say
each_again [] [] h = refl
each_again [] (l ∷ said) h = absurd h
each_again (x ∷ xs) [] h = absurd h
each_again (x ∷ xs) (l ∷ said) h = rw (line_again x l h.0, each_again xs said h.1) refl

at_most : (n most : ℕ) → leb n most ≡ true → n ≤ most
at_most n most e = grind (arith, nat_tests)

is_at_most : (n most : ℕ) → n ≤ most → leb n most ≡ true
is_at_most n most e = grind (arith, nat_tests)

pub script_found : (lines : List (List ℕ)) (told : Told) → script_of lines ≡ Some told → IsScript lines told
unfolding script_of
script_found lines told e =
    let a = bind_some (lines_say lines) (λ said. checked (tell said)) told e in
    let b = cond_some (is_within_limits (tell a.0)) (tell a.0) told a.2 in
    let w = limits (files_of a.0) (choices_of a.0) (jobs_of a.0) b.0 in
    subst (λ (t : Told). IsScript lines t) b.1 (record {
      said = a.0;
      each = each_found lines a.0 a.1;
      files = refl;
      choices = refl;
      jobs = refl;
      few_files = at_most _ _ w.0;
      differ = w.1;
      few_jobs = at_most _ _ w.2;
      few_bytes = at_most _ _ w.3;
    })

same_told : (said : List Line) (told : Told) → told.files ≡ files_of said → told.choices ≡ choices_of said → told.jobs ≡ jobs_of said → tell said ≡ told
same_told said told f c j = rw (← f, ← c, ← j) refl

pub script_again : (lines : List (List ℕ)) (told : Told) → IsScript lines told → script_of lines ≡ Some told
unfolding script_of
script_again lines told h =
    let same = same_told h.said told h.files h.choices h.jobs in
    let ok : is_within_limits told ≡ true = within_is told.files told.choices told.jobs (is_at_most _ _ h.few_files, h.differ, is_at_most _ _ h.few_jobs, is_at_most _ _ h.few_bytes) in
    let here = subst (λ (t : Told). is_within_limits t ≡ true) (sym same) ok in
    rw (each_again lines h.said h.each, here) (ap there same)
