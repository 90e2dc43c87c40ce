-- The first word says which command it is: words that name the one are none of the others'.
use Rattle.std.proofs.Common.{◌≡◌, ℕ, true, false, List, [], ◌∷◌, None, refl}
use Rattle.std.specs.Prelude.{codes}
use Rattle.std.proofs.lemmas.Slice.Eq.{bytes_eq-Decides}
use Rattle.uring_cli.specs.Generated.{asks_for_jobs, count_of}
use Rattle.uring_cli.specs.Words.{asks_for_threads, options_of, shared_options_of}

-- words that name `gen`
pub gen_no_run : (words : List (List ℕ)) → asks_for_jobs words ≡ true → options_of words ≡ None
unfolding options_of
gen_no_run [] e = refl
gen_no_run (name ∷ words) e = rw ((bytes_eq-Decides name (codes "gen")).0 e) refl

pub gen_no_shared : (words : List (List ℕ)) → asks_for_jobs words ≡ true → shared_options_of words ≡ None
unfolding shared_options_of
gen_no_shared [] e = refl
gen_no_shared (name ∷ words) e = rw ((bytes_eq-Decides name (codes "gen")).0 e) refl

-- words that name `shared`
pub shared_no_run : (words : List (List ℕ)) → asks_for_threads words ≡ true → options_of words ≡ None
unfolding options_of
shared_no_run [] e = refl
shared_no_run (name ∷ words) e = rw ((bytes_eq-Decides name (codes "shared")).0 e) refl

-- words that don't name them

pub no_shared : (words : List (List ℕ)) → asks_for_threads words ≡ false → shared_options_of words ≡ None
unfolding shared_options_of
no_shared [] e = refl
no_shared (name ∷ words) e = rw e refl

pub no_count : (words : List (List ℕ)) → asks_for_jobs words ≡ false → count_of words ≡ None
unfolding count_of
no_count [] e = refl
no_count (name ∷ []) e = refl
no_count (name ∷ number ∷ []) e = rw e refl
no_count (name ∷ number ∷ word ∷ words) e = refl
