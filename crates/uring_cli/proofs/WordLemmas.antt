-- The options of the command, word by word.
use Rattle.std.proofs.Common.{◌≡◌, ◌+◌, ◌<◌, ℕ, List, [], ◌∷◌, length, Some, None, IfSome, refl, arith}
use Rattle.std.proofs.lemmas.Bool.Decides.{nat_tests}
use Rattle.uring_text.specs.Lines.{number_below}
use Rattle.uring_cli.specs.declared.words.Given.{Given}
use Rattle.uring_cli.specs.declared.words.TheConstants.{MAX_NUMBER}
use Rattle.uring_cli.specs.Words.{with_option, given_by}

pub nothing_more : (given : Given) (words : List (List ℕ)) → length words ≡ 0 → given_by given words ≡ Some given
unfolding given_by
nothing_more given [] e = refl
nothing_more given (word ∷ words) e = absurd (omega arith)

pub name_alone : (given : Given) (name : List ℕ) (words : List (List ℕ)) → length words ≡ 0 → given_by given (name ∷ words) ≡ None
unfolding given_by
name_alone given name [] e = refl
name_alone given name (word ∷ words) e = absurd (omega arith)

pub no_number : (given : Given) (name number : List ℕ) (words : List (List ℕ)) → number_below (MAX_NUMBER + 1) number ≡ None → given_by given (name ∷ number ∷ words) ≡ None
unfolding given_by
no_number given name number words e = rw e refl

pub no_option : (given : Given) (name number : List ℕ) (words : List (List ℕ)) (n : ℕ) → number_below (MAX_NUMBER + 1) number ≡ Some n → with_option name n given ≡ None → given_by given (name ∷ number ∷ words) ≡ None
unfolding given_by
no_option given name number words n e f = rw e (rw f refl)

pub one_option : (given next : Given) (name number : List ℕ) (words : List (List ℕ)) (n : ℕ) → number_below (MAX_NUMBER + 1) number ≡ Some n → with_option name n given ≡ Some next → given_by given (name ∷ number ∷ words) ≡ given_by next words
unfolding given_by
one_option given next name number words n e f = rw e (rw f refl)

pub idle_kept : (given next : Given) (name : List ℕ) (n : ℕ) → with_option name n given ≡ Some next → IfSome given.idle (λ m. 0 < m) → IfSome next.idle (λ m. 0 < m)
unfolding with_option
idle_kept given next name n e h = grind (arith, nat_tests)
