-- Worked logs with and without a strange post.
use Rattle.std.specs.Prelude.{◌≡◌, ℕ, Bool, true, false, nat_eq, List, [], ◌∷◌, pos, Option, Some, None, refl}
use Rattle.uring_base.specs.declared.buffer.Loan.{Loan}
use Rattle.uring_base.specs.declared.events.LogEvent.{LogEvent}
use Rattle.uring_base.specs.declared.events.LogEvent.TheVariants.{Turn, Take, Post, Quiet}
use Rattle.uring_base.specs.Words.{blank}
use Rattle.uring_model.specs.Strange.{first_strange, nothing_seen}

-- job 1 alone lends a buffer
abbrev lends : ℕ → Bool
lends j = nat_eq j 1

abbrev loan : ℕ → Option Loan
loan number = Some (record { number = number; from = 0; buf = 5 ∷ [] })

abbrev taken : ℕ → LogEvent
taken job = Take job (blank 0)

abbrev final : ℕ → Option Loan → LogEvent
final job l = Post job (pos 0) true l

abbrev first : List LogEvent → Option ℕ
first log = first_strange lends (false ∷ false ∷ []) nothing_seen log

nothing : first [] ≡ None
nothing = refl

honest : first (Turn 2 ∷ taken 0 ∷ taken 1 ∷ final 1 (loan 1) ∷ Turn 0 ∷ final 0 None ∷ []) ≡ None
honest = refl

-- a job is started once a turn counts its entry, even if it isn't taken
started : first (Turn 1 ∷ final 0 None ∷ []) ≡ None
started = refl

never_started : first (Turn 1 ∷ taken 0 ∷ final 1 (loan 1) ∷ []) ≡ Some 1
never_started = refl

before_a_turn : first (final 0 None ∷ []) ≡ Some 0
before_a_turn = refl

ended_twice : first (Turn 1 ∷ taken 0 ∷ final 0 None ∷ final 0 None ∷ []) ≡ Some 0
ended_twice = refl

-- a post that isn't final ends nothing
more_then_final : first (Turn 1 ∷ taken 0 ∷ Post 0 (pos 0) false None ∷ final 0 None ∷ []) ≡ None
more_then_final = refl

loan_kept : first (Turn 2 ∷ taken 0 ∷ taken 1 ∷ final 1 None ∷ []) ≡ Some 1
loan_kept = refl

loan_of_another : first (Turn 2 ∷ taken 0 ∷ taken 1 ∷ final 1 (loan 0) ∷ []) ≡ Some 1
loan_of_another = refl

loan_not_lent : first (Turn 2 ∷ taken 0 ∷ taken 1 ∷ final 0 (loan 0) ∷ []) ≡ Some 0
loan_not_lent = refl

loan_too_early : first (Turn 2 ∷ taken 0 ∷ taken 1 ∷ Post 1 (pos 0) false (loan 1) ∷ []) ≡ Some 1
loan_too_early = refl

-- the first one is named
first_of_two : first (Turn 1 ∷ final 7 None ∷ final 8 None ∷ []) ≡ Some 7
first_of_two = refl

-- a quiet job is answered by the end of the next one, and a post for it is strange then

abbrev first_quiet : List LogEvent → Option ℕ
first_quiet log = first_strange (λ j. false) (true ∷ true ∷ false ∷ []) nothing_seen log

quiet_before : first_quiet (Turn 3 ∷ taken 0 ∷ taken 1 ∷ taken 2 ∷ Quiet 0 ∷ final 1 None ∷ final 2 None ∷ []) ≡ None
quiet_before = refl

quiet_after : first_quiet (Turn 3 ∷ taken 0 ∷ taken 1 ∷ taken 2 ∷ final 1 None ∷ final 0 None ∷ []) ≡ Some 0
quiet_after = refl

quiet_chain : first_quiet (Turn 3 ∷ taken 0 ∷ taken 1 ∷ taken 2 ∷ final 2 None ∷ final 0 None ∷ []) ≡ Some 0
quiet_chain = refl
