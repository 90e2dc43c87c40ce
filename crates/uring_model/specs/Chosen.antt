-- Which of the jobs that may settle settles next.
use Rattle.std.specs.Prelude.{◌≡◌, ℕ, ◌/◌, ◌%◌, Bool, false, nat_eq, List, [], ◌∷◌, length, map, drop, Option, Some, None, slice_get}
use Rattle.uring_base.specs.declared.events.Event.{Event}
use Rattle.uring_base.specs.declared.events.Event.TheVariants.{Turn, Take, Post, Quiet}
use Rattle.uring_model.specs.Replay.{ReplayState, Place, ready, replay_event}

-- the choice in front, and 1 once they have run out
abbrev pub choice : List ℕ → ℕ
choice [] = 1
choice (c ∷ cs) = c

-- an even choice ends its turn, if it posts
abbrev pub stops : ℕ → Bool
stops c = nat_eq (c % 2) 0

-- the numbers of the jobs at these places
abbrev pub numbers : List Place → List ℕ
numbers ps = map (λ p. length p.before) ps

-- choice c names job j among these numbers
abbrev pub Names : ℕ → List ℕ → ℕ → Type 0
Names c js j = slice_get js ((c / 2) % length js) ≡ Some j

-- it goes on where the event took place
abbrev pub IsChosenNext : Option ReplayState → (ReplayState → Type 0) → Type 0
IsChosenNext None go = Unit {0}
IsChosenNext (Some s) go = go s

-- the settlings are those that the choices name, and a post at an even choice ends its turn; `over` says that the turn is over
abbrev pub IsChosen : List Event → List ℕ → Bool → ReplayState → Type 0
IsChosen [] cs over s = Unit {0}
IsChosen (Turn p ∷ es) cs over s = IsChosenNext (replay_event s (Turn p)) (IsChosen es cs false)
IsChosen (Take j ∷ es) cs over s = (over ≡ false) × IsChosenNext (replay_event s (Take j)) (IsChosen es cs false)
IsChosen (Post j r fin ∷ es) cs over s = (over ≡ false) × Names (choice cs) (numbers (ready [] s.rows)) j × IsChosenNext (replay_event s (Post j r fin)) (IsChosen es (drop 1 cs) (stops (choice cs)))
IsChosen (Quiet j ∷ es) cs over s = (over ≡ false) × Names (choice cs) (numbers (ready [] s.rows)) j × IsChosenNext (replay_event s (Quiet j)) (IsChosen es (drop 1 cs) false)
