-- Laws of the definitions of a script.
use Rattle.std.specs.Prelude.{ℕ, ◌<◌, ◌≤◌, ◌^◌, ◌≡◌, ◌≢◌, ◌↔◌, List, [], ◌∷◌, ◌++◌, All, Some, IsSome, decimal}
use Rattle.uring_text.specs.declared.script.Line.{Line}
use Rattle.uring_text.specs.Lines.{line_feed, space, lines_of, fields_of, number_below}
use Rattle.uring_text.specs.Script.{Told, line_says, script_of}
use Rattle.uring_text.specs.Grammar.{Says, IsScript}

abbrev pub NumbersAreDecimal : Type 0
NumbersAreDecimal = (limit n : ℕ) (text : List ℕ) → limit ≤ 2 ^ 64 → (number_below limit text ≡ Some n) ↔ ((n < limit) × (text ≡ decimal n))

abbrev pub LinesAreAsSaid : Type 0
LinesAreAsSaid = (text : List ℕ) (said : Line) → (line_says text ≡ Some said) ↔ Says text said

abbrev pub ScriptsAreAsSaid : Type 0
ScriptsAreAsSaid = (lines : List (List ℕ)) (told : Told) → (script_of lines ≡ Some told) ↔ IsScript lines told

abbrev pub FrontsAreScripts : Type 0
FrontsAreScripts = (front rest : List (List ℕ)) → IsSome (script_of (front ++ rest)) → IsSome (script_of front)

-- a line feed ends a line, and the last line may lack it
pub record LinesEndAtFeeds : Type 0 where
  pub none : lines_of [] ≡ []
  pub last : (line : List ℕ) → line ≢ [] → All (λ b. b ≢ line_feed) line → lines_of line ≡ line ∷ []
  pub next : (line rest : List ℕ) → All (λ b. b ≢ line_feed) line → lines_of (line ++ line_feed ∷ rest) ≡ line ∷ lines_of rest

-- one space stands between two fields
pub record FieldsEndAtSpaces : Type 0 where
  pub last : (field : List ℕ) → All (λ b. b ≢ space) field → fields_of field ≡ field ∷ []
  pub next : (field rest : List ℕ) → All (λ b. b ≢ space) field → fields_of (field ++ space ∷ rest) ≡ field ∷ fields_of rest
