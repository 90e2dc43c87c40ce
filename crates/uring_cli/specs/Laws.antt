-- The law of the command's words.
use Rattle.std.specs.Prelude.{◌≡◌, ◌↔◌, ℕ, List, Some}
use Rattle.uring_cli.specs.declared.words.Options.{Options}
use Rattle.uring_cli.specs.Words.{options_of}
use Rattle.uring_cli.specs.Grammar.{SaysOptions}

abbrev pub OptionsAreAsSaid : Type 0
OptionsAreAsSaid = (words : List (List ℕ)) (options : Options) → (options_of words ≡ Some options) ↔ SaysOptions words options
