-- The words of the commands, as they are read: `run` or `std`, then options in any order, each a name and a number, and none twice.
use Rattle.std.specs.Prelude.{ℕ, ◌+◌, ◌*◌, min, Bool, false, List, [], ◌∷◌, Option, Some, None, is_none, unwrap_or, option_map, bytes_eq, codes, nat_lt, ◌&&◌, ◌||◌, if◌then◌else◌}
use Rattle.uring_text.specs.Lines.{number_below}
use Rattle.uring_text.specs.Script.{◌>>=◌}
use Rattle.uring_cli.specs.declared.words.Given.{Given}
use Rattle.uring_cli.specs.declared.words.Options.{Options}
use Rattle.uring_cli.specs.declared.words.TheConstants.{MAX_NUMBER, DEFAULT_ENTRIES, DEFAULT_IDLE}

abbrev pub nothing_given : Given
nothing_given = record { sq = None; cq = None; start = None; idle = None }

-- one more option. A run that gives up after no idle turn at all isn't to be had.
unfoldable pub with_option : List ℕ → ℕ → Given → Option Given
with_option name n given =
    if bytes_eq name (codes "--sq") && is_none given.sq then Some (record given { sq = Some n })
    else if bytes_eq name (codes "--cq") && is_none given.cq then Some (record given { cq = Some n })
    else if bytes_eq name (codes "--start") && is_none given.start then Some (record given { start = Some n })
    else if bytes_eq name (codes "--idle") && is_none given.idle && nat_lt 0 n then Some (record given { idle = Some n })
    else None

-- what names and numbers give, behind what was given before them
unfoldable pub given_by : Given → List (List ℕ) → Option Given
given_by given [] = Some given
given_by given (name ∷ []) = None
given_by given (name ∷ number ∷ words) = do
  n ← number_below (MAX_NUMBER + 1) number
  next ← with_option name n given
  given_by next words

-- what isn't given stands at its default
abbrev pub in_force : Given → Options
in_force given = record {
  sq = unwrap_or given.sq DEFAULT_ENTRIES;
  cq = unwrap_or given.cq (min (2 * unwrap_or given.sq DEFAULT_ENTRIES) MAX_NUMBER);
  start = unwrap_or given.start 0;
  idle = unwrap_or given.idle DEFAULT_IDLE;
}

-- the word names a command that runs a script on the program's own thread: over files in memory, or over those of a folder
abbrev pub is_command : List ℕ → Bool
is_command word = bytes_eq word (codes "run") || bytes_eq word (codes "std")

-- the options of the command's words, where these are such
unfoldable pub options_of : List (List ℕ) → Option Options
options_of [] = None
options_of (word ∷ words) = if is_command word then option_map in_force (given_by nothing_given words) else None

-- the options of the command `shared`: those of `run` but `--idle`, since such a run isn't given up
abbrev pub without_idle : Option Given → Option Options
without_idle None = None
without_idle (Some given) = if is_none given.idle then Some (in_force given) else None

-- the first word is `std`
abbrev pub asks_for_folder : List (List ℕ) → Bool
asks_for_folder [] = false
asks_for_folder (name ∷ words) = bytes_eq name (codes "std")

-- the first word is `shared`
abbrev pub asks_for_threads : List (List ℕ) → Bool
asks_for_threads [] = false
asks_for_threads (name ∷ words) = bytes_eq name (codes "shared")

unfoldable pub shared_options_of : List (List ℕ) → Option Options
shared_options_of [] = None
shared_options_of (word ∷ words) = if bytes_eq word (codes "shared") then without_idle (given_by nothing_given words) else None
