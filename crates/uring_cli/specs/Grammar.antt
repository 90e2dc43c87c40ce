-- The options of the command by what its words say, apart from any reading.
use Rattle.std.specs.Prelude.{◌≡◌, ◌≢◌, ℕ, ◌*◌, ◌≤◌, ◌⊎◌, min, List, [], ◌∷◌, All, AllPairs, Contains, codes, decimal, flat_map}
use Rattle.uring_cli.specs.declared.words.Options.{Options}
use Rattle.uring_cli.specs.declared.words.TheConstants.{MAX_NUMBER, DEFAULT_ENTRIES, DEFAULT_IDLE}

pub data Name : Type 0 where
  Sq : Name
  Cq : Name
  Start : Name
  Idle : Name

abbrev pub name_text : Name → List ℕ
name_text Sq = codes "--sq"
name_text Cq = codes "--cq"
name_text Start = codes "--start"
name_text Idle = codes "--idle"

-- an option that is given
pub record Setting : Type 0 where
  pub name : Name
  pub number : ℕ

-- its two words: the name, and the number in decimal digits, without a sign and without zeros in front
abbrev pub setting_words : Setting → List (List ℕ)
setting_words setting = name_text setting.name ∷ decimal setting.number ∷ []

-- the least number that may stand behind a name
abbrev pub least : Name → ℕ
least Sq = 0
least Cq = 0
least Start = 0
least Idle = 1

abbrev pub IsSettingInRange : Setting → Type 0
IsSettingInRange setting = (least setting.name ≤ setting.number) × (setting.number ≤ MAX_NUMBER)

-- the number is the one that is given under the name, or the default where none is
abbrev pub IsInForce : List Setting → Name → ℕ → ℕ → Type 0
IsInForce settings name default number = Contains settings (record { name = name; number = number }) ⊎ (All (λ s. s.name ≢ name) settings × (number ≡ default))

-- a command that runs a script on the program's own thread
abbrev pub IsCommand : List ℕ → Type 0
IsCommand word = (word ≡ codes "run") ⊎ (word ≡ codes "std")

-- The words are `run` or `std` and settings, of which no two have one name; these and the defaults make the options.
pub record SaysOptions (words : List (List ℕ)) (options : Options) : Type 0 where
  pub command : List ℕ
  pub known : IsCommand command
  pub settings : List Setting
  pub spelled : words ≡ command ∷ flat_map setting_words settings
  pub once : AllPairs (λ s t. s.name ≢ t.name) settings
  pub in_range : All IsSettingInRange settings
  pub sq : IsInForce settings Sq DEFAULT_ENTRIES options.sq
  pub cq : IsInForce settings Cq (min (2 * options.sq) MAX_NUMBER) options.cq
  pub start : IsInForce settings Start 0 options.start
  pub idle : IsInForce settings Idle DEFAULT_IDLE options.idle
