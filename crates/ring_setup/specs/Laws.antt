-- What the sizes of a ring are.
use Rattle.std.specs.Prelude.{◌≡◌, ℕ, ◌^◌, ◌≤◌, true}
use Rattle.uring_base.specs.declared.limits.TheConstants.{MAX_COMPLETIONS}
use Rattle.uring_base.specs.Sizes.{rounded_up}
use Rattle.ring_setup.specs.declared.settings.Settings.{Settings}
use Rattle.ring_setup.specs.Setup.{told_entries, told_completions, asked_entries, asked_completions, is_buildable, parameters_for}

-- a power of two that is at least the count, and no such power is smaller
pub record IsLeastPower (count power : ℕ) : Type 0 where
  pub exponent : ℕ
  pub value : power ≡ 2 ^ exponent
  pub enough : count ≤ power
  pub least : (k : ℕ) → count ≤ 2 ^ k → power ≤ 2 ^ k

abbrev pub RoundsToLeastPowers : Type 0
RoundsToLeastPowers = (count : ℕ) → count ≤ MAX_COMPLETIONS → IsLeastPower count (rounded_up count)

-- what the parameters of a ring that can be made tell
abbrev pub SizesAreLeastPowers : Type 0
SizesAreLeastPowers = (s : Settings) (entries : ℕ) → is_buildable s entries ≡ true → let p = parameters_for s entries in IsLeastPower (asked_entries s entries) (told_entries p) × IsLeastPower (asked_completions s entries) (told_completions p)
