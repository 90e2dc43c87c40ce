-- The number that a new file gets.
use Rattle.std.specs.Prelude.{◌≡◌, ℕ, ◌+◌, ◌<◌, zero, suc, true, if◌then◌else◌, Option, Some, None}
use Rattle.std.specs.FinMap.{contains_key}
use Rattle.uring_model.specs.Machine.{Files}
use Rattle.uring_model.specs.declared.files.TheConstants.{MAX_FILE_NUMBER}

-- the least number of no file, from n on; none where the next `left` numbers all have one
unfoldable pub least_free_from : Files → (n left : ℕ) → Option ℕ
least_free_from files n zero = None
least_free_from files n (suc left) = if contains_key files n then least_free_from files (n + 1) left else Some n

-- the least number of no file, of those that a result can tell
abbrev pub least_free : Files → Option ℕ
least_free files = least_free_from files 0 (MAX_FILE_NUMBER + 1)

-- each number below the limit has a file
abbrev pub AllUsed : ℕ → Files → Type 0
AllUsed limit files = (n : ℕ) → n < limit → contains_key files n ≡ true
