-- What reading a whole input answers.
use Rattle.std.specs.Prelude.{◌≡◌, ℕ, ◌+◌, ◌≤◌, ◌<◌, List, [], length, Option, Some, None, IfSome, ⊤}
use Rattle.std.specs.Io.KnownBytes.{Consumes}
use Rattle.uring_base.specs.Causes.{Rose}
use Rattle.uring_streams.specs.declared.read.TheConstants.{INPUT_LIMIT}
use Rattle.uring_streams.specs.declared.read.InputFault.{InputFault}
use Rattle.uring_streams.specs.declared.read.InputFault.TheVariants.{ReadFault, TooLong, NoMemory}

-- where the source tells, the bytes are all that was left, and nothing is left now
abbrev pub ReadsAll : Option (List ℕ) → Option (List ℕ) → List ℕ → Type 0
ReadsAll None now bytes = ⊤
ReadsAll (Some input) now bytes = (bytes ≡ input) × (now ≡ Some [])

-- the bytes are the whole input, within the limit, and the source has given these bytes and no more
pub record IsWholeInput (left left' : Option (List ℕ)) (taken taken' : ℕ) (bytes : List ℕ) : Type 0 where
  pub all : ReadsAll left left' bytes
  pub counted : taken' ≡ taken + length bytes
  pub within : length bytes ≤ INPUT_LIMIT

-- what stands behind each refusal of an input: a fault of the source, more bytes than the limit, or want of memory
abbrev pub IsRefusedFor : Option (List ℕ) → ℕ → ℕ → ℕ → ℕ → InputFault → Type 0
IsRefusedFor left taken taken' faults faults' ReadFault = Rose faults faults' × (taken' ≤ taken + INPUT_LIMIT)
IsRefusedFor left taken taken' faults faults' TooLong = IfSome left (λ input. INPUT_LIMIT < length input) × (taken + INPUT_LIMIT < taken')
IsRefusedFor left taken taken' faults faults' NoMemory = taken' ≤ taken + INPUT_LIMIT

-- the source has given some bytes, where it tells those from its front, and counted them
pub record GaveFront (left left' : Option (List ℕ)) (taken taken' : ℕ) : Type 0 where
  pub bytes : List ℕ
  pub front : Consumes left left' bytes
  pub counted : taken' ≡ taken + length bytes
