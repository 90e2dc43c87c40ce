-- What the source gave.
use Rattle.std.specs.Prelude.{◌≡◌, ℕ, List, Option, Some}
use Rattle.uring_streams.specs.Inputs.{IsWholeInput, IsRefusedFor}
use Rattle.uring_streams.specs.declared.read.InputFault.TheVariants as refusals
use Rattle.uring_text.specs.Lines.{lines_of}
use Rattle.uring_text.specs.Script.{Told, script_of, IsFaultLine}
use Rattle.uring_text.specs.declared.status.Status.{Status}
use Rattle.uring_text.specs.declared.status.Status.TheVariants as ends

-- The whole input was read, which isn't too long, and is a script that tells this.
pub record GaveScript (left left' : Option (List ℕ)) (taken taken' : ℕ) (told : Told) : Type 0 where
  pub bytes : List ℕ
  pub whole : IsWholeInput left left' taken taken' bytes
  pub script : script_of (lines_of bytes) ≡ Some told

-- The whole input was read, which isn't too long, and is no script by this line.
pub record GaveFault (left left' : Option (List ℕ)) (taken taken' : ℕ) (line : ℕ) : Type 0 where
  pub bytes : List ℕ
  pub whole : IsWholeInput left left' taken taken' bytes
  pub fault : IsFaultLine (lines_of bytes) line

-- what the source gave where no script came of it
abbrev pub GaveNone : Option (List ℕ) → Option (List ℕ) → ℕ → ℕ → ℕ → ℕ → Status → Type 0
GaveNone left left' taken taken' faults faults' ends.ReadFault = IsRefusedFor left taken taken' faults faults' refusals.ReadFault
GaveNone left left' taken taken' faults faults' ends.TooLong = IsRefusedFor left taken taken' faults faults' refusals.TooLong
GaveNone left left' taken taken' faults faults' ends.NoMemory = IsRefusedFor left taken taken' faults faults' refusals.NoMemory
GaveNone left left' taken taken' faults faults' (ends.Script line) = GaveFault left left' taken taken' line
GaveNone left left' taken taken' faults faults' ends.Done = ⊥
GaveNone left left' taken taken' faults faults' ends.Usage = ⊥
GaveNone left left' taken taken' faults faults' ends.BadSize = ⊥
GaveNone left left' taken taken' faults faults' (ends.BadJob job) = ⊥
GaveNone left left' taken taken' faults faults' (ends.Stranger number) = ⊥
GaveNone left left' taken taken' faults faults' ends.Stalled = ⊥
GaveNone left left' taken taken' faults faults' ends.PartnerFault = ⊥
GaveNone left left' taken taken' faults faults' ends.WriteFault = ⊥
