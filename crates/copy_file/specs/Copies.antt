-- What a copy makes.
use Rattle.std.specs.Prelude.{◌≡◌, ℕ, ◌+◌, ◌-◌, ◌/◌, List, Option, Some, None}
use Rattle.std.specs.FinMap as finite
use Rattle.uring_partner.specs.declared.memory.MemoryPartner.{MemoryPartner}
use Rattle.uring_partner.specs.Told.{state_of}
use Rattle.copy_file.specs.declared.copied.Copied.{Copied}
use Rattle.copy_file.specs.declared.copied.TheConstants.{PIECE}

-- the bytes of the file of that number
abbrev pub bytes_under : MemoryPartner → ℕ → Option (List ℕ)
bytes_under partner number = finite.get (state_of partner).world.files number

-- both files are there, with the same bytes
abbrev pub IsCopy : Option (List ℕ) → Option (List ℕ) → Type 0
IsCopy (Some source) (Some copy) = copy ≡ source
IsCopy (Some source) None = ⊥
IsCopy None copy = ⊥

-- how many pieces so many bytes have, of which the last may be short
abbrev pub pieces_in : ℕ → ℕ
pieces_in len = (len + (PIECE - 1)) / PIECE

-- all bytes were copied, by so many operations
pub record IsWholeCopy (copied : Copied) (len count : ℕ) : Type 0 where
  pub bytes : copied.bytes ≡ len
  pub operations : copied.operations ≡ count
