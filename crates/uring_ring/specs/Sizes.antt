-- What rings of small entries, of large ones and of both take and keep.
use Rattle.std.specs.Prelude.{ℕ, ℤ, Bool, true, List, Option, None}
use Rattle.uring_base.specs.declared.squeue.Entry.{Entry}
use Rattle.uring_large.specs.declared.squeue.Entry128.{Entry128}
use Rattle.uring_base.specs.declared.buffer.Loan.{Loan}
use Rattle.uring_base.specs.declared.events.Taken.{Taken}
use Rattle.uring_base.specs.declared.events.Completion.{Completion}

-- an entry as the partner takes it, by the small entry and the bytes behind it that it holds, and by its size
abbrev pub taken_as : {S : Type 0} → (S → Entry) → (S → List ℕ) → (S → Bool) → S → Option Loan → Taken
taken_as entry_of big_of large_of entry loan = record { entry = entry_of entry; big = big_of entry; large = large_of entry; loan = loan }

-- a large entry, as it is taken
abbrev pub large_taken : Entry128 → Option Loan → Taken
large_taken entry loan = record { entry = entry.entry; big = entry.big; large = true; loan = loan }

-- what is taken of an entry without a loan
abbrev pub unlent : {S : Type 0} → (S → Entry) → (S → List ℕ) → (S → Bool) → S → Taken
unlent entry_of big_of large_of entry = taken_as entry_of big_of large_of entry None

-- what a ring keeps of a posted completion: as much of the two further numbers as an entry that is
-- made of its words holds, and the size of that entry
abbrev pub kept_as : {C : Type 0} → (ℕ → ℤ → ℕ → Bool → List ℕ → C) → (C → List ℕ) → (C → Bool) → Completion → Completion
kept_as made_of big_of large_of c = record c { big = big_of (made_of c.user_data c.result c.flags c.large c.big); large = large_of (made_of c.user_data c.result c.flags c.large c.big) }
