-- Entries and completions with another number, all else as it was.
use Rattle.std.specs.Prelude.{ℕ}
use Rattle.uring_base.specs.declared.squeue.Entry.{Entry}
use Rattle.uring_large.specs.declared.squeue.Entry128.{Entry128}
use Rattle.uring_base.specs.declared.cqueue.Entry.{Entry as Small}
use Rattle.uring_large.specs.declared.cqueue.Entry32.{Entry32}

abbrev pub entry_numbered : Entry → ℕ → Entry
entry_numbered e number = record e { user_data = number }

abbrev pub large_entry_numbered : Entry128 → ℕ → Entry128
large_entry_numbered e number = record e { entry = entry_numbered e.entry number }

abbrev pub completion_numbered : Small → ℕ → Small
completion_numbered c number = record c { user_data = number }

abbrev pub large_completion_numbered : Entry32 → ℕ → Entry32
large_completion_numbered c number = record c { entry = completion_numbered c.entry number }
