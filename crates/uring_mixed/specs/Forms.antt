-- Entries and completions of either size, by their bytes.
use Rattle.std.specs.Prelude.{ℕ, nat_eq, if◌then◌else◌, List, ◌∷◌, drop, slice_index}
use Rattle.uring_base.specs.Layouts.{entry_at, entry_bytes, completion_at, completion_bytes}
use Rattle.uring_large.specs.Layouts.{large_entry_at, large_entry_bytes, large_completion_at, large_completion_bytes}
use Rattle.uring_large.specs.declared.mixed_entry.MixedEntry.{MixedEntry}
use Rattle.uring_large.specs.declared.mixed_entry.MixedEntry.TheVariants.{Small, Large}
use Rattle.uring_large.specs.declared.mixed_completion.MixedCompletion.{MixedCompletion}
use Rattle.uring_large.specs.declared.mixed_completion.MixedCompletion.TheVariants.{Small as SmallOne, Large as LargeOne}
use Rattle.uring_mixed.specs.declared.listing.TheConstants.{SMALL_MARK, LARGE_MARK}
use Rattle.uring_mixed.specs.Listing.{Form}

abbrev pub entry_code : MixedEntry → List ℕ
entry_code (Small e) = SMALL_MARK ∷ entry_bytes e
entry_code (Large e) = LARGE_MARK ∷ large_entry_bytes e

abbrev pub entry_held : List ℕ → MixedEntry
entry_held b = if nat_eq (slice_index b 0) SMALL_MARK then Small (entry_at (drop 1 b)) else Large (large_entry_at (drop 1 b))

abbrev pub entry_form : Form MixedEntry
entry_form = record { code = entry_code; held = entry_held; small = 64; large = 128 }

abbrev pub completion_code : MixedCompletion → List ℕ
completion_code (SmallOne c) = SMALL_MARK ∷ completion_bytes c
completion_code (LargeOne c) = LARGE_MARK ∷ large_completion_bytes c

abbrev pub completion_held : List ℕ → MixedCompletion
completion_held b = if nat_eq (slice_index b 0) SMALL_MARK then SmallOne (completion_at (drop 1 b)) else LargeOne (large_completion_at (drop 1 b))

abbrev pub completion_form : Form MixedCompletion
completion_form = record { code = completion_code; held = completion_held; small = 16; large = 32 }
