-- Entries of either size, each by what it holds.
use Rattle.std.specs.Prelude.{ℕ, ℤ, Bool, true, false, List, [], ◌∷◌, replicate}
use Rattle.uring_base.specs.declared.squeue.Entry.{Entry}
use Rattle.uring_base.specs.declared.cqueue.Entry.{Entry as Completed}
use Rattle.uring_large.specs.Numbers.{entry_numbered, large_entry_numbered, completion_numbered, large_completion_numbered}
use Rattle.uring_large.specs.declared.mixed_entry.MixedEntry.{MixedEntry}
use Rattle.uring_large.specs.declared.mixed_entry.MixedEntry.TheVariants.{Small, Large}
use Rattle.uring_large.specs.declared.mixed_completion.MixedCompletion.{MixedCompletion}
use Rattle.uring_large.specs.declared.mixed_completion.MixedCompletion.TheVariants.{Small as SmallOne, Large as LargeOne}

-- the small entry, the bytes behind it, and whether it is a large one
abbrev pub entry_in : MixedEntry → Entry
entry_in (Small e) = e
entry_in (Large e) = e.entry

abbrev pub bytes_behind : MixedEntry → List ℕ
bytes_behind (Small e) = replicate 64 0
bytes_behind (Large e) = e.big

abbrev pub is_large_entry : MixedEntry → Bool
is_large_entry (Small e) = false
is_large_entry (Large e) = true

-- another number, all else as it was
abbrev pub mixed_entry_numbered : MixedEntry → ℕ → MixedEntry
mixed_entry_numbered (Small e) number = Small (entry_numbered e number)
mixed_entry_numbered (Large e) number = Large (large_entry_numbered e number)

-- the small completion, the two further numbers, and whether it is a large one
abbrev pub completion_in : MixedCompletion → Completed
completion_in (SmallOne c) = c
completion_in (LargeOne c) = c.entry

abbrev pub further_numbers : MixedCompletion → List ℕ
further_numbers (SmallOne c) = 0 ∷ 0 ∷ []
further_numbers (LargeOne c) = c.big

abbrev pub is_large_completion : MixedCompletion → Bool
is_large_completion (SmallOne c) = false
is_large_completion (LargeOne c) = true

abbrev pub mixed_completion_numbered : MixedCompletion → ℕ → MixedCompletion
mixed_completion_numbered (SmallOne c) number = SmallOne (completion_numbered c number)
mixed_completion_numbered (LargeOne c) number = LargeOne (large_completion_numbered c number)

-- the completion of these words: a large one has a place for the two further numbers, and a small one has none
abbrev pub mixed_completion : ℕ → ℤ → ℕ → Bool → List ℕ → MixedCompletion
mixed_completion user_data outcome flags true big = LargeOne (record { entry = record { user_data = user_data; result = outcome; flags = flags }; big = big })
mixed_completion user_data outcome flags false big = SmallOne (record { user_data = user_data; result = outcome; flags = flags })
