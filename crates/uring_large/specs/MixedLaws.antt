-- The laws of the markers, for entries of either size, and their proofs.
use Rattle.std.specs.Prelude.{◌≡◌, ℕ, ℤ, Bool, true, false, List, refl}
use Rattle.uring_base.specs.declared.cqueue.Entry.{Entry as Completed}
use Rattle.uring_large.specs.Numbers.{entry_numbered, completion_numbered}
use Rattle.uring_large.specs.Mixed.{entry_in, bytes_behind, is_large_entry, mixed_entry_numbered, completion_in, further_numbers, is_large_completion, mixed_completion_numbered, mixed_completion}
use Rattle.uring_large.specs.declared.mixed_entry.MixedEntry.{MixedEntry}
use Rattle.uring_large.specs.declared.mixed_entry.MixedEntry.TheVariants.{Small, Large}
use Rattle.uring_large.specs.declared.mixed_completion.MixedCompletion.{MixedCompletion}
use Rattle.uring_large.specs.declared.mixed_completion.MixedCompletion.TheVariants.{Small as SmallOne, Large as LargeOne}

pub entry_words_stay : (value : MixedEntry) (number : ℕ) → entry_in (mixed_entry_numbered value number) ≡ entry_numbered (entry_in value) number
entry_words_stay (Small e) number = refl
entry_words_stay (Large e) number = refl

pub bytes_behind_stay : (value : MixedEntry) (number : ℕ) → bytes_behind (mixed_entry_numbered value number) ≡ bytes_behind value
bytes_behind_stay (Small e) number = refl
bytes_behind_stay (Large e) number = refl

pub entry_size_stays : (value : MixedEntry) (number : ℕ) → is_large_entry (mixed_entry_numbered value number) ≡ is_large_entry value
entry_size_stays (Small e) number = refl
entry_size_stays (Large e) number = refl

pub entry_restores : (value : MixedEntry) (number : ℕ) → mixed_entry_numbered (mixed_entry_numbered value number) (entry_in value).user_data ≡ value
entry_restores (Small e) number = refl
entry_restores (Large e) number = refl

pub completion_words_kept : (user_data : ℕ) (outcome : ℤ) (flags : ℕ) (large : Bool) (big : List ℕ) → completion_in (mixed_completion user_data outcome flags large big) ≡ record { user_data = user_data; result = outcome; flags = flags }
completion_words_kept user_data outcome flags true big = refl
completion_words_kept user_data outcome flags false big = refl

pub completion_words_stay : (value : MixedCompletion) (number : ℕ) → completion_in (mixed_completion_numbered value number) ≡ completion_numbered (completion_in value) number
completion_words_stay (SmallOne c) number = refl
completion_words_stay (LargeOne c) number = refl

pub further_numbers_stay : (value : MixedCompletion) (number : ℕ) → further_numbers (mixed_completion_numbered value number) ≡ further_numbers value
further_numbers_stay (SmallOne c) number = refl
further_numbers_stay (LargeOne c) number = refl

pub completion_size_stays : (value : MixedCompletion) (number : ℕ) → is_large_completion (mixed_completion_numbered value number) ≡ is_large_completion value
completion_size_stays (SmallOne c) number = refl
completion_size_stays (LargeOne c) number = refl

pub completion_restores : (value : MixedCompletion) (number : ℕ) → mixed_completion_numbered (mixed_completion_numbered value number) (completion_in value).user_data ≡ value
completion_restores (SmallOne c) number = refl
completion_restores (LargeOne c) number = refl
