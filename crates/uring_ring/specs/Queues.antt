-- Queue values, by the rings that they lend.
use Rattle.std.specs.Prelude.{◌≡◌, ℕ, ℤ, Bool, ◌<◌, List, [], ◌∷◌, Option, MatchOption, map, take, bit_or}
use Rattle.bitflags.specs.Sets.{without}
use Rattle.ring_setup.specs.declared.ring_flags.TheConstants.CompletionRingFlags.{EVENTFD_DISABLED}
use Rattle.uring_base.specs.declared.buffer.Loan.{Loan}
use Rattle.uring_base.specs.declared.events.Taken.{Taken}
use Rattle.uring_base.specs.declared.events.Completion.{Completion}
use Rattle.uring_ring.specs.declared.submission_queue.SubmissionQueue.{SubmissionQueue}
use Rattle.uring_ring.specs.declared.submission_queue.Refused.{Refused}
use Rattle.uring_ring.specs.declared.submission_ring.SubmissionWords.{SubmissionWords}
use Rattle.uring_ring.specs.declared.completion_queue.CompletionQueue.{CompletionQueue}
use Rattle.uring_ring.specs.declared.completion_queue.CompletionStatus.{CompletionStatus}
use Rattle.uring_ring.specs.declared.completion_queue.Received.{Received}
use Rattle.uring_ring.specs.declared.completion_ring.CompletionWords.{CompletionWords}
use Rattle.ring_core.specs.Held.{Held}
use Rattle.ring_core.specs.Slots.{held_of, with_takes}

-- what the lent ring holds, and the words beside it
abbrev pub entries_at : {S : Type 0} → SubmissionQueue S → Held Taken
entries_at queue = held_of queue.ring.now.slots

abbrev pub submission_words_at : {S : Type 0} → SubmissionQueue S → SubmissionWords
submission_words_at queue = queue.ring.now.words

abbrev pub completions_at : {C : Type 0} → CompletionQueue C → Held Completion
completions_at queue = held_of queue.ring.now.slots

abbrev pub completion_words_at : {C : Type 0} → CompletionQueue C → CompletionWords
completion_words_at queue = queue.ring.now.words

abbrev pub completions_of_status : CompletionStatus → Held Completion
completions_of_status status = held_of status.ring.now.slots

-- the entry and the loan come back
abbrev pub refused : {S : Type 0} → S → Option Loan → Refused S
refused entry loan = record { error = record {}; entry = entry; loan = loan }

module _ {C : Type 0} (made_of : ℕ → ℤ → ℕ → Bool → List ℕ → C) where
  -- a completion as a ring of such entries gives it
  abbrev pub received_as : Completion → Received C
  received_as c = record { entry = made_of c.user_data c.result c.flags c.large c.big; loan = c.loan }

  -- so many completions in front, as they are given
  abbrev pub first_received : ℕ → Held Completion → List (Received C)
  first_received n h = map received_as (take n h.published)

  -- `next` took the queue from old to new: it gave the completion in front where one waited as last
  -- seen, and else changed nothing
  pub record QueueSteps (old : CompletionQueue C) (item : Option (Received C)) (new : CompletionQueue C) : Type 0 where
    pub same_reference : new.ring.ghost_name ≡ old.ring.ghost_name
    pub words : completion_words_at new ≡ completion_words_at old
    pub gives : MatchOption item (((completions_at old).waiting ≡ 0) × (completions_at new ≡ completions_at old))
        (λ x. (0 < (completions_at old).waiting) × (first_received 1 (completions_at old) ≡ x ∷ []) × (completions_at new ≡ with_takes 1 (completions_at old)))

-- no event is to be sent for a completion, and events are sent again
abbrev pub without_events : CompletionWords → CompletionWords
without_events words = record words { flags = bit_or words.flags EVENTFD_DISABLED.0 }

abbrev pub with_events : CompletionWords → CompletionWords
with_events words = record words { flags = without 32 words.flags EVENTFD_DISABLED.0 }
