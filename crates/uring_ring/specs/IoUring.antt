-- A pair of rings for one thread, by what it holds.
use Rattle.std.specs.Prelude.{◌≡◌, ℕ, List, [], length}
use Rattle.uring_base.specs.declared.events.Taken.{Taken}
use Rattle.uring_base.specs.declared.events.Completion.{Completion}
use Rattle.std.specs.Borrow.{Lends, LendsBoth, MutBor, Fml, RattleType}
use Rattle.uring_ring.specs.declared.io_uring.IoUring.{IoUring}
use Rattle.ring_setup.specs.Setup.{told_entries, told_completions}
use Rattle.ring_setup.specs.declared.parameters.Parameters.{Parameters}
use Rattle.uring_ring.specs.declared.submission_ring.SubmissionRing.{SubmissionRing}
use Rattle.uring_ring.specs.declared.submission_ring.SubmissionWords.{SubmissionWords}
use Rattle.uring_ring.specs.declared.completion_ring.CompletionRing.{CompletionRing}
use Rattle.uring_ring.specs.declared.completion_ring.CompletionWords.{CompletionWords}
use Rattle.uring_ring.specs.contracts.io_uring.IoUring as io_uring
use Rattle.uring_ring.specs.contracts.submission_ring.SubmissionRing as submission_ring
use Rattle.uring_ring.specs.contracts.completion_ring.CompletionRing as completion_ring
use Rattle.ring_core.specs.Held.{Held}
use Rattle.ring_core.specs.Slots.{held_of}
use Rattle.uring_ring.specs.Between.{lists_between}
use Rattle.ring_traits.specs.Lists.{Lists, Moves, Uses, Advances}

abbrev pub entries_in : {S C : Type 0} → IoUring S C → Held Taken
entries_in ring = held_of ring.submissions.slots

abbrev pub completions_in : {S C : Type 0} → IoUring S C → Held Completion
completions_in ring = held_of ring.completions.slots

abbrev pub parameters_of : {S C : Type 0} → IoUring S C → Parameters
parameters_of ring = ring.parameters

abbrev pub lists_of : {S C : Type 0} → IoUring S C → Lists
lists_of ring = lists_between (entries_in ring) (completions_in ring)

-- the words beside the two rings
pub record RingWords : Type 0 where
  -- the flags that the submission ring shows
  pub flags : ℕ
  -- how many entries couldn't be taken
  pub dropped : ℕ
  -- how many completions couldn't be posted
  pub overflow : ℕ
  -- the flags that the user sets beside the completions
  pub completion_flags : ℕ

abbrev pub ring_words : {S C : Type 0} → IoUring S C → RingWords
ring_words ring = record {
  flags = ring.submissions.words.flags;
  dropped = ring.submissions.words.dropped;
  overflow = ring.completions.words.overflow;
  completion_flags = ring.completions.words.flags;
}

-- these entries were taken and these completions posted, of which the ring keeps so much
pub record RingMoves {S C : Type 0} (kept : Completion → Completion) (before : IoUring S C) (ts : List Taken) (cs : List Completion) (after : IoUring S C) : Type 0 where
  pub lists : Moves kept (lists_of before) ts cs (lists_of after)
  pub offer_place : (entries_in after).put_place ≡ (entries_in before).put_place
  pub reap_place : (completions_in after).take_place ≡ (completions_in before).take_place
  -- what the user has seen
  pub room : (entries_in after).spare ≡ (entries_in before).spare
  pub waiting : (completions_in after).waiting ≡ (completions_in before).waiting
  pub parameters : parameters_of after ≡ parameters_of before
  pub words : ring_words after ≡ ring_words before

-- the partner changed words alone
pub record RingMarks {S C : Type 0} (before after : IoUring S C) : Type 0 where
  pub entries : entries_in after ≡ entries_in before
  pub completions : completions_in after ≡ completions_in before
  pub parameters : parameters_of after ≡ parameters_of before
  pub user : (ring_words after).completion_flags ≡ (ring_words before).completion_flags

-- these entries were offered and these completions reaped
pub record RingUses {S C : Type 0} (before : IoUring S C) (ts : List Taken) (cs : List Completion) (after : IoUring S C) : Type 0 where
  pub lists : Uses (lists_of before) ts cs (lists_of after)
  pub offer_place : Advances (entries_in before).put_place (length ts) (entries_in after).put_place
  pub reap_place : Advances (completions_in before).take_place (length cs) (completions_in after).take_place
  -- what the partner has seen
  pub ready : (entries_in after).waiting ≡ (entries_in before).waiting
  pub space : (completions_in after).spare ≡ (completions_in before).spare
  pub parameters : parameters_of after ≡ parameters_of before
  pub words : ring_words after ≡ ring_words before

-- nothing stands in a pair of rings of these sizes, and its positions are the start
pub record IsOpened {S C : Type 0} (ring : IoUring S C) (capacity completion_capacity start : ℕ) : Type 0 where
  pub lists : lists_of ring ≡ record { capacity = capacity; published = []; pushed = []; completion_capacity = completion_capacity; completions = []; held = 0 }
  pub room : (entries_in ring).spare ≡ capacity
  pub waiting : (completions_in ring).waiting ≡ 0
  pub ready : (entries_in ring).waiting ≡ 0
  pub space : (completions_in ring).spare ≡ completion_capacity
  pub offer_place : (entries_in ring).put_place ≡ start
  pub reap_place : (completions_in ring).take_place ≡ start
  pub words : ring_words ring ≡ record { flags = 0; dropped = 0; overflow = 0; completion_flags = 0 }

-- the words of one of its rings, and of the other
abbrev pub submission_words_in : {S C : Type 0} → IoUring S C → SubmissionWords
submission_words_in ring = ring.submissions.words

abbrev pub completion_words_in : {S C : Type 0} → IoUring S C → CompletionWords
completion_words_in ring = ring.completions.words

-- the parameters of a ring tell how much fits in it
pub record TellsSizes {S C : Type 0} (ring : IoUring S C) : Type 0 where
  pub entries : told_entries (parameters_of ring) ≡ (lists_of ring).capacity
  pub completions : told_completions (parameters_of ring) ≡ (lists_of ring).completion_capacity

-- the ring ends with its submission ring, or its completion ring, as it is left behind the reference
module _ (S C : RattleType) (ring : MutBor (io_uring.the_row S C).Denot) where
  abbrev pub LendsSubmissions : MutBor SubmissionRing → Fml
  LendsSubmissions lent = Lends (io_uring.the_row S C) submission_ring.the_row ring lent (λ left. record ring.now { submissions = left })

  abbrev pub LendsCompletions : MutBor CompletionRing → Fml
  LendsCompletions lent = Lends (io_uring.the_row S C) completion_ring.the_row ring lent (λ left. record ring.now { completions = left })

  -- the ring ends with both its rings as they are left
  abbrev pub LendsRings : MutBor SubmissionRing × MutBor CompletionRing → Fml
  LendsRings lent = LendsBoth (io_uring.the_row S C) submission_ring.the_row completion_ring.the_row ring lent (λ left right. record ring.now { submissions = left; completions = right })
