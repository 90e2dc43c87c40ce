-- What an iteration over a completion queue gives.
use Rattle.std.specs.Prelude.{◌≡◌, ℕ, ℤ, Bool, List, length}
use Rattle.std.specs.Iterator.{Drains}
use Rattle.uring_ring.specs.declared.completion_queue.CompletionQueue.{CompletionQueue}
use Rattle.uring_ring.specs.declared.completion_queue.Received.{Received}
use Rattle.uring_ring.specs.Queues.{completions_at, first_received, QueueSteps}

module _ {C : Type 0} (made_of : ℕ → ℤ → ℕ → Bool → List ℕ → C) where
  -- the items until the end are as many as waited
  abbrev pub ItemsAreAsManyAsLen : Type 0
  ItemsAreAsManyAsLen = (queue : CompletionQueue C) (items : List (Received C)) → Drains (QueueSteps made_of) queue items → length items ≡ (completions_at queue).waiting

  -- they are the completions that waited, in their order
  abbrev pub ItemsAreTheWaiting : Type 0
  ItemsAreTheWaiting = (queue : CompletionQueue C) (items : List (Received C)) → Drains (QueueSteps made_of) queue items → items ≡ first_received made_of (completions_at queue).waiting (completions_at queue)
