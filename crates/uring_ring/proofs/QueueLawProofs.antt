-- The laws of an iteration over a completion queue.
use Rattle.std.proofs.Common.{◌≡◌, ℕ, ℤ, Bool, ◌-◌, ◌<◌, zero, suc, List, [], ◌∷◌, ◌++◌, length, map, take, drop, None, refl, ap, sym, ◌∙◌, arith}
use Rattle.std.specs.Iterator.{Yields}
use Rattle.uring_base.specs.declared.events.Completion.{Completion}
use Rattle.uring_ring.specs.declared.completion_queue.CompletionQueue.{CompletionQueue}
use Rattle.uring_ring.specs.declared.completion_queue.Received.{Received}
use Rattle.ring_core.specs.Held.{Held}
use Rattle.ring_core.specs.Slots.{with_takes}
use Rattle.uring_ring.specs.Queues.{completions_at, first_received, received_as, QueueSteps}
use Rattle.uring_ring.specs.QueueLaws.{ItemsAreAsManyAsLen, ItemsAreTheWaiting}

front_first : {A B : Type 0} (f : A → B) (xs : List A) (n : ℕ) → map f (take (suc n) xs) ≡ map f (take 1 xs) ++ map f (take n (drop 1 xs))
front_first f [] zero = refl
front_first f [] (suc n) = refl
front_first f (x ∷ xs) n = refl

module _ {C : Type 0} (made_of : ℕ → ℤ → ℕ → Bool → List ℕ → C) where
  -- where one waits, the first and then those behind it
  first_of_waiting : (h : Held Completion) → 0 < h.waiting → first_received made_of h.waiting h ≡ first_received made_of 1 h ++ first_received made_of (with_takes 1 h).waiting (with_takes 1 h)
  first_of_waiting h some = ap (λ (n : ℕ). first_received made_of n h) (let e : h.waiting ≡ suc (h.waiting - 1) = omega arith in e) ∙ front_first (received_as made_of) h.published (h.waiting - 1)

  as_many : (items : List (Received C)) (q t u : CompletionQueue C) → Yields (QueueSteps made_of) q items t → QueueSteps made_of t None u → length items ≡ (completions_at q).waiting
  as_many [] q t u same last = sym (ap (λ (x : CompletionQueue C). (completions_at x).waiting) same ∙ last.gives.0)
  as_many (x ∷ items) q t u next last =
      let step = next.1.gives in
      let rest : length items ≡ (completions_at next.0).waiting = as_many items next.0 t u next.2 last in
      let fewer : (completions_at next.0).waiting ≡ (completions_at q).waiting - 1 = ap (λ (h : Held Completion). h.waiting) step.2 in
      omega (arith, step.0)

  the_waiting : (items : List (Received C)) (q t u : CompletionQueue C) → Yields (QueueSteps made_of) q items t → QueueSteps made_of t None u → items ≡ first_received made_of (completions_at q).waiting (completions_at q)
  the_waiting [] q t u same last = sym (ap (λ (n : ℕ). first_received made_of n (completions_at q)) (ap (λ (x : CompletionQueue C). (completions_at x).waiting) same ∙ last.gives.0))
  the_waiting (x ∷ items) q t u next last =
      let step = next.1.gives in
      let rest : items ≡ first_received made_of (completions_at next.0).waiting (completions_at next.0) = the_waiting items next.0 t u next.2 last in
      ap (λ l. x ∷ l) (rest ∙ ap (λ (h : Held Completion). first_received made_of h.waiting h) step.2)
      ∙ ap (λ l. l ++ first_received made_of (with_takes 1 (completions_at q)).waiting (with_takes 1 (completions_at q))) (sym step.1)
      ∙ sym (first_of_waiting (completions_at q) step.0)

  pub items_are_as_many_as_len : ItemsAreAsManyAsLen made_of
  items_are_as_many_as_len q items d = as_many items q d.1.0 d.0 d.1.1 d.1.2

  pub items_are_the_waiting : ItemsAreTheWaiting made_of
  items_are_the_waiting q items d = the_waiting items q d.1.0 d.0 d.1.1 d.1.2
