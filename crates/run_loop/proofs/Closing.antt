-- Slots, once each quiet job in front of one that has its outcome has its own.
use Rattle.std.proofs.Common.{◌≡◌, ℕ, ◌≤◌, ◌<◌, zero, suc, Bool, true, false, List, [], ◌∷◌, length, Some, slice_get, slice_set, refl, ap, sym, ◌∙◌, arith}
use Rattle.uring_model.specs.declared.jobs.Outcome.{Outcome}
use Rattle.run_loop.specs.declared.slot.Reply.{Reply}
use Rattle.run_loop.specs.declared.slot.Slot.{Slot}
use Rattle.run_loop.specs.declared.slot.Slot.TheVariants.{Open, Done}
use Rattle.run_loop.specs.Slots.{count_open, first_is_done, closed_slot, all_closed}

-- a slot that is closed once more, where the one behind it was done before only if it is done now
closed_again : (slot : Slot) (before now : Bool) → (before ≡ true → now ≡ true) → closed_slot (closed_slot slot before) now ≡ closed_slot slot now
closed_again (Done o) before now h = refl
closed_again (Open reply false) before now h = refl
closed_again (Open reply true) true now h = ap (closed_slot (Open reply true)) (sym (h refl))
closed_again (Open reply true) false now h = refl

pub closed_twice : (slots : List Slot) → all_closed (all_closed slots) ≡ all_closed slots
closed_twice [] = refl
closed_twice (slot ∷ slots) =
    let rest = closed_twice slots in
    let here : first_is_done (all_closed (all_closed slots)) ≡ first_is_done (all_closed slots) = ap first_is_done rest in
    (λ i. closed_slot (closed_slot slot (first_is_done (all_closed slots))) (here i) ∷ rest i)
    ∙ ap (λ s. s ∷ all_closed slots) (closed_again slot (first_is_done (all_closed slots)) (first_is_done (all_closed slots)) (λ e. e))

-- a job that gets its outcome leaves those that have one

done_first : (slot : Slot) (before now : Bool) (xs ys : List Slot) → (before ≡ true → now ≡ true) → first_is_done (closed_slot slot before ∷ xs) ≡ true → first_is_done (closed_slot slot now ∷ ys) ≡ true
done_first (Done o) before now xs ys h e = refl
done_first (Open reply false) before now xs ys h e = e
done_first (Open reply true) true now xs ys h e = ap (λ b. first_is_done (closed_slot (Open reply true) b ∷ ys)) (h refl)
done_first (Open reply true) false now xs ys h e = cc

pub first_stays : (slots : List Slot) (k : ℕ) (o : Outcome) → first_is_done (all_closed slots) ≡ true → first_is_done (all_closed (slice_set slots k (Done o))) ≡ true
first_stays [] k o e = e
first_stays (slot ∷ slots) zero o e = refl
first_stays (slot ∷ slots) (suc k) o e = done_first slot (first_is_done (all_closed slots)) (first_is_done (all_closed (slice_set slots k (Done o)))) (all_closed slots) (all_closed (slice_set slots k (Done o))) (first_stays slots k o) e

-- whether closed before or not, the same slots come of an outcome
pub closed_set : (slots : List Slot) (k : ℕ) (o : Outcome) → all_closed (slice_set (all_closed slots) k (Done o)) ≡ all_closed (slice_set slots k (Done o))
closed_set [] k o = refl
closed_set (slot ∷ slots) zero o = ap (λ l. Done o ∷ l) (closed_twice slots)
closed_set (slot ∷ slots) (suc k) o =
    let rest = closed_set slots k o in
    let now = first_is_done (all_closed (slice_set slots k (Done o))) in
    (λ i. closed_slot (closed_slot slot (first_is_done (all_closed slots))) (first_is_done (rest i)) ∷ rest i)
    ∙ ap (λ s. s ∷ all_closed (slice_set slots k (Done o))) (closed_again slot (first_is_done (all_closed slots)) now (first_stays slots k o))

-- what is open then was open

was_open : (slot : Slot) (next : Bool) (reply : Reply) (quiet : Bool) → Some (closed_slot slot next) ≡ Some (Open reply quiet) → Some slot ≡ Some (Open reply quiet)
was_open (Done o) next reply quiet e = cc
was_open (Open r false) next reply quiet e = e
was_open (Open r true) true reply quiet e = cc
was_open (Open r true) false reply quiet e = e

pub open_closed : (slots : List Slot) (k : ℕ) (reply : Reply) (quiet : Bool) → slice_get (all_closed slots) k ≡ Some (Open reply quiet) → slice_get slots k ≡ Some (Open reply quiet)
open_closed [] k reply quiet e = e
open_closed (slot ∷ slots) zero reply quiet e = was_open slot (first_is_done (all_closed slots)) reply quiet e
open_closed (slot ∷ slots) (suc k) reply quiet e = open_closed slots k reply quiet e

pub closed-length : (slots : List Slot) → length (all_closed slots) ≡ length slots
closed-length [] = refl
closed-length (slot ∷ slots) = ap suc (closed-length slots)

fewer : (slot : Slot) (next : Bool) (xs ys : List Slot) → count_open xs ≤ count_open ys → count_open (closed_slot slot next ∷ xs) ≤ count_open (slot ∷ ys)
fewer (Done o) next xs ys h = h
fewer (Open r false) next xs ys h = omega (arith, h)
fewer (Open r true) true xs ys h = omega (arith, h)
fewer (Open r true) false xs ys h = omega (arith, h)

pub count_closed : (slots : List Slot) → count_open (all_closed slots) ≤ count_open slots
count_closed [] = omega arith
count_closed (slot ∷ slots) = fewer slot (first_is_done (all_closed slots)) (all_closed slots) slots (count_closed slots)

-- slots that are closed, and what is behind the one that gets its outcome

pub tail_closed : (slot : Slot) (slots : List Slot) → all_closed (slot ∷ slots) ≡ slot ∷ slots → (closed_slot slot (first_is_done slots) ≡ slot) × (all_closed slots ≡ slots)
tail_closed slot slots e =
    let rest : all_closed slots ≡ slots = cc in
    let here : closed_slot slot (first_is_done (all_closed slots)) ≡ slot = cc in
    (ap (λ l. closed_slot slot (first_is_done l)) (sym rest) ∙ here, rest)

pub closed_behind : (slots : List Slot) (k n : ℕ) (o : Outcome) → all_closed slots ≡ slots → k < n → slice_get (all_closed (slice_set slots k (Done o))) n ≡ slice_get slots n
closed_behind [] k n o e lt = refl
closed_behind (slot ∷ slots) k zero o e lt = absurd (omega arith)
closed_behind (slot ∷ slots) zero (suc n) o e lt = ap (λ l. slice_get l n) (tail_closed slot slots e).1
closed_behind (slot ∷ slots) (suc k) (suc n) o e lt = closed_behind slots k n o (tail_closed slot slots e).1 (omega (arith, lt))
