-- Slots and their counts.
use Rattle.std.proofs.Common.{◌≡◌, ℕ, zero, suc, Bool, true, false, ◌||◌, not, nat_lt, List, [], ◌∷◌, length, Option, Some, None, slice_get, slice_set, refl, ap}
use Rattle.uring_base.specs.declared.events.Completion.{Completion}
use Rattle.uring_model.specs.declared.jobs.Job.{Job}
use Rattle.uring_model.specs.declared.jobs.Outcome.{Outcome}
use Rattle.run_loop.specs.declared.slot.Reply.{Reply}
use Rattle.run_loop.specs.declared.slot.Slot.{Slot}
use Rattle.run_loop.specs.declared.slot.Slot.TheVariants.{Open, Done}
use Rattle.run_loop.specs.Slots.{count_open, is_strange_at, is_unexpected, open_slots}

pub count_of_open_slots : (jobs : List Job) → count_open (open_slots jobs) ≡ length jobs
count_of_open_slots [] = refl
count_of_open_slots (job ∷ jobs) = ap suc (count_of_open_slots jobs)

-- an open slot that is done is one less
pub count_of_done : (slots : List Slot) (j : ℕ) (reply : Reply) (quiet : Bool) (o : Outcome) → slice_get slots j ≡ Some (Open reply quiet) → count_open slots ≡ suc (count_open (slice_set slots j (Done o)))
count_of_done [] j reply quiet o e = cc
count_of_done (Open l q ∷ slots) zero reply quiet o e = refl
count_of_done (Done d ∷ slots) zero reply quiet o e = cc
count_of_done (Open l q ∷ slots) (suc j) reply quiet o e = ap suc (count_of_done slots j reply quiet o e)
count_of_done (Done d ∷ slots) (suc j) reply quiet o e = count_of_done slots j reply quiet o e

or_parts : (a b : Bool) → (a || b) ≡ false → (a ≡ false) × (b ≡ false)
or_parts true b e = cc
or_parts false b e = (refl, e)

open_at : (slot : Option Slot) (c : Completion) → is_strange_at slot c ≡ false → (reply : Reply) × (quiet : Bool) × (slot ≡ Some (Open reply quiet))
open_at None c e = cc
open_at (Some (Done o)) c e = cc
open_at (Some (Open reply quiet)) c e = (reply, quiet, refl)

-- a completion that is no stranger finds its job started and open
pub due_open : (started : ℕ) (slots : List Slot) (c : Completion) → is_unexpected started slots c ≡ false → (reply : Reply) × (quiet : Bool) × (slice_get slots c.user_data ≡ Some (Open reply quiet))
due_open started slots c e = open_at (slice_get slots c.user_data) c (or_parts (not (nat_lt c.user_data started)) (is_strange_at (slice_get slots c.user_data) c) e).1
