-- The table of a run: a slot for each job.
use Rattle.std.specs.Prelude.{ℕ, suc, ◌+◌, Bool, true, false, ◌||◌, ◌&&◌, not, cond, if◌then◌else◌, nat_lt, nat_eq, List, [], ◌∷◌, map, Option, Some, None, slice_get, slice_set}
use Rattle.uring_base.specs.declared.events.Completion.{Completion}
use Rattle.uring_base.specs.Completions.{is_final}
use Rattle.uring_model.specs.Strange.{has_other_number, has_wrong_loan}
use Rattle.uring_model.specs.declared.jobs.Job.{Job}
use Rattle.run_loop.specs.Told.{Ending, reply_for, lends, outcome_from, unposted}
use Rattle.run_loop.specs.declared.entries.Offer.{Offer}
use Rattle.run_loop.specs.declared.slot.Slot.{Slot}
use Rattle.run_loop.specs.declared.slot.Slot.TheVariants.{Open, Done}

abbrev pub count_open : List Slot → ℕ
count_open [] = 0
count_open (Open reply quiet ∷ slots) = suc (count_open slots)
count_open (Done outcome ∷ slots) = count_open slots

abbrev pub is_strange_at : Option Slot → Completion → Bool
is_strange_at None c = true
is_strange_at (Some (Done outcome)) c = true
is_strange_at (Some (Open reply quiet)) c = has_other_number c.user_data c.loan || has_wrong_loan (lends reply) (is_final c.flags) c.loan

-- a completion that no started and open job is due
abbrev pub is_unexpected : ℕ → List Slot → Completion → Bool
is_unexpected started slots c = not (nat_lt c.user_data started) || is_strange_at (slice_get slots c.user_data) c

-- the slots before the run

abbrev pub open_slot : Job → Slot
open_slot job = Open (reply_for job.kind) job.quiet

abbrev pub open_slots : List Job → List Slot
open_slots jobs = map open_slot jobs

-- a quiet job without an outcome has one as soon as the next job has

abbrev pub first_is_done : List Slot → Bool
first_is_done [] = false
first_is_done (Open reply quiet ∷ slots) = false
first_is_done (Done outcome ∷ slots) = true

abbrev pub closed_slot : Slot → Bool → Slot
closed_slot (Open reply quiet) next = cond (quiet && next) (Done unposted) (Open reply quiet)
closed_slot (Done outcome) next = Done outcome

abbrev pub all_closed : List Slot → List Slot
all_closed [] = []
all_closed (slot ∷ slots) = closed_slot slot (first_is_done (all_closed slots)) ∷ all_closed slots

-- a final completion gives its job an outcome, and so the quiet ones in front of it

abbrev pub land_in : Option Slot → List Slot → ℕ → Ending → List Slot
land_in None slots n e = slots
land_in (Some (Done outcome)) slots n e = slots
land_in (Some (Open reply quiet)) slots n e = slice_set slots n (Done (outcome_from reply e))

abbrev pub land_one : List Slot → Completion → List Slot
land_one slots c = if is_final c.flags then all_closed (land_in (slice_get slots c.user_data) slots c.user_data (record { result = c.result; loan = c.loan })) else slots

abbrev pub land_all : List Slot → List Completion → List Slot
land_all slots [] = slots
land_all slots (c ∷ cs) = land_all (land_one slots c) cs

-- the first of these completions that is a stranger, by its number
abbrev pub stranger_among : ℕ → List Slot → List Completion → Option ℕ
stranger_among started slots [] = None
stranger_among started slots (c ∷ cs) = if is_unexpected started slots c then Some c.user_data else stranger_among started (land_one slots c) cs

abbrev pub any_final : List Completion → Bool
any_final [] = false
any_final (c ∷ cs) = is_final c.flags || any_final cs

-- the first final completion of job j
abbrev pub final_of : ℕ → List Completion → Option Ending
final_of j [] = None
final_of j (c ∷ cs) = cond (is_final c.flags && nat_eq c.user_data j) (Some (record { result = c.result; loan = c.loan })) (final_of j cs)

abbrev pub own_slot : Offer → Option Ending → Slot
own_slot offer None = Open offer.reply offer.quiet
own_slot offer (Some e) = Done (outcome_from offer.reply e)

-- the slots of the offers, counted from n, by what these completions say of each by itself
abbrev pub own_slots : ℕ → List Offer → List Completion → List Slot
own_slots n [] cs = []
own_slots n (offer ∷ offers) cs = own_slot offer (final_of n cs) ∷ own_slots (n + 1) offers cs

-- the slots of the offers, counted from n, after these completions
abbrev pub slots_from : ℕ → List Offer → List Completion → List Slot
slots_from n offers cs = all_closed (own_slots n offers cs)
