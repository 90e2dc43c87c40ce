-- Worked rows, computed by the definitions.
use Rattle.std.specs.Prelude.{◌≡◌, ℕ, true, false, List, [], ◌∷◌, ℤ, pos, negsuc, Option, Some, None, refl}
use Rattle.std.specs.Option.{option_map}
use Rattle.std.specs.FinMap as map
use Rattle.std.specs.Cmp.{nat_cmp_total}
use Rattle.std.proofs.Common.{ap, inl, inr}
use Rattle.uring_base.specs.declared.events.Event.{Event}
use Rattle.uring_base.specs.declared.events.Event.TheVariants.{Turn, Take, Post, Quiet}
use Rattle.uring_model.specs.declared.jobs.Link.{Link}
use Rattle.uring_model.specs.declared.jobs.Link.TheVariants.{Free, Soft, Hard}
use Rattle.uring_model.specs.Machine.{Files, ModelOp, Nop, Read, Write, Fsync, Ftruncate, Cancel, step}
use Rattle.uring_model.specs.Jobs.{Job, is_valid_job}
use Rattle.uring_model.specs.Replay.{Result, replay, first_state, table, IsBusy}
use Rattle.uring_model.specs.Chosen.{IsChosen}

abbrev job : ModelOp → List ℕ → Job
job op buf = record { op = op; buf = buf; drain = false; quiet = false; link = Free }

abbrev linking : Link → Job → Job
linking l j = record j { link = l }

abbrev drained : Job → Job
drained j = record j { drain = true }

abbrev out : ℤ → List ℕ → Option Result
out r buf = Some (record { result = r; buf = buf })

-- quiet, and linked softly to the next
abbrev quiet : Job → Job
quiet j = record j { quiet = true; link = Soft }

-- the outcomes of a journal, where it replays
abbrev told : List Job → Files → List Event → Option (List (Option Result))
told jobs files journal = option_map table (replay jobs files journal)

-- a file at the end of a journal
abbrev left : ℕ → List Job → Files → List Event → Option (Option (List ℕ))
left n jobs files journal = option_map (λ s. map.get s.files n) (replay jobs files journal)

-- files that hold these bytes under a number
abbrev Hold : Files → ℕ → List ℕ → Type 0
Hold files n bytes = map.get files n ≡ Some bytes

abbrev Lack : Files → ℕ → Type 0
Lack files n = map.get files n ≡ None

-- the journal of a single job
abbrev single : ℤ → List Event
single r = Turn 1 ∷ Take 0 ∷ Post 0 r true ∷ []

-- no job, no event

nothing : told [] map.empty [] ≡ Some []
nothing = refl

-- reads

abbrev hello : List ℕ
hello = 104 ∷ 101 ∷ 108 ∷ 108 ∷ 111 ∷ []

whole_read : (files : Files) → Hold files 3 hello → told (job (Read 3 0) (0 ∷ 0 ∷ 0 ∷ 0 ∷ 0 ∷ []) ∷ []) files (single (pos 5)) ≡ Some (out (pos 5) hello ∷ [])
unfolding step
whole_read files e = rw e refl

-- the buffer keeps what a short read doesn't reach
short_read : (files : Files) → Hold files 3 hello → told (job (Read 3 3) (7 ∷ 7 ∷ 7 ∷ 7 ∷ []) ∷ []) files (single (pos 2)) ≡ Some (out (pos 2) (108 ∷ 111 ∷ 7 ∷ 7 ∷ []) ∷ [])
unfolding step
short_read files e = rw e refl

read_past_end : (files : Files) → Hold files 3 hello → told (job (Read 3 9) (7 ∷ 7 ∷ []) ∷ []) files (single (pos 0)) ≡ Some (out (pos 0) (7 ∷ 7 ∷ []) ∷ [])
unfolding step
read_past_end files e = rw e refl

-- no journal gives another result
wrong_result : (files : Files) → Hold files 3 hello → told (job (Read 3 0) (0 ∷ 0 ∷ []) ∷ []) files (single (pos 1)) ≡ None
unfolding step
wrong_result files e = rw e refl

-- writes

abbrev gap_jobs : List Job
gap_jobs = job (Write 1 2) (255 ∷ []) ∷ job (Read 1 0) (9 ∷ 9 ∷ 9 ∷ []) ∷ []

abbrev gap : List Event
gap = Turn 2 ∷ Take 0 ∷ Take 1 ∷ Post 0 (pos 1) true ∷ Post 1 (pos 3) true ∷ []

write_over_gap : (files : Files) → Hold files 1 [] → told gap_jobs files gap ≡ Some (out (pos 1) (255 ∷ []) ∷ out (pos 3) (0 ∷ 0 ∷ 255 ∷ []) ∷ [])
unfolding step
write_over_gap files e = rw (e, map.get-insert nat_cmp_total) refl

write_inside : (files : Files) → Hold files 3 hello → left 3 (job (Write 3 1) (1 ∷ 2 ∷ []) ∷ []) files (single (pos 2)) ≡ Some (Some (104 ∷ 1 ∷ 2 ∷ 108 ∷ 111 ∷ []))
unfolding step
write_inside files e = rw (e, map.get-insert nat_cmp_total) refl

other_file_stays : (files : Files) → Hold files 3 hello → Hold files 4 (6 ∷ []) → left 4 (job (Write 3 1) (1 ∷ []) ∷ []) files (single (pos 1)) ≡ Some (Some (6 ∷ []))
unfolding step
other_file_stays files e h = rw (e, map.get-insert nat_cmp_total, h) refl

write_nothing : (files : Files) → Hold files 3 hello → left 3 (job (Write 3 16777217) [] ∷ []) files (single (pos 0)) ≡ Some (Some hello)
unfolding step
write_nothing files e = rw e (ap Some e)

-- a byte past the limit
past_limit : (files : Files) → Hold files 1 [] → told (job (Write 1 16777216) (0 ∷ []) ∷ []) files (single (negsuc 26)) ≡ Some (out (negsuc 26) (0 ∷ []) ∷ [])
unfolding step
past_limit files e = rw e refl

past_limit_stays : (files : Files) → Hold files 1 [] → left 1 (job (Write 1 16777216) (0 ∷ []) ∷ []) files (single (negsuc 26)) ≡ Some (Some [])
unfolding step
past_limit_stays files e = rw e (ap Some e)

up_to_limit : (files : Files) → Hold files 1 [] → told (job (Write 1 16777215) (0 ∷ []) ∷ []) files (single (pos 1)) ≡ Some (out (pos 1) (0 ∷ []) ∷ [])
unfolding step
up_to_limit files e = rw e refl

-- truncates

grow : (files : Files) → Hold files 1 (97 ∷ []) → left 1 (job (Ftruncate 1 3) [] ∷ []) files (single (pos 0)) ≡ Some (Some (97 ∷ 0 ∷ 0 ∷ []))
unfolding step
grow files e = rw (e, map.get-insert nat_cmp_total) refl

grow_to_limit : (files : Files) → Hold files 1 [] → told (job (Ftruncate 1 16777216) [] ∷ []) files (single (pos 0)) ≡ Some (out (pos 0) [] ∷ [])
unfolding step
grow_to_limit files e = rw e refl

grow_past_limit : (files : Files) → Hold files 1 [] → told (job (Ftruncate 1 16777217) [] ∷ []) files (single (negsuc 26)) ≡ Some (out (negsuc 26) [] ∷ [])
unfolding step
grow_past_limit files e = rw e refl

shrink : (files : Files) → Hold files 3 hello → left 3 (job (Ftruncate 3 2) [] ∷ []) files (single (pos 0)) ≡ Some (Some (104 ∷ 101 ∷ []))
unfolding step
shrink files e = rw (e, map.get-insert nat_cmp_total) refl

sync : (files : Files) → Hold files 3 hello → left 3 (job (Fsync 3) [] ∷ []) files (single (pos 0)) ≡ Some (Some hello)
unfolding step
sync files e = rw e (ap Some e)

-- an unknown file comes before every other answer

unknown_read : (files : Files) → Lack files 9 → told (job (Read 9 0) (0 ∷ []) ∷ []) files (single (negsuc 8)) ≡ Some (out (negsuc 8) (0 ∷ []) ∷ [])
unfolding step
unknown_read files e = rw e refl

unknown_far : (files : Files) → Lack files 9 → told (job (Write 9 16777216) (0 ∷ []) ∷ []) files (single (negsuc 8)) ≡ Some (out (negsuc 8) (0 ∷ []) ∷ [])
unfolding step
unknown_far files e = rw e refl

unknown_empty : (files : Files) → Lack files 9 → told (job (Write 9 0) [] ∷ []) files (single (negsuc 8)) ≡ Some (out (negsuc 8) [] ∷ [])
unfolding step
unknown_empty files e = rw e refl

unknown_long : (files : Files) → Lack files 9 → told (job (Ftruncate 9 16777217) [] ∷ []) files (single (negsuc 8)) ≡ Some (out (negsuc 8) [] ∷ [])
unfolding step
unknown_long files e = rw e refl

unknown_sync : (files : Files) → Lack files 9 → told (job (Fsync 9) [] ∷ []) files (single (negsuc 8)) ≡ Some (out (negsuc 8) [] ∷ [])
unfolding step
unknown_sync files e = rw e refl

-- links

abbrev pair : Link → List Job
pair l = linking l (job (Read 3 0) (0 ∷ 0 ∷ [])) ∷ job (Write 3 0) (204 ∷ []) ∷ []

abbrev both_done : ℤ → ℤ → List Event
both_done r s = Turn 2 ∷ Take 0 ∷ Take 1 ∷ Post 0 r true ∷ Post 1 s true ∷ []

-- a short read behind a soft link cuts the write
soft_cuts : (files : Files) → Hold files 3 (171 ∷ []) → told (pair Soft) files (both_done (pos 1) (negsuc 124)) ≡ Some (out (pos 1) (171 ∷ 0 ∷ []) ∷ out (negsuc 124) (204 ∷ []) ∷ [])
unfolding step
soft_cuts files e = rw e refl

soft_leaves_file : (files : Files) → Hold files 3 (171 ∷ []) → left 3 (pair Soft) files (both_done (pos 1) (negsuc 124)) ≡ Some (Some (171 ∷ []))
unfolding step
soft_leaves_file files e = rw e (ap Some e)

hard_goes_on : (files : Files) → Hold files 3 (171 ∷ []) → told (pair Hard) files (both_done (pos 1) (pos 1)) ≡ Some (out (pos 1) (171 ∷ 0 ∷ []) ∷ out (pos 1) (204 ∷ []) ∷ [])
unfolding step
hard_goes_on files e = rw (e, e) refl

hard_writes : (files : Files) → Hold files 3 (171 ∷ []) → left 3 (pair Hard) files (both_done (pos 1) (pos 1)) ≡ Some (Some (204 ∷ []))
unfolding step
hard_writes files e = rw (e, e, map.get-insert nat_cmp_total) refl

-- a whole read doesn't cut
soft_goes_on : (files : Files) → Hold files 3 (171 ∷ 172 ∷ []) → told (pair Soft) files (both_done (pos 2) (pos 1)) ≡ Some (out (pos 2) (171 ∷ 172 ∷ []) ∷ out (pos 1) (204 ∷ []) ∷ [])
unfolding step
soft_goes_on files e = rw (e, e) refl

-- the second waits for the first
soft_waits : (files : Files) → told (pair Soft) files (Turn 2 ∷ Take 0 ∷ Take 1 ∷ Post 1 (pos 1) true ∷ []) ≡ None
unfolding step
soft_waits files = refl

-- a cut goes on along hard links
chain_cut : (files : Files) → Lack files 9 → told (linking Soft (job (Read 9 0) []) ∷ linking Hard (job Nop []) ∷ job Nop [] ∷ []) files (Turn 3 ∷ Take 0 ∷ Take 1 ∷ Take 2 ∷ Post 0 (negsuc 8) true ∷ Post 1 (negsuc 124) true ∷ Post 2 (negsuc 124) true ∷ []) ≡ Some (out (negsuc 8) [] ∷ out (negsuc 124) [] ∷ out (negsuc 124) [] ∷ [])
unfolding step
chain_cut files e = rw e refl

-- choices and drains

abbrev nops : List Job
nops = job Nop [] ∷ job Nop [] ∷ []

abbrev nop_drained : List Job
nop_drained = job Nop [] ∷ drained (job Nop []) ∷ []

abbrev second_first : List Event
second_first = Turn 2 ∷ Take 0 ∷ Take 1 ∷ Post 1 (pos 0) true ∷ Turn 0 ∷ Post 0 (pos 0) true ∷ []

abbrev in_order : List Event
in_order = Turn 2 ∷ Take 0 ∷ Take 1 ∷ Post 0 (pos 0) true ∷ Turn 0 ∷ Post 1 (pos 0) true ∷ []

second_replays : told nops map.empty second_first ≡ Some (out (pos 0) [] ∷ out (pos 0) [] ∷ [])
unfolding step
second_replays = refl

-- choice 2 names the second of two, and its turn ends
second_chosen : IsChosen second_first (2 ∷ []) false (first_state nops map.empty)
unfolding step
second_chosen = (refl, (refl, (refl, refl, (refl, refl, tt))))

-- without choices the first is named
second_not_chosen : IsChosen second_first [] false (first_state nops map.empty) → ⊥
unfolding step
second_not_chosen (a, (b, (c, d, e))) = cc

-- choice 0 ends the turn, so a post without another turn isn't chosen
turn_not_ended : IsChosen (both_done (pos 0) (pos 0)) (0 ∷ []) false (first_state nops map.empty) → ⊥
unfolding step
turn_not_ended (a, (b, (c, d, (e, f, g)))) = cc

-- a drained job settles after all before it
drain_waits : told nop_drained map.empty second_first ≡ None
unfolding step
drain_waits = refl

drain_replays : told nop_drained map.empty in_order ≡ Some (out (pos 0) [] ∷ out (pos 0) [] ∷ [])
unfolding step
drain_replays = refl

drain_chosen : IsChosen in_order (2 ∷ []) false (first_state nop_drained map.empty)
unfolding step
drain_chosen = (refl, (refl, (refl, refl, (refl, refl, tt))))

-- cancels

abbrev cancel_read : List Job
cancel_read = job (Read 3 0) (0 ∷ []) ∷ job (Cancel 0) [] ∷ []

cancel_open : (files : Files) → told cancel_read files (Turn 2 ∷ Take 0 ∷ Take 1 ∷ Post 1 (pos 0) true ∷ Turn 0 ∷ Post 0 (negsuc 124) true ∷ []) ≡ Some (out (negsuc 124) (0 ∷ []) ∷ out (pos 0) [] ∷ [])
unfolding step
cancel_open files = refl

cancel_late : (files : Files) → Hold files 3 (171 ∷ []) → told cancel_read files (both_done (pos 1) (negsuc 1)) ≡ Some (out (pos 1) (171 ∷ []) ∷ out (negsuc 1) [] ∷ [])
unfolding step
cancel_late files e = rw e refl

cancel_self : told (job (Cancel 0) [] ∷ []) map.empty (single (negsuc 1)) ≡ Some (out (negsuc 1) [] ∷ [])
unfolding step
cancel_self = refl

-- the second cancel of a job finds it marked
cancel_twice : (files : Files) → told (job (Read 3 0) (0 ∷ []) ∷ job (Cancel 0) [] ∷ job (Cancel 0) [] ∷ []) files (Turn 3 ∷ Take 0 ∷ Take 1 ∷ Take 2 ∷ Post 1 (pos 0) true ∷ Post 2 (negsuc 1) true ∷ Post 0 (negsuc 124) true ∷ []) ≡ Some (out (negsuc 124) (0 ∷ []) ∷ out (pos 0) [] ∷ out (negsuc 1) [] ∷ [])
unfolding step
cancel_twice files = refl

-- a take out of order, a post of what isn't taken, a second post and a post that isn't final don't replay

take_out_of_order : told nops map.empty (Turn 2 ∷ Take 1 ∷ []) ≡ None
take_out_of_order = refl

take_too_many : told (job Nop [] ∷ []) map.empty (Turn 2 ∷ Take 0 ∷ Take 1 ∷ []) ≡ None
take_too_many = refl

post_untaken : told nops map.empty (Turn 2 ∷ Take 0 ∷ Post 1 (pos 0) true ∷ []) ≡ None
post_untaken = refl

post_twice : told (job Nop [] ∷ []) map.empty (Turn 1 ∷ Take 0 ∷ Post 0 (pos 0) true ∷ Post 0 (pos 0) true ∷ []) ≡ None
unfolding step
post_twice = refl

not_final : told (job Nop [] ∷ []) map.empty (Turn 1 ∷ Take 0 ∷ Post 0 (pos 0) false ∷ []) ≡ None
not_final = refl

-- busy: each turn begins with the ring full or all jobs pushed

all_pushed : IsBusy 16 2 0 second_first
all_pushed = (inr refl, (inr refl, tt))

ring_of_one : IsBusy 1 3 0 (Turn 1 ∷ Take 0 ∷ Post 0 (pos 0) true ∷ Turn 1 ∷ Take 1 ∷ Post 1 (pos 0) true ∷ Turn 1 ∷ Take 2 ∷ Post 2 (pos 0) true ∷ [])
ring_of_one = (inl refl, (inl refl, (inl refl, tt)))

not_busy : IsBusy 2 3 0 (Turn 1 ∷ Take 0 ∷ Post 0 (pos 0) true ∷ []) → ⊥
not_busy (inl e, h) = cc
not_busy (inr e, h) = cc

-- quiet jobs

abbrev quiet_pair : List Job
quiet_pair = quiet (job Nop []) ∷ job Nop [] ∷ []

abbrev quiet_first : List Event
quiet_first = Turn 2 ∷ Take 0 ∷ Take 1 ∷ Quiet 0 ∷ Post 1 (pos 0) true ∷ []

quiet_succeeds : told quiet_pair map.empty quiet_first ≡ Some (out (pos 0) [] ∷ out (pos 0) [] ∷ [])
unfolding step
quiet_succeeds = refl

-- a quiet end doesn't end its turn, whatever the choice is, and uses it up
quiet_chosen : IsChosen quiet_first (0 ∷ []) false (first_state quiet_pair map.empty)
unfolding step
quiet_chosen = (refl, (refl, (refl, refl, (refl, refl, tt))))

-- its success isn't posted, and its failure isn't silent
quiet_posted : told quiet_pair map.empty (Turn 2 ∷ Take 0 ∷ Take 1 ∷ Post 0 (pos 0) true ∷ []) ≡ None
unfolding step
quiet_posted = refl

quiet_fails : told (quiet (job (Cancel 0) []) ∷ job Nop [] ∷ []) map.empty (both_done (negsuc 1) (negsuc 124)) ≡ Some (out (negsuc 1) [] ∷ out (negsuc 124) [] ∷ [])
unfolding step
quiet_fails = refl

quiet_hidden : told (quiet (job (Cancel 0) []) ∷ job Nop [] ∷ []) map.empty (Turn 2 ∷ Take 0 ∷ Take 1 ∷ Quiet 0 ∷ []) ≡ None
unfolding step
quiet_hidden = refl

-- a job that isn't quiet doesn't end so
not_quiet : told (job Nop [] ∷ job Nop [] ∷ []) map.empty (Turn 2 ∷ Take 0 ∷ Take 1 ∷ Quiet 0 ∷ []) ≡ None
unfolding step
not_quiet = refl

-- a quiet job is valid with a link, where it moves no bytes and isn't the last

valid_quiet : is_valid_job false (quiet (job Nop [])) ≡ true
valid_quiet = refl

quiet_last : is_valid_job true (quiet (job Nop [])) ≡ false
quiet_last = refl

quiet_free : is_valid_job false (record (job Nop []) { quiet = true }) ≡ false
quiet_free = refl

quiet_read : is_valid_job false (quiet (job (Read 3 0) (0 ∷ []))) ≡ false
quiet_read = refl
