-- Worked entries: what they ask, and what a turn over them posts.
use Rattle.std.specs.Prelude.{◌≡◌, ℕ, true, false, List, [], ◌∷◌, replicate, ℤ, pos, negsuc, Some, None, refl}
use Rattle.std.specs.FinMap as map
use Rattle.uring_base.specs.declared.squeue.Entry.{Entry}
use Rattle.uring_base.specs.declared.events.Taken.{Taken}
use Rattle.uring_base.specs.declared.events.Completion.{Completion}
use Rattle.uring_base.specs.declared.types.Target.TheVariants.{Fixed}
use Rattle.uring_base.specs.Words.{blank, no_fd}
use Rattle.uring_base.specs.Targets.{on}
use Rattle.uring_model.specs.declared.jobs.Link.TheVariants.{Free, Soft, Hard}
use Rattle.uring_model.specs.Machine.{Files, Nop, Read, Write, Fsync, Ftruncate, Cancel, Refused, step}
use Rattle.uring_model.specs.Partner.{op_of, job_of, idle}
use Rattle.uring_model.specs.Turn.{EntryEnd, ByPost, Quietly, posts_of, turn}

abbrev plain : Entry → Taken
plain e = record { entry = e; loan = None; big = replicate 64 0; large = false }

-- a loan from its second byte on
abbrev lent : Entry → Taken
lent e = record { entry = e; loan = Some (record { number = 7; from = 1; buf = 9 ∷ 8 ∷ 7 ∷ [] }); big = replicate 64 0; large = false }

abbrev nop_entry : Entry
nop_entry = record (blank 0) { fd = no_fd }

-- an operation on a registered file, with a loan's number and length, and an offset
abbrev on_file : ℕ → ℕ → ℕ → ℕ → ℕ → Entry
on_file code file buf len offset = on (Fixed file) (record (blank code) { off = offset; addr = buf; len = len })

abbrev read_entry : ℕ → ℕ → ℕ → ℕ → Entry
read_entry file buf len offset = on_file 22 file buf len offset

abbrev write_entry : ℕ → ℕ → ℕ → ℕ → Entry
write_entry file buf len offset = on_file 23 file buf len offset

nop : job_of (plain nop_entry) ≡ record { op = Nop; buf = []; drain = false; quiet = false; link = Free }
nop = refl

read : job_of (lent (read_entry 3 7 2 10)) ≡ record { op = Read 3 10; buf = 8 ∷ 7 ∷ []; drain = false; quiet = false; link = Free }
read = refl

write : job_of (lent (write_entry 3 7 2 10)) ≡ record { op = Write 3 10; buf = 8 ∷ 7 ∷ []; drain = false; quiet = false; link = Free }
write = refl

read_without_loan : op_of (plain (read_entry 3 7 2 10)) ≡ Refused (negsuc 21)
read_without_loan = refl

write_without_loan : op_of (plain (write_entry 3 7 2 10)) ≡ Refused (negsuc 21)
write_without_loan = refl

-- the greatest file number is the word -1
greatest_file : op_of (plain (on_file 3 4294967295 0 0 0)) ≡ Fsync 4294967295
greatest_file = refl

sync : op_of (plain (on_file 3 5 0 0 0)) ≡ Fsync 5
sync = refl

truncate : op_of (plain (on_file 55 5 0 0 12)) ≡ Ftruncate 5 12
truncate = refl

cancel : op_of (plain (record (blank 14) { addr = 6 })) ≡ Cancel 6
cancel = refl

cancel_by_flags : op_of (plain (record (blank 14) { addr = 6; op = 1 })) ≡ Refused (negsuc 94)
cancel_by_flags = refl

unknown : op_of (plain (blank 60)) ≡ Refused (negsuc 94)
unknown = refl

buffer_selection : op_of (lent (record (read_entry 3 7 2 10) { flags = 33 })) ≡ Refused (negsuc 94)
buffer_selection = refl

abbrev flagged : ℕ → Taken
flagged flags = plain (record nop_entry { flags = flags })

drain : job_of (flagged 2) ≡ record { op = Nop; buf = []; drain = true; quiet = false; link = Free }
drain = refl

soft : job_of (flagged 4) ≡ record { op = Nop; buf = []; drain = false; quiet = false; link = Soft }
soft = refl

hard : job_of (flagged 8) ≡ record { op = Nop; buf = []; drain = false; quiet = false; link = Hard }
hard = refl

both_links : job_of (flagged 12) ≡ record { op = Nop; buf = []; drain = false; quiet = false; link = Soft }
both_links = refl

other_flags : job_of (flagged 17) ≡ record { op = Nop; buf = []; drain = false; quiet = false; link = Free }
other_flags = refl

-- SKIP_SUCCESS makes an entry quiet, unless it has a loan

quiet : job_of (flagged 68) ≡ record { op = Nop; buf = []; drain = false; quiet = true; link = Soft }
quiet = refl

quiet_loan : job_of (lent (record (read_entry 3 7 2 10) { flags = 64 })) ≡ record { op = Read 3 10; buf = 8 ∷ 7 ∷ []; drain = false; quiet = false; link = Free }
quiet_loan = refl

-- turns

abbrev numbered : ℕ → ℕ → Taken
numbered n flags = plain (record nop_entry { user_data = n; flags = flags })

abbrev answers : ℕ → ℤ → Completion
answers n r = record { user_data = n; result = r; flags = 0; big = 0 ∷ 0 ∷ []; large = false; loan = None }

abbrev posts : List Taken → ℕ → List ℕ → List Completion
posts ts room choices = posts_of (turn ts room (idle map.empty choices)).ends

all_in_order : posts (numbered 0 0 ∷ numbered 1 0 ∷ []) 9 [] ≡ answers 0 (pos 0) ∷ answers 1 (pos 0) ∷ []
unfolding step
all_in_order = refl

room_for_one : posts (numbered 0 0 ∷ numbered 1 0 ∷ []) 1 [] ≡ answers 0 (pos 0) ∷ []
unfolding step
room_for_one = refl

-- choice 3 names the second of two, and the turn goes on
second_first : posts (numbered 0 0 ∷ numbered 1 0 ∷ []) 9 (3 ∷ []) ≡ answers 1 (pos 0) ∷ answers 0 (pos 0) ∷ []
unfolding step
second_first = refl

-- choice 2 names it too, and ends the turn
second_alone : posts (numbered 0 0 ∷ numbered 1 0 ∷ []) 9 (2 ∷ []) ≡ answers 1 (pos 0) ∷ []
unfolding step
second_alone = refl

-- a linked or drained second entry waits
linked_waits : posts (numbered 0 4 ∷ numbered 1 0 ∷ []) 9 (3 ∷ []) ≡ answers 0 (pos 0) ∷ answers 1 (pos 0) ∷ []
unfolding step
linked_waits = refl

drained_waits : posts (numbered 0 0 ∷ numbered 1 2 ∷ []) 9 (3 ∷ []) ≡ answers 0 (pos 0) ∷ answers 1 (pos 0) ∷ []
unfolding step
drained_waits = refl

-- an entry that is refused cuts what hangs on it by a soft link, and not by a hard one

abbrev refused : ℕ → ℕ → Taken
refused n flags = plain (record (blank 60) { user_data = n; flags = flags })

refused_soft : posts (refused 0 4 ∷ numbered 1 0 ∷ []) 9 [] ≡ answers 0 (negsuc 94) ∷ answers 1 (negsuc 124) ∷ []
unfolding step
refused_soft = refl

refused_hard : posts (refused 0 8 ∷ numbered 1 0 ∷ []) 9 [] ≡ answers 0 (negsuc 94) ∷ answers 1 (pos 0) ∷ []
unfolding step
refused_hard = refl

-- what hangs on the last entry of a turn is cut in the next one
cut_later : posts_of (turn (numbered 1 0 ∷ []) 9 (turn (refused 0 4 ∷ []) 9 (idle map.empty [])).state).ends ≡ answers 1 (negsuc 124) ∷ []
unfolding step
cut_later = refl

-- the answer to a large entry is large, and nothing stands in its two further numbers
large_answer : posts (record (numbered 0 0) { big = replicate 64 9; large = true } ∷ numbered 1 0 ∷ []) 9 [] ≡ record (answers 0 (pos 0)) { large = true } ∷ answers 1 (pos 0) ∷ []
unfolding step
large_answer = refl

-- a cancel of the entry before it, which then answers as canceled
canceled_before : posts (numbered 0 0 ∷ plain (record (blank 14) { addr = 0; user_data = 1 }) ∷ []) 9 (3 ∷ []) ≡ answers 1 (pos 0) ∷ answers 0 (negsuc 124) ∷ []
unfolding step
canceled_before = refl

-- a short read lays its bytes behind the loan's place, and its front stays
short_read : (files : Files) → map.get files 3 ≡ Some (1 ∷ []) → posts_of (turn (lent (read_entry 3 7 2 0) ∷ []) 9 (idle files [])).ends ≡ record { user_data = 0; result = pos 1; flags = 0; big = 0 ∷ 0 ∷ []; large = false; loan = Some (record { number = 7; from = 1; buf = 9 ∷ 1 ∷ 7 ∷ [] }) } ∷ []
unfolding step
short_read files e = rw e refl

-- a quiet entry that succeeds posts nothing; the turn goes on behind it also at an even choice, and it takes no room

abbrev ends : List Taken → ℕ → List ℕ → List EntryEnd
ends ts room choices = (turn ts room (idle map.empty choices)).ends

quiet_goes_on : ends (numbered 0 68 ∷ numbered 1 0 ∷ numbered 2 0 ∷ []) 1 (0 ∷ 2 ∷ []) ≡ Quietly 0 ∷ ByPost (answers 2 (pos 0)) ∷ []
unfolding step
quiet_goes_on = refl

-- one that fails posts, and ends its turn at an even choice
quiet_refused : ends (refused 0 68 ∷ numbered 1 0 ∷ []) 9 (0 ∷ []) ≡ ByPost (answers 0 (negsuc 94)) ∷ []
unfolding step
quiet_refused = refl

-- where there is no room nothing settles
quiet_waits : ends (numbered 0 68 ∷ numbered 1 0 ∷ []) 0 [] ≡ []
quiet_waits = refl
