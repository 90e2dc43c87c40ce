-- One settling, as the code does it: the entry that settles is out, and the others are one list. Then all of a turn.
use Rattle.std.specs.Prelude.{◌≡◌, ℕ, ◌≤◌, ◌||◌, if◌then◌else◌, ℤ, List, [], ◌∷◌, length, Option, Some, None, IfSome}
use Rattle.uring_base.specs.declared.buffer.Loan.{Loan}
use Rattle.uring_base.specs.declared.events.Taken.{Taken}
use Rattle.uring_base.specs.declared.events.Completion.{Completion}
use Rattle.uring_base.specs.Loans.{with_part}
use Rattle.uring_model.specs.declared.pending.Pending.{Pending}
use Rattle.uring_model.specs.Chosen.{choice}
use Rattle.uring_model.specs.Jobs.{ends_quietly}
use Rattle.uring_model.specs.Machine.{Answer, Files, FileAnswer, step, canceled}
use Rattle.uring_model.specs.Schedule.{canceled_in}
use Rattle.file_tree.specs.Asks.{path_op_of}
use Rattle.file_tree.specs.declared.path_operation.PathOperation.{PathOperation}
use Rattle.file_tree.specs.declared.world.World.{World}
use Rattle.uring_partner.specs.Served.{PartnerState, world_machine, Cursor, job_of, has_unmarked, named, cursors, EntryEnd, ByPost, Quietly, end_of, settled_by, settle_all}
use Rattle.ring_traits.specs.Lists.{Lists, room_of}

-- what an entry is answered among the others
abbrev pub answered_among : World → List Pending → Pending → Answer World
answered_among w rest i =
    if i.marked || i.cut then canceled_in w (job_of i.taken).buf
    else world_machine.answer w (λ number. has_unmarked number rest) i.taken

-- the entry with the loan that comes back
abbrev pub settled_item : Pending → ℤ → List ℕ → Pending
settled_item i r bytes = record { taken = record i.taken { loan = world_machine.back i.taken r bytes }; cut = i.cut; marked = i.marked }

-- what it asks of the tree, which isn't asked where it is canceled
abbrev pub asked_in : Pending → Option PathOperation
asked_in i = if i.marked || i.cut then None else path_op_of i.taken

-- the same of an entry that asks nothing of the tree

abbrev pub file_answer_among : Files → List Pending → Pending → FileAnswer
file_answer_among files rest i =
    if i.marked || i.cut then canceled files (job_of i.taken).buf
    else step files (λ number. has_unmarked number rest) (job_of i.taken).op (job_of i.taken).buf

abbrev pub with_bytes : Pending → List ℕ → Pending
with_bytes i part = record { taken = record i.taken { loan = with_part i.taken.loan part }; cut = i.cut; marked = i.marked }

-- a loan without its bytes: its number, its place and how many there are
abbrev pub bare : Option Loan → Option (ℕ × ℕ × ℕ)
bare None = None
bare (Some loan) = Some (loan.number, loan.from, length loan.buf)

-- how an entry ends that has this result, and whose loan has its bytes
abbrev pub ends_as : Taken → ℤ → EntryEnd
ends_as t r = if ends_quietly (job_of t) r then Quietly t.entry.user_data else ByPost (record { user_data = t.entry.user_data; result = r; flags = 0; big = 0 ∷ 0 ∷ []; large = t.large; loan = t.loan })

-- what is posted at such an end
abbrev pub post_of : EntryEnd → Option Completion
post_of (ByPost c) = Some c
post_of (Quietly n) = None

-- the ready entry that the next choice names ends so, which leaves this state
pub record SettlesAs (a : PartnerState) (e : EntryEnd) (b : PartnerState) : Type 0 where
  pub cursor : Cursor
  pub chosen : named (choice a.choices) (cursors a) ≡ Some cursor
  pub ends : e ≡ end_of a.world cursor
  pub state : b ≡ settled_by a cursor

-- These are the ends of all that settles, with at least the room that was known; where the lists are told, as with the room
-- that they have.
pub record SettlesAll (space : ℕ) (lists : Option Lists) (a : PartnerState) (es : List EntryEnd) : Type 0 where
  pub room : ℕ
  pub fits : space ≤ room
  pub ends : es ≡ (settle_all room a).ends
  pub told : IfSome lists (λ l. settle_all room a ≡ settle_all (room_of l) a)
