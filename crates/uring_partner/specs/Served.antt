-- The schedule's words, at the machine of files and a tree.
use Rattle.std.specs.Prelude.{ℕ, Bool, true, List, Option}
use Rattle.uring_base.specs.declared.events.Taken.{Taken}
use Rattle.uring_base.specs.declared.events.Completion.{Completion}
use Rattle.uring_model.specs.declared.pending.Pending.{Pending}
use Rattle.uring_model.specs.Machine.{Answer}
use Rattle.uring_model.specs.Moves.{Move}
use Rattle.uring_model.specs.Schedule as schedule
use Rattle.file_tree.specs.declared.world.World.{World}
pub use Rattle.file_tree.specs.Worlds.{world_machine}
pub use Rattle.uring_model.specs.Asks.{job_of}
pub use Rattle.uring_model.specs.Schedule.{Cursor, held, no_drain, is_nil, has_unmarked, mark_first, mark_first_if, pass, pass_end, other_in, named, after_take, after_settle, IsIdle, idle}
pub use Rattle.uring_model.specs.Schedule.{EntryEnd, ByPost, Quietly, ended, posts_of, room_after, ends_turn, ending, stays, take_all}

-- the state of a memory partner
abbrev pub PartnerState : Type 0
PartnerState = schedule.State World

-- whether an entry with these before it is ready
abbrev pub is_ready : List Pending → Pending → Bool
is_ready front i = schedule.is_ready (λ t. true) front i

-- the ready ones of these, with those before them
abbrev pub ready_cursors : List Pending → List Pending → List Cursor
ready_cursors front is = schedule.ready_cursors (λ t. true) front is

-- the ready entries of a state
abbrev pub cursors : PartnerState → List Cursor
cursors a = schedule.cursors world_machine a

-- the answer to the entry at a cursor
abbrev pub answer_to : World → Cursor → Answer World
answer_to w c = schedule.answer_to world_machine w c

-- the completion of an entry that is answered so
abbrev pub completion_of : Taken → Answer World → Completion
completion_of t a = schedule.completion_of world_machine t a

-- whether the entry at a cursor is quiet and succeeds
abbrev pub is_quiet_end : World → Cursor → Bool
is_quiet_end w c = schedule.is_quiet_end world_machine w c

-- these moves lead from the one state to the other; the flag says that the turn is over
abbrev pub Steps : Bool → PartnerState → List Move → PartnerState → Type 0
Steps over a ms b = schedule.Steps world_machine over a ms b

-- how the entries end that a turn settles, and the state that it leaves
abbrev pub Outturn : Type 0
Outturn = schedule.Outturn World

-- the state once the entry at a cursor is settled
abbrev pub settled_by : PartnerState → Cursor → PartnerState
settled_by a c = schedule.settled_by world_machine a c

-- how the entry at a cursor ends
abbrev pub end_of : World → Cursor → EntryEnd
end_of w c = schedule.end_of world_machine w c

-- the named entry settles, and the rest follows unless the turn ends
abbrev pub settle_then : PartnerState → (ℕ → PartnerState → Outturn) → ℕ → Option Cursor → Outturn
settle_then a go room o = schedule.settle_then world_machine a go room o

-- settlings one after another, `left` at the most, while there is room and an entry is ready
abbrev pub settle_turn : (left room : ℕ) → PartnerState → Outturn
settle_turn left room a = schedule.settle_turn world_machine left room a

-- what settles in a turn, whatever is pending
abbrev pub settle_all : ℕ → PartnerState → Outturn
settle_all room a = schedule.settle_all world_machine room a

-- a whole turn: these are taken, and what is ready settles within the room
abbrev pub turn : List Taken → ℕ → PartnerState → Outturn
turn ts room a = schedule.turn world_machine ts room a
