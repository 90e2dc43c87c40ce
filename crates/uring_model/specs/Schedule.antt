-- The schedule over any world: links, drains, choices, marks, severing, and the turn.
-- A partner takes entries, which are then pending in take order. One of those that are ready settles at a time: the machine
-- answers it, and a completion is posted, except for a quiet one that succeeds. An entry behind a linked one waits for it, and is cut (canceled unasked) where the
-- chain was severed before it; one that a cancel marked is canceled too.
use Rattle.std.specs.Prelude.{◌≡◌, ℕ, ◌/◌, ◌%◌, zero, suc, Bool, true, false, ◌&&◌, ◌||◌, not, if◌then◌else◌, cond, nat_eq, List, [], ◌∷◌, ◌++◌, length, drop, ℤ, Option, Some, None, slice_get}
use Rattle.uring_base.specs.declared.buffer.Loan.{Loan}
use Rattle.uring_base.specs.declared.events.Taken.{Taken}
use Rattle.uring_base.specs.declared.events.Completion.{Completion}
use Rattle.uring_model.specs.declared.pending.Pending.{Pending}
use Rattle.uring_model.specs.Machine.{Answer}
use Rattle.uring_model.specs.Jobs.{linked, ends_quietly}
use Rattle.uring_model.specs.Replay.{cuts, keep_if}
use Rattle.uring_model.specs.Chosen.{choice, stops}
use Rattle.uring_model.specs.Moves.{Move, Turned, Took, Posted, Quieted}
use Rattle.uring_model.specs.Asks.{job_of}
use Rattle.uring_base.specs.Errnos.{error_result}
use Rattle.uring_base.specs.declared.errno.TheConstants.{ECANCELED}

-- whether the entry that is taken next is cut, by the state's tail
abbrev pub cut_of : Option Bool → Bool
cut_of None = false
cut_of (Some c) = c

-- the tail behind an entry: none where it isn't linked, else whether the next one is cut
abbrev pub tail_for : Bool → Bool → Option Bool
tail_for false c = None
tail_for true c = Some c

-- one of the pending entries, between those before and behind it
pub record Cursor : Type 0 where
  pub front : List Pending
  pub item : Pending
  pub back : List Pending

-- whether what stands behind these waits for the last of them
abbrev pub held : Bool → List Pending → Bool
held w [] = w
held w (i ∷ is) = held (linked (job_of i.taken).link) is

-- none of these is drained
abbrev pub no_drain : List Pending → Bool
no_drain [] = true
no_drain (i ∷ is) = not (job_of i.taken).drain && no_drain is

abbrev pub is_nil : List Pending → Bool
is_nil [] = true
is_nil (i ∷ is) = false

-- whether an entry with this number is among these, and unmarked
abbrev pub has_unmarked : ℕ → List Pending → Bool
has_unmarked t [] = false
has_unmarked t (i ∷ is) = (nat_eq i.taken.entry.user_data t && not i.marked) || has_unmarked t is

-- the first unmarked entry with this number is marked
abbrev pub mark_first : ℕ → List Pending → List Pending
mark_first t [] = []
mark_first t (i ∷ is) = cond (nat_eq i.taken.entry.user_data t && not i.marked) (record { taken = i.taken; cut = i.cut; marked = true } ∷ is) (i ∷ mark_first t is)

-- the same, where an answer marks a number
abbrev pub mark_first_if : Option ℕ → List Pending → List Pending
mark_first_if None is = is
mark_first_if (Some t) is = mark_first t is

-- the entry behind a linked one that settles is told whether it is cut
abbrev pub pass : Bool → Bool → List Pending → List Pending
pass false s is = is
pass true s [] = []
pass true s (i ∷ is) = record { taken = i.taken; cut = s; marked = i.marked } ∷ is

-- where nothing is behind it, the tail keeps what the entry taken next is told
abbrev pub pass_end : Bool → Bool → List Pending → Option Bool → Option Bool
pass_end false s is end = end
pass_end true s [] end = Some s
pass_end true s (i ∷ is) end = end

-- which numbers a cancel finds: those of the other pending entries that are unmarked
abbrev pub other_in : Cursor → ℕ → Bool
other_in c t = has_unmarked t c.front || has_unmarked t c.back

-- Whether an entry with these before it is ready: it can be answered (`can`) or is canceled, waits for no linked one, has no
-- drained one before it, and none at all if it is drained. `can` comes first, so that it drops out where it always holds.
abbrev pub is_ready : (Taken → Bool) → List Pending → Pending → Bool
is_ready can front i = (can i.taken || i.marked || i.cut) && (not (held false front) && no_drain front && (not (job_of i.taken).drain || is_nil front))

-- the ready entries, in take order
abbrev pub ready_cursors : (Taken → Bool) → List Pending → List Pending → List Cursor
ready_cursors can front [] = []
ready_cursors can front (i ∷ is) = keep_if (is_ready can front i) (record { front = front; item = i; back = is }) (ready_cursors can (front ++ i ∷ []) is)

-- the choice in front names the ready entry that settles next
abbrev pub named : ℕ → List Cursor → Option Cursor
named c ready = slice_get ready ((c / 2) % length ready)

-- What a partner works on (its world) and how it answers there.
pub record Machine (W : Type 0) : Type 0 where
  -- whether the entry can be answered now, or has to wait
  pub can_answer : W → Taken → Bool
  -- the answer to an entry, where a cancel finds these numbers
  pub answer : W → (ℕ → Bool) → Taken → Answer W
  -- the loan that comes back with this result and these bytes
  pub back : Taken → ℤ → List ℕ → Option Loan

-- A partner's state: its world, what is taken and unsettled, and the choices left.
pub record State (W : Type 0) : Type 0 where
  pub world : W
  pub pending : List Pending
  -- none where the entry taken last, if any, isn't linked; else whether the next one is cut
  pub tail : Option Bool
  pub choices : List ℕ

-- nothing is pending, and no chain is open
pub record IsIdle {W : Type 0} (a : State W) : Type 0 where
  pub pending : a.pending ≡ []
  pub tail : a.tail ≡ None

-- the idle state of this world and these choices
abbrev pub idle : {W : Type 0} → W → List ℕ → State W
idle world choices = record { world = world; pending = []; tail = None; choices = choices }

-- what a canceled entry with this buffer answers
abbrev pub canceled_in : {W : Type 0} → W → List ℕ → Answer W
canceled_in w buf = record { result = error_result ECANCELED; buf = buf; world = w; marks = None }

-- the state once an entry is taken
abbrev pub after_take : {W : Type 0} → State W → Taken → State W
after_take a t = record { world = a.world; pending = a.pending ++ record { taken = t; cut = cut_of a.tail; marked = false } ∷ []; tail = tail_for (linked (job_of t).link) false; choices = a.choices }

-- whether this answer cuts the entry behind
abbrev pub cut_after : {W : Type 0} → Cursor → Answer W → Bool
cut_after c a = cuts c.item.cut (job_of c.item.taken) a.result

-- the state once the entry at a cursor has this answer: it is gone, the one behind it is told, and one may be marked
abbrev pub after_settle : {W : Type 0} → State W → Cursor → Answer W → State W
after_settle s c a =
    let job = job_of c.item.taken in
    let cut = cut_after c a in
    record {
      world = a.world;
      pending = mark_first_if a.marks (c.front ++ pass (linked job.link) cut c.back);
      tail = pass_end (linked job.link) cut c.back s.tail;
      choices = drop 1 s.choices;
    }

-- how an entry ends: with a completion, or, where it is quiet and succeeds, with none
pub data EntryEnd : Type 0 where
  ByPost : Completion → EntryEnd
  Quietly : ℕ → EntryEnd

-- the move that it is
abbrev pub ended : EntryEnd → Move
ended (ByPost c) = Posted c
ended (Quietly n) = Quieted n

-- the completions among these
abbrev pub posts_of : List EntryEnd → List Completion
posts_of [] = []
posts_of (ByPost c ∷ es) = c ∷ posts_of es
posts_of (Quietly n ∷ es) = posts_of es

-- the room that is left behind an end, where there was one more than this: a quiet one takes none
abbrev pub room_after : ℕ → EntryEnd → ℕ
room_after room (ByPost c) = room
room_after room (Quietly n) = suc room

-- whether an end is the turn's last, by whether its choice is even: a quiet one never is
abbrev pub ends_turn : Bool → EntryEnd → Bool
ends_turn stop (ByPost c) = stop
ends_turn stop (Quietly n) = false

-- how the entries end that a turn settles, and the state that it leaves
pub record Outturn (W : Type 0) : Type 0 where
  pub ends : List EntryEnd
  pub state : State W

-- this end, and then what a turn does
abbrev pub ending : {W : Type 0} → EntryEnd → Outturn W → Outturn W
ending e t = record { ends = e ∷ t.ends; state = t.state }

-- nothing settles, in this state
abbrev pub stays : {W : Type 0} → State W → Outturn W
stays a = record { ends = []; state = a }

-- the state once these are taken, in order
abbrev pub take_all : {W : Type 0} → State W → List Taken → State W
take_all a [] = a
take_all a (t ∷ ts) = take_all (after_take a t) ts

-- what a machine makes of it
module _ {W : Type 0} (m : Machine W) where
  -- the ready entries of a state
  abbrev pub cursors : State W → List Cursor
  cursors a = ready_cursors (m.can_answer a.world) [] a.pending

  -- the answer to the entry at a cursor, which isn't asked of the machine where it is marked or cut
  abbrev pub answer_to : W → Cursor → Answer W
  answer_to w c = if c.item.marked || c.item.cut then canceled_in w (job_of c.item.taken).buf else m.answer w (other_in c) c.item.taken

  -- the completion of an entry that is answered so, of the entry's size
  abbrev pub completion_of : Taken → Answer W → Completion
  completion_of t a = record { user_data = t.entry.user_data; result = a.result; flags = 0; big = 0 ∷ 0 ∷ []; large = t.large; loan = m.back t a.result a.buf }

  -- whether the entry at a cursor is quiet and succeeds
  abbrev pub is_quiet_end : W → Cursor → Bool
  is_quiet_end w c = ends_quietly (job_of c.item.taken) (answer_to w c).result

  -- this completion is of the ready entry that the next choice names, which doesn't end quietly
  pub record Settles (a : State W) (c : Completion) : Type 0 where
    pub cursor : Cursor
    pub chosen : named (choice a.choices) (cursors a) ≡ Some cursor
    pub posts : is_quiet_end a.world cursor ≡ false
    pub completion : c ≡ completion_of cursor.item.taken (answer_to a.world cursor)

  -- the ready entry that the next choice names has this number, and ends quietly
  pub record SettlesQuietly (a : State W) (n : ℕ) : Type 0 where
    pub cursor : Cursor
    pub chosen : named (choice a.choices) (cursors a) ≡ Some cursor
    pub quiet : is_quiet_end a.world cursor ≡ true
    pub number : n ≡ cursor.item.taken.entry.user_data

  -- the state once the entry at a cursor is settled
  abbrev pub settled_by : State W → Cursor → State W
  settled_by a c = after_settle a c (answer_to a.world c)

  -- These moves lead from a to b. A post at an even choice ends its turn; `over` says that the turn is over, so that the
  -- next move is a turn.
  abbrev pub Steps : Bool → State W → List Move → State W → Type 0
  Steps over a [] b = b ≡ a
  Steps over a (Turned p ∷ ms) b = Steps false a ms b
  Steps over a (Took t ∷ ms) b = (over ≡ false) × Steps false (after_take a t) ms b
  Steps over a (Posted c ∷ ms) b = (over ≡ false) × (s : Settles a c) × Steps (stops (choice a.choices)) (settled_by a s.cursor) ms b
  Steps over a (Quieted n ∷ ms) b = (over ≡ false) × (s : SettlesQuietly a n) × Steps false (settled_by a s.cursor) ms b

  -- The moves of whole calls lead from the one state to the other, where it is told. Each call begins with a turn.
  abbrev pub IsServed : Option (State W) → List Move → Option (State W) → Type 0
  IsServed None ms after = after ≡ None
  IsServed (Some a) ms None = ¬ (Unit {0})
  IsServed (Some a) ms (Some b) = Steps true a ms b

  -- how the entry at a cursor ends
  abbrev pub end_of : W → Cursor → EntryEnd
  end_of w c = if is_quiet_end w c then Quietly c.item.taken.entry.user_data else ByPost (completion_of c.item.taken (answer_to w c))

  -- the named entry settles, and `go` does the rest with the room that is left, unless the turn ends
  abbrev pub settle_then : State W → (ℕ → State W → Outturn W) → ℕ → Option Cursor → Outturn W
  settle_then a go room None = stays a
  settle_then a go room (Some c) =
      ending (end_of a.world c) (if ends_turn (stops (choice a.choices)) (end_of a.world c) then stays (settled_by a c) else go (room_after room (end_of a.world c)) (settled_by a c))

  -- settlings one after another, `left` at the most, while there is room and an entry is ready
  abbrev pub settle_turn : (left room : ℕ) → State W → Outturn W
  settle_turn zero room a = stays a
  settle_turn (suc left) zero a = stays a
  settle_turn (suc left) (suc room) a = settle_then a (settle_turn left) room (named (choice a.choices) (cursors a))

  -- what settles in a turn, whatever is pending
  abbrev pub settle_all : ℕ → State W → Outturn W
  settle_all room a = settle_turn (length a.pending) room a

  -- a whole turn: these are taken, and what is ready settles within the room
  abbrev pub turn : List Taken → ℕ → State W → Outturn W
  turn ts room a = settle_all room (take_all a ts)
