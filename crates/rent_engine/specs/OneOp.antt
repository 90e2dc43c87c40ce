-- One operation, from its request to its result.
use Rattle.std.specs.Prelude.{◌≡◌, ℕ, ◌<◌, ◌≤◌, Bool, true, false, bit_or, List, [], ◌∷◌, length, Option, Some, None, is_some, IfSome, ◌⊎◌}
use Rattle.uring_base.specs.declared.squeue.Entry.{Entry}
use Rattle.uring_base.specs.declared.buffer.Buf.{Buf}
use Rattle.uring_base.specs.declared.events.Taken.{Taken}
use Rattle.rent_engine.specs.declared.ops.OpPoll.{OpPoll}
use Rattle.rent_engine.specs.declared.ops.OpPoll.TheVariants as polls
use Rattle.rent_engine.specs.declared.state.Poll.{Poll}
use Rattle.rent_engine.specs.declared.state.Poll.TheVariants.{Ready, Pending}
use Rattle.rent_engine.specs.declared.one_op.Request.{Request}
use Rattle.rent_engine.specs.declared.one_op.Stage.{Stage}
use Rattle.rent_engine.specs.declared.one_op.Stage.TheVariants.{Offers, Waits, Over}
use Rattle.rent_engine.specs.declared.one_op.OneAnswer.{OneAnswer}
use Rattle.rent_engine.specs.declared.one_op.OneAnswer.TheVariants.{Done, InUse, NoMemory, Lost}
use Rattle.rent_table.specs.Ops.{Ops, knows, started, taken_out}
use Rattle.rent_engine.specs.Ops.{polled}
use Rattle.rent_engine.specs.Engines.{offered_entry}
use Rattle.rent_engine.specs.States.{poll_map}

abbrev pub stage_key : Stage → Option ℕ
stage_key (Offers request) = None
stage_key (Waits key) = Some key
stage_key Over = None

abbrev pub stage_offers : Stage → Bool
stage_offers (Offers request) = true
stage_offers (Waits key) = false
stage_offers Over = false

abbrev pub stage_over : Stage → Bool
stage_over (Offers request) = false
stage_over (Waits key) = false
stage_over Over = true

abbrev pub numbered : ℕ → Stage → Stage
numbered n (Offers request) = Offers (record request { number = Some n })
numbered n (Waits key) = Waits key
numbered n Over = Over

abbrev pub flagged : ℕ → Stage → Stage
flagged bits (Offers request) = Offers (record request { entry = record request.entry { flags = bit_or request.entry.flags bits } })
flagged bits (Waits key) = Waits key
flagged bits Over = Over

-- it acts from a place within its buffer on
abbrev pub IsPlaced : Request → Type 0
IsPlaced request = IfSome request.buf (λ buf. request.from ≤ length buf)

abbrev pub StageIsPlaced : Stage → Type 0
StageIsPlaced (Offers request) = IsPlaced request
StageIsPlaced (Waits key) = Unit {0}
StageIsPlaced Over = Unit {0}

-- the number that was given, or the least that the engine doesn't know
abbrev pub IsItsNumber : Option ℕ → Ops → ℕ → Type 0
IsItsNumber (Some given) ops n = n ≡ given
IsItsNumber None ops n = (knows ops n ≡ false) × ((k : ℕ) → k < n → knows ops k ≡ true)

-- where a buffer is lent, the loan's number stands as the address
abbrev pub addressed : ℕ → Option Buf → Entry → Entry
addressed n None entry = entry
addressed n (Some buf) entry = record entry { addr = n }

abbrev pub request_entry : Request → ℕ → Taken
request_entry request n = offered_entry n (addressed n request.buf request.entry) request.from request.buf

-- it was started
pub record Begins (request : Request) (n : ℕ) (ops : Ops) (ts : List Taken) (answer : Poll OneAnswer) (after : Ops) (stage : Stage) : Type 0 where
  pub unknown : knows ops n ≡ false
  pub entries : ts ≡ request_entry request n ∷ []
  pub operations : after ≡ started n (is_some request.buf) None ops
  pub gives : answer ≡ Pending
  pub next : stage ≡ Waits n

-- The ring was full. A number that was given is in no use; where none was, none was looked for.
pub record IsHeld (request : Request) (ops : Ops) (ts : List Taken) (answer : Poll OneAnswer) (after : Ops) (stage : Stage) : Type 0 where
  pub unknown : IfSome request.number (λ n. knows ops n ≡ false)
  pub entries : ts ≡ []
  pub operations : after ≡ ops
  pub gives : answer ≡ Pending
  pub next : stage ≡ Offers request

-- its number was in use
pub record IsRefused (request : Request) (n : ℕ) (ops : Ops) (ts : List Taken) (answer : Poll OneAnswer) (after : Ops) (stage : Stage) : Type 0 where
  pub known : knows ops n ≡ true
  pub entries : ts ≡ []
  pub operations : after ≡ ops
  pub gives : answer ≡ Ready (InUse request.buf)
  pub next : stage ≡ Over

-- there was no memory
pub record IsLacking (request : Request) (n : ℕ) (ops : Ops) (ts : List Taken) (answer : Poll OneAnswer) (after : Ops) (stage : Stage) : Type 0 where
  pub unknown : knows ops n ≡ false
  pub entries : ts ≡ []
  pub operations : after ≡ ops
  pub gives : answer ≡ Ready (NoMemory request.buf)
  pub next : stage ≡ Over

abbrev pub answer_of : OpPoll → Poll OneAnswer
answer_of (polls.Ready done) = Ready (Done done)
answer_of (polls.Pending key) = Pending
answer_of (polls.Lost key) = Ready Lost

abbrev pub stage_after : OpPoll → Stage
stage_after (polls.Ready done) = Over
stage_after (polls.Pending key) = Waits key
stage_after (polls.Lost key) = Over

-- its result was asked for
pub record IsAskedFor (key : ℕ) (ops : Ops) (ts : List Taken) (answer : Poll OneAnswer) (after : Ops) (stage : Stage) : Type 0 where
  pub entries : ts ≡ []
  pub operations : after ≡ taken_out key ops
  pub gives : answer ≡ answer_of (polled ops key)
  pub next : stage ≡ stage_after (polled ops key)

-- one poll
abbrev pub OneStep : Stage → Ops → List Taken → Poll OneAnswer → Ops → Stage → Type 0
OneStep (Offers request) ops ts answer after stage =
    IsHeld request ops ts answer after stage
    ⊎ ((n : ℕ) × IsItsNumber request.number ops n × (Begins request n ops ts answer after stage ⊎ (IsRefused request n ops ts answer after stage ⊎ IsLacking request n ops ts answer after stage)))
OneStep (Waits key) ops ts answer after stage = IsAskedFor key ops ts answer after stage
OneStep Over ops ts answer after stage = ⊥

-- a poll is one of the state's operation, and gives the output of that one's answer
abbrev pub PollsAs : {T : Type 0} → (OneAnswer → T) → Stage → Ops → List Taken → Poll T → Ops → Stage → Type 0
PollsAs output stage ops ts answer after next = (one : Poll OneAnswer) × (answer ≡ poll_map output one) × OneStep stage ops ts one after next
