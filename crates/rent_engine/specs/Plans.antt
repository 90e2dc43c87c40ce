-- States of several operations: their plan says what follows each answer.
use Rattle.std.specs.Prelude.{◌≡◌, ℕ, Bool, true, false, ◌&&◌, bit_or, List, [], Option, Some, None, is_none, ◌⊎◌}
use Rattle.uring_base.specs.declared.events.Taken.{Taken}
use Rattle.uring_base.specs.declared.flags.Flags.{Flags}
use Rattle.uring_base.specs.FlagBits.{bits_in}
use Rattle.rent_engine.specs.declared.state.Poll.{Poll}
use Rattle.rent_engine.specs.declared.state.Poll.TheVariants.{Ready, Pending}
use Rattle.rent_engine.specs.declared.one_op.Request.{Request}
use Rattle.rent_engine.specs.declared.one_op.Stage.TheVariants.{Offers, Over}
use Rattle.rent_engine.specs.declared.one_op.OneAnswer.{OneAnswer}
use Rattle.rent_engine.specs.declared.one_op.OneAnswer.TheVariants.{Done, InUse, NoMemory, Lost}
use Rattle.rent_engine.specs.declared.sequences.PlanStep.{PlanStep}
use Rattle.rent_engine.specs.declared.sequences.PlanStep.TheVariants.{Asks, Gives}
use Rattle.rent_engine.specs.declared.sequences.Sequence.{Sequence}
use Rattle.rent_table.specs.Ops.{Ops}
use Rattle.rent_engine.specs.OneOp.{OneStep, stage_over}

-- the operation wasn't begun
abbrev pub is_refused : OneAnswer → Bool
is_refused (Done done) = false
is_refused (InUse buf) = true
is_refused (NoMemory buf) = true
is_refused Lost = false

abbrev pub gives_output : {T : Type 0} → PlanStep T → Bool
gives_output (Asks request) = false
gives_output (Gives output) = true

abbrev pub IfAsks : {T : Type 0} → PlanStep T → (Request → Type 0) → Type 0
IfAsks (Asks request) P = P request
IfAsks (Gives output) P = Unit {0}

abbrev pub no_flags : Flags
no_flags = record { 0 = 0 }

-- a plan's request, under the sequence's number and with its flags
abbrev pub marked : Option ℕ → Flags → Request → Request
marked number flags request = record request { number = number; entry = record request.entry { flags = bit_or request.entry.flags (bits_in flags) } }

module _ {P T : Type 0} where
  -- it has no operation, and no output to give
  abbrev pub is_over : Sequence P T → Bool
  is_over state = stage_over state.op && is_none state.given

  -- the number and the flags hold for each operation
  pub record KeepsMarks (state next : Sequence P T) : Type 0 where
    pub number : next.number ≡ state.number
    pub flags : next.flags ≡ state.flags
    pub given : next.given ≡ state.given

  module _ (follows : P → OneAnswer → PlanStep T → P → Type 0) where
    -- what was begun waits; where it couldn't be begun, that ends the plan
    abbrev pub BeginsAs : P → Poll OneAnswer → Poll T → P → Type 0
    BeginsAs plan Pending answer plan' = (answer ≡ Pending) × (plan' ≡ plan)
    BeginsAs plan (Ready refusal) answer plan' = (output : T) × (answer ≡ Ready output) × follows plan refusal (Gives output) plan'

    -- the operation that the plan asks for is begun
    pub record AsksOn (state : Sequence P T) (request : Request) (ops : Ops) (ts : List Taken) (answer : Poll T) (after : Ops) (next : Sequence P T) : Type 0 where
      pub one : Poll OneAnswer
      pub begins : OneStep (Offers (marked state.number state.flags request)) ops ts one after next.op
      pub goes : BeginsAs state.plan one answer next.plan

    abbrev pub GoesBy : PlanStep T → Sequence P T → Ops → List Taken → Poll T → Ops → Sequence P T → Type 0
    GoesBy (Gives output) state ops ts answer after next = (ts ≡ []) × (after ≡ ops) × (answer ≡ Ready output) × (next.op ≡ Over) × (next.plan ≡ state.plan)
    GoesBy (Asks request) state ops ts answer after next = AsksOn state request ops ts answer after next

    -- what became of the operation is followed: the plan gives its output, or asks on
    pub record Followed (state : Sequence P T) (given : OneAnswer) (ops : Ops) (ts : List Taken) (answer : Poll T) (after : Ops) (next : Sequence P T) : Type 0 where
      pub plan : P
      pub step : PlanStep T
      pub leads : follows state.plan given step plan
      pub goes : GoesBy step (record state { plan = plan }) ops ts answer after next

    -- its operation waits
    pub record Waits (state : Sequence P T) (ops : Ops) (ts : List Taken) (answer : Poll T) (after : Ops) (next : Sequence P T) : Type 0 where
      pub waits : OneStep state.op ops ts Pending after next.op
      pub gives : answer ≡ Pending
      pub plan : next.plan ≡ state.plan
      pub kept : KeepsMarks state next

    -- its operation is over, and is followed
    pub record Ends (state : Sequence P T) (ops : Ops) (ts : List Taken) (answer : Poll T) (after : Ops) (next : Sequence P T) : Type 0 where
      pub given : OneAnswer
      pub mid : Ops
      pub ends : OneStep state.op ops [] (Ready given) mid Over
      pub followed : Followed state given mid ts answer after next
      pub kept : KeepsMarks state next

    abbrev pub PollsBy : Option T → Sequence P T → Ops → List Taken → Poll T → Ops → Sequence P T → Type 0
    PollsBy (Some output) state ops ts answer after next = (ts ≡ []) × (after ≡ ops) × (answer ≡ Ready output) × (is_over next ≡ true)
    PollsBy None state ops ts answer after next = Waits state ops ts answer after next ⊎ Ends state ops ts answer after next

    -- one poll: an output that it has already is given; or its operation is polled, and the next is begun where the plan asks for one
    abbrev pub SequencePolls : Sequence P T → Ops → List Taken → Poll T → Ops → Sequence P T → Type 0
    SequencePolls state ops ts answer after next = PollsBy state.given state ops ts answer after next
