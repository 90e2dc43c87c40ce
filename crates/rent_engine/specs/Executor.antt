-- Tasks of an executor, what its rounds make of them, and how a run of rounds and turns ends.
use Rattle.std.specs.Prelude.{◌≡◌, ℕ, zero, suc, ◌+◌, ◌≤◌, ◌<◌, Bool, true, false, not, ◌&&◌, ◌⊎◌, nat_le, List, [], ◌∷◌, ◌++◌, length, Option, None, is_none, Result, Ok, Err, refl}
use Rattle.std.specs.Coded.{Coded, code_by, coded×, coded_ℕ, coded_list}
use Rattle.std.specs.Ordering.{nat_cmp}
use Rattle.std.specs.List.{list_all}
use Rattle.std.specs.FinMap.{FinMap, code, empty, get, insert, remove}
use Rattle.std.specs.IoError.{error_kind}
use Rattle.std.specs.declared.io.Error.{Error}
use Rattle.std.specs.declared.io.ErrorKind.TheVariants.{OutOfMemory, TimedOut}
use Rattle.uring_base.specs.declared.events.Taken.{Taken}
use Rattle.rent_engine.specs.declared.state.Poll.{Poll}
use Rattle.rent_engine.specs.declared.state.Poll.TheVariants.{Ready, Pending}
use Rattle.rent_engine.specs.declared.fault.EngineFault.{EngineFault}
use Rattle.rent_engine.specs.declared.fault.EngineFault.TheVariants as engine
use Rattle.rent_engine.specs.declared.ops.TurnReport.{TurnReport}
use Rattle.rent_engine.specs.declared.executor.ExecFault.{ExecFault}
use Rattle.rent_engine.specs.declared.executor.ExecFault.TheVariants.{Spent, Engine, NoMemory}
use Rattle.rent_table.specs.Ops.{Ops}
use Rattle.rent_engine.specs.Faults.{EngineFaultIsToldAs, is_engine_fault}
use Rattle.rent_engine.specs.States.{is_pending, waits_on, KeepsInFlight}

-- what a contract sees of an executor
pub record Tasks (T O : Type 0) : Type 0 where
  -- the next task's id
  pub next : ℕ
  -- the tasks that aren't done, each under its id
  pub unfinished : List (ℕ × T)
  -- the outputs that weren't taken, by id
  pub outputs : FinMap nat_cmp O

abbrev pub tasks_code : {T O : Type 0} → Coded T → Coded O → Coded (Tasks T O)
tasks_code {T} {O} task output = code_by (ℕ × (List (ℕ × T) × FinMap nat_cmp O)) (coded× coded_ℕ (coded× (coded_list (coded× coded_ℕ task)) (code coded_ℕ output))) (λ t. (t.next, (t.unfinished, t.outputs))) (λ p. record { next = p.0; unfinished = p.1.0; outputs = p.1.1 }) (λ _. refl)

-- the ids of these tasks rise, from this one on and below the next task's, and none of them has an output
abbrev pub are_in_order : {T O : Type 0} → FinMap nat_cmp O → ℕ → ℕ → List (ℕ × T) → Bool
are_in_order outputs next low [] = nat_le low next
are_in_order outputs next low (t ∷ ts) = nat_le low t.0 && (is_none (get outputs t.0) && are_in_order outputs next (suc t.0) ts)

-- the task waits
abbrev pub task_waits : {T : Type 0} → (T → Option ℕ) → (T → Bool) → Ops → ℕ → ℕ × T → Bool
task_waits key offers ops room t = waits_on (key t.1) (offers t.1) ops room

-- the unfinished task, where its poll is pending
abbrev pub if_waiting : {T O : Type 0} → ℕ → T → Poll O → List (ℕ × T)
if_waiting id task Pending = (id, task) ∷ []
if_waiting id task (Ready output) = []

-- these outputs, and that of a poll that is ready
abbrev pub with_output : {O : Type 0} → ℕ → Poll O → FinMap nat_cmp O → FinMap nat_cmp O
with_output id Pending outputs = outputs
with_output id (Ready output) outputs = insert outputs id output

module _ {T O : Type 0} where
  abbrev pub no_tasks : Tasks T O
  no_tasks = record { next = 0; unfinished = []; outputs = empty }

  -- a task comes behind the others, under the next id
  abbrev pub spawned : T → Tasks T O → Tasks T O
  spawned task tasks = record tasks { next = tasks.next + 1; unfinished = tasks.unfinished ++ (tasks.next, task) ∷ [] }

  -- an output is taken out
  abbrev pub output_taken : ℕ → Tasks T O → Tasks T O
  output_taken id tasks = record tasks { outputs = remove tasks.outputs id }

  -- a task was polled: it is unfinished, behind those that were polled before it, or its output is kept
  abbrev pub after_poll : ℕ → T → Poll O → Tasks T O → Tasks T O
  after_poll id task answer tasks = record tasks { unfinished = tasks.unfinished ++ if_waiting id task answer; outputs = with_output id answer tasks.outputs }

  -- The unfinished tasks are in order, and none is done; no id to come has an output.
  pub record AreValidTasks (done : T → Bool) (tasks : Tasks T O) : Type 0 where
    pub ordered : are_in_order tasks.outputs tasks.next 0 tasks.unfinished ≡ true
    pub undone : list_all (λ t. not (done t.1)) tasks.unfinished ≡ true
    pub to_come : (id : ℕ) → tasks.next ≤ id → get tasks.outputs id ≡ None

-- an engine's ring and operations, and the tasks that are polled on it
pub record Scene (R T O : Type 0) : Type 0 where
  pub ring : R
  pub ops : Ops
  pub tasks : Tasks T O

module _ {R T O : Type 0} (offered : R → List Taken → R → Type 0) (room : R → ℕ) (key : T → Option ℕ) (offers : T → Bool) (done : T → Bool) (polls : T → Ops → List Taken → Poll O → Ops → T → Type 0) where
  -- one poll of a task, as a state promises it
  pub record IsPoll (task : T) (before : R) (ops : Ops) (after : R) (ops' : Ops) : Type 0 where
    pub entries : List Taken
    pub answer : Poll O
    pub left : T
    pub offering : offered before entries after
    pub polling : polls task ops entries answer ops' left
    pub pending : is_pending answer ≡ waits_on (key left) (offers left) ops' (room after)
    pub over : done left ≡ not (is_pending answer)
    pub in_flight : KeepsInFlight ops ops'
    pub free : room after ≤ room before

  -- the first of these tasks is polled: it is taken out of the queue, and comes behind the others if it is unfinished
  pub record PollsFirst (queue : List (ℕ × T)) (outputs : FinMap nat_cmp O) (before : R) (ops : Ops) (queue' : List (ℕ × T)) (outputs' : FinMap nat_cmp O) (after : R) (ops' : Ops) : Type 0 where
    pub first : ℕ × T
    pub others : List (ℕ × T)
    pub was : queue ≡ first ∷ others
    pub poll : IsPoll first.1 before ops after ops'
    pub now : queue' ≡ others ++ if_waiting first.0 poll.left poll.answer
    pub kept : outputs' ≡ with_output first.0 poll.answer outputs

  -- these tasks are polled, one after another
  abbrev pub AllPolled : List (ℕ × T) → Scene R T O → Scene R T O → Type 0
  AllPolled [] before after = after ≡ before
  AllPolled (t ∷ ts) before after =
      (next : Scene R T O) × (poll : IsPoll t.1 before.ring before.ops next.ring next.ops)
      × (next.tasks ≡ after_poll t.0 poll.left poll.answer before.tasks) × AllPolled ts next after

  -- a round: each unfinished task is polled once, in rising id
  abbrev pub IsRound : Scene R T O → Scene R T O → Type 0
  IsRound before after = AllPolled before.tasks.unfinished (record before { tasks = record before.tasks { unfinished = [] } }) after

-- an engine's fault as one of the executor
abbrev pub exec_fault_of : EngineFault → ExecFault
exec_fault_of (engine.Stranger n) = Engine (engine.Stranger n)
exec_fault_of (engine.Fault errno) = Engine (engine.Fault errno)
exec_fault_of engine.NoMemory = NoMemory

-- a fault of the partner
abbrev pub is_exec_fault : ExecFault → Bool
is_exec_fault Spent = false
is_exec_fault (Engine fault) = is_engine_fault fault
is_exec_fault NoMemory = false

-- a fault of the partner has the error number that it keeps now, and any other answer leaves the one that it kept
abbrev pub KeepsExecErrno : {T : Type 0} → Result T ExecFault → ℕ → ℕ → Type 0
KeepsExecErrno (Ok x) before after = after ≡ before
KeepsExecErrno (Err Spent) before after = after ≡ before
KeepsExecErrno (Err (Engine (engine.Stranger n))) before after = after ≡ before
KeepsExecErrno (Err (Engine (engine.Fault errno))) before after = after ≡ errno
KeepsExecErrno (Err (Engine engine.NoMemory)) before after = after ≡ before
KeepsExecErrno (Err NoMemory) before after = after ≡ before

-- as an error of the system
abbrev pub ExecFaultIsToldAs : ExecFault → Error → Type 0
ExecFaultIsToldAs Spent e = error_kind e ≡ TimedOut
ExecFaultIsToldAs (Engine fault) e = EngineFaultIsToldAs fault e
ExecFaultIsToldAs NoMemory e = error_kind e ≡ OutOfMemory

-- a partner too, as a run has it
pub record RunState (P R T O : Type 0) : Type 0 where
  pub partner : P
  pub scene : Scene R T O

module _ {P R T O : Type 0} (IsRoundOf : Scene R T O → Scene R T O → Type 0) (turned : P → P → R → R → Ops → Ops → Result TurnReport EngineFault → Type 0) where
  -- a round that leaves a task unfinished, and then a turn that answers so
  pub record RoundAndTurn (before after : RunState P R T O) (answer : Result TurnReport EngineFault) : Type 0 where
    pub polled : Scene R T O
    pub round : IsRoundOf before.scene polled
    pub unfinished : 0 < length polled.tasks.unfinished
    pub turn : turned before.partner after.partner polled.ring after.scene.ring polled.ops after.scene.ops answer
    pub tasks : after.scene.tasks ≡ polled.tasks

  -- so many of these one after another, whose turns succeed
  abbrev pub Cycles : ℕ → RunState P R T O → RunState P R T O → Type 0
  Cycles zero before after = after ≡ before
  Cycles (suc n) before after = (last : RunState P R T O) × Cycles n before last × (report : TurnReport) × RoundAndTurn last after (Ok report)

  -- after so many turns, a round
  pub record RoundAfter (turns : ℕ) (before after : RunState P R T O) : Type 0 where
    pub last : RunState P R T O
    pub cycles : Cycles turns before last
    pub round : IsRoundOf last.scene after.scene
    pub partner : after.partner ≡ last.partner

  -- after fewer turns than that, a turn that fails
  pub record TurnFails (turns : ℕ) (before after : RunState P R T O) (fault : ExecFault) : Type 0 where
    pub used : ℕ
    pub fewer : used < turns
    pub last : RunState P R T O
    pub cycles : Cycles used before last
    pub cause : EngineFault
    pub fails : RoundAndTurn last after (Err cause)
    pub told : fault ≡ exec_fault_of cause

  -- after at most so many turns, no memory for a round
  pub record RoundFails (turns : ℕ) (before after : RunState P R T O) : Type 0 where
    pub used : ℕ
    pub few : used ≤ turns
    pub cycles : Cycles used before after

  -- what a run of at most so many turns does, by its answer
  abbrev pub RunEnds : ℕ → RunState P R T O → RunState P R T O → Result ℕ ExecFault → Type 0
  RunEnds turns before after (Ok used) = (used ≤ turns) × RoundAfter used before after × (after.scene.tasks.unfinished ≡ [])
  RunEnds turns before after (Err Spent) = RoundAfter turns before after × (0 < length after.scene.tasks.unfinished)
  RunEnds turns before after (Err (Engine fault)) = TurnFails turns before after (Engine fault)
  RunEnds turns before after (Err NoMemory) = TurnFails turns before after NoMemory ⊎ RoundFails turns before after
