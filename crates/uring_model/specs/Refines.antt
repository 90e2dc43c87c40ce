-- A machine over any world, seen as another by who knows that one alone.
-- `view` is what of a world is seen, as the other's world; `Plain` says in which worlds the one goes as the other does, while
-- nothing is asked but what `Allowed` says.
use Rattle.std.specs.Prelude.{◌≡◌, ℕ, Bool, List, [], ℤ, None}
use Rattle.std.specs.List.{AllByRecursion}
use Rattle.uring_base.specs.declared.events.Taken.{Taken}
use Rattle.uring_model.specs.Machine.{Answer, Files}
use Rattle.uring_model.specs.Moves.{Move, took}
use Rattle.uring_model.specs.Schedule.{Machine, State, Steps, turn}
use Rattle.uring_model.specs.Partner.{file_machine}
use Rattle.uring_model.specs.Asks.{IsJobEntry}
use Rattle.uring_model.specs.Joins.{CallsJoin, NoCallStays}
use Rattle.uring_model.specs.Progress.{TurnsAreMoves, PostsFitRoom, NoneIsLost, TurnsAreFew, ReadySettles}

-- two answers are the same, but for what isn't seen of the world
pub record Agrees {W V : Type 0} (view : W → V) (a : Answer W) (b : Answer V) : Type 0 where
  pub result : a.result ≡ b.result
  pub buf : a.buf ≡ b.buf
  pub world : view a.world ≡ b.world
  pub marks : a.marks ≡ b.marks

-- In a plain world, m can answer what n can, answers as n does and gives the loan back as n does; the world stays plain.
pub record Refines {W V : Type 0} (m : Machine W) (n : Machine V) (view : W → V) (Plain : W → Type 0) (Allowed : Taken → Type 0) : Type 0 where
  pub can : (w : W) (t : Taken) → Plain w → Allowed t → m.can_answer w t ≡ n.can_answer (view w) t
  pub answers : (w : W) (other : ℕ → Bool) (t : Taken) → Plain w → Allowed t → Agrees view (m.answer w other t) (n.answer (view w) other t)
  pub backs : (t : Taken) (r : ℤ) (buf : List ℕ) → Allowed t → m.back t r buf ≡ n.back t r buf
  pub stays : (w : W) (other : ℕ → Bool) (t : Taken) → Plain w → Allowed t → Plain (m.answer w other t).world

-- its world is plain, and nothing is pending but what may be asked
pub record IsPlainState {W : Type 0} (Plain : W → Type 0) (Allowed : Taken → Type 0) (a : State W) : Type 0 where
  pub world : Plain a.world
  pub pending : AllByRecursion (λ i. Allowed i.taken) a.pending

-- a state as it is seen
abbrev pub viewed : {W V : Type 0} → (W → V) → State W → State V
viewed view a = record { world = view a.world; pending = a.pending; tail = a.tail; choices = a.choices }

-- nothing is pending, no chain is open, and the world is plain
pub record IsPlainAndIdle {W : Type 0} (Plain : W → Type 0) (a : State W) : Type 0 where
  pub pending : a.pending ≡ []
  pub tail : a.tail ≡ None
  pub plain : Plain a.world

-- What callers stand on, of any machine that refines the files'. The laws of the schedule hold of every machine; while its
-- world is plain, and nothing is asked but the six operations of jobs, its moves and turns are those of the files.
pub record WorldLaws {W : Type 0} (m : Machine W) (view : W → Files) (Plain : W → Type 0) : Type 0 where
  pub join : CallsJoin m
  pub stay : NoCallStays m
  pub moves : TurnsAreMoves m
  pub room : PostsFitRoom m
  pub kept : NoneIsLost m
  pub few : TurnsAreFew m
  pub ready : ReadySettles m
  pub steps_seen : (over : Bool) (a b : State W) (ms : List Move) → IsPlainState Plain IsJobEntry a → AllByRecursion IsJobEntry (took ms) → Steps m over a ms b → Steps file_machine over (viewed view a) ms (viewed view b) × IsPlainState Plain IsJobEntry b
  pub turns_seen : (room : ℕ) (ts : List Taken) (a : State W) → IsPlainState Plain IsJobEntry a → AllByRecursion IsJobEntry ts
      → ((turn m ts room a).ends ≡ (turn file_machine ts room (viewed view a)).ends) × (viewed view (turn m ts room a).state ≡ (turn file_machine ts room (viewed view a)).state) × IsPlainState Plain IsJobEntry (turn m ts room a).state

-- the files as a world of their own: all are plain, and all is seen
abbrev pub AnyFiles : Files → Type 0
AnyFiles f = Unit {0}

abbrev pub same_files : Files → Files
same_files f = f

-- so the file machine refines itself
abbrev pub files_refine : Refines file_machine file_machine same_files AnyFiles IsJobEntry
files_refine = record {
  can = λ w t p q i. file_machine.can_answer w t;
  answers = λ w other t p q. record { result = λ i. (file_machine.answer w other t).result; buf = λ i. (file_machine.answer w other t).buf; world = λ i. (file_machine.answer w other t).world; marks = λ i. (file_machine.answer w other t).marks };
  backs = λ t r buf q i. file_machine.back t r buf;
  stays = λ w other t p q. tt;
}
