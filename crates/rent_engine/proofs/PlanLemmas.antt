-- The polls of states of several operations.
use Rattle.std.proofs.Common.{◌≡◌, true, List, [], Option, None, inl, inr, refl, sym, subst, ◌∙◌}
use Rattle.uring_base.specs.declared.events.Taken.{Taken}
use Rattle.rent_engine.specs.declared.ops.OpPoll.{OpPoll}
use Rattle.rent_engine.specs.declared.ops.OpPoll.TheVariants as polls
use Rattle.rent_engine.specs.declared.state.Poll.{Poll}
use Rattle.rent_engine.specs.declared.state.Poll.TheVariants.{Ready}
use Rattle.rent_engine.specs.declared.one_op.Stage.{Stage}
use Rattle.rent_engine.specs.declared.one_op.Stage.TheVariants.{Offers, Waits, Over}
use Rattle.rent_engine.specs.declared.one_op.OneAnswer.{OneAnswer}
use Rattle.rent_engine.specs.declared.sequences.PlanStep.{PlanStep}
use Rattle.rent_engine.specs.declared.sequences.PlanStep.TheVariants.{Asks, Gives}
use Rattle.rent_engine.specs.declared.sequences.Sequence.{Sequence}
use Rattle.rent_table.specs.Ops.{Ops}
use Rattle.rent_engine.specs.Ops.{polled}
use Rattle.rent_engine.specs.OneOp.{OneStep, answer_of, stage_after, stage_over}
use Rattle.rent_engine.specs.Plans.{Followed, GoesBy, KeepsMarks, PollsBy, SequencePolls}

over_after : (p : OpPoll) (given : OneAnswer) → Ready given ≡ answer_of p → stage_after p ≡ Over
over_after (polls.Ready done) given e = refl
over_after (polls.Pending key) given e = absurd cc
over_after (polls.Lost key) given e = refl

-- an operation that is over offers nothing
pub ready_is_over : (stage : Stage) (ops after : Ops) (ts : List Taken) (given : OneAnswer) (next : Stage) → OneStep stage ops ts (Ready given) after next → (ts ≡ []) × (next ≡ Over)
ready_is_over (Offers request) ops after ts given next (inl held) = absurd (let e = held.gives in cc)
ready_is_over (Offers request) ops after ts given next (inr (n, its, inl begins)) = absurd (let e = begins.gives in cc)
ready_is_over (Offers request) ops after ts given next (inr (n, its, inr (inl refused))) = (refused.entries, refused.next)
ready_is_over (Offers request) ops after ts given next (inr (n, its, inr (inr lacking))) = (lacking.entries, lacking.next)
ready_is_over (Waits key) ops after ts given next asked = (asked.entries, asked.next ∙ over_after (polled ops key) given asked.gives)
ready_is_over Over ops after ts given next step = absurd step

pub over_is : (stage : Stage) → stage_over stage ≡ true → stage ≡ Over
over_is (Offers request) e = absurd cc
over_is (Waits key) e = absurd cc
over_is Over e = refl

module _ {P T : Type 0} (follows : P → OneAnswer → PlanStep T → P → Type 0) where
  -- what follows an answer doesn't ask which operation gave it
  goes_on : (step : PlanStep T) (state : Sequence P T) (plan : P) (stage : Stage) (o : Option T) (ops after : Ops) (ts : List Taken) (answer : Poll T) (next : Sequence P T)
      → GoesBy follows step (record state { plan = plan; op = stage; given = o }) ops ts answer after next → GoesBy follows step (record state { plan = plan }) ops ts answer after next
  goes_on (Gives output) state plan stage o ops after ts answer next goes = goes
  goes_on (Asks request) state plan stage o ops after ts answer next goes = record { one = goes.one; begins = goes.begins; goes = goes.goes }

  -- the operation is over, and what became of it is followed
  pub answered : (state next : Sequence P T) (stage : Stage) (o : Option T) (ops mid after : Ops) (first ts : List Taken) (given : OneAnswer) (answer : Poll T)
      → state.given ≡ None → o ≡ None → OneStep state.op ops first (Ready given) mid stage
      → Followed follows (record state { op = stage; given = o }) given mid ts answer after next → KeepsMarks (record state { op = stage; given = o }) next
      → SequencePolls follows state ops ts answer after next
  answered state next stage o ops mid after first ts given answer none taken step followed kept =
      let over = ready_is_over state.op ops mid first given stage step in
      let ends : OneStep state.op ops [] (Ready given) mid Over =
      subst (λ us. OneStep state.op ops us (Ready given) mid Over) over.0 (subst (λ s. OneStep state.op ops first (Ready given) mid s) over.1 step) in
      subst (λ p. PollsBy follows p state ops ts answer after next) (sym none) (inr (record {
        given = given;
        mid = mid;
        ends = ends;
        followed = record { plan = followed.plan; step = followed.step; leads = followed.leads; goes = goes_on followed.step state followed.plan stage o mid after ts answer next followed.goes };
        kept = record { number = kept.number; flags = kept.flags; given = kept.given ∙ taken ∙ sym none };
      }))
