use Rattle.std.proofs.Common.{◌≡◌, ℕ, refl, sym, subst}
use Rattle.ring_core.specs.declared.steps.CoreStep.{CoreStep}
use Rattle.ring_core.specs.declared.answers.CoreAnswer.TheVariants.{Done}
use Rattle.ring_core.specs.RingState.{RingState, after_step, answer}
use Rattle.ring_core.specs.Stands.{Stands}
use Rattle.ring_core.specs.declared.core_ring.Core.{Core}
use Rattle.ring_core.proofs.Kept.{tail_published, head_seen, head_published, tail_seen}
use Rattle.ring_core.proofs.core_ring.Core.step.Goals as goal

-- the core answers as the state tells, and stands for the next one
abbrev Follows : Core → ℕ → RingState → CoreStep → Type 0
Follows core start m step = (Done ≡ answer step m) × Stands core start (after_step step m)

pub returns-in-PublishTail : goal.returns-in-PublishTail
returns-in-PublishTail c = λ start m s. subst (Follows _ start m) (sym c.in-PublishTail.is) (refl, tail_published start _ m s _ c.publish_tail.ensures)

pub returns-in-SeeHead : goal.returns-in-SeeHead
returns-in-SeeHead c = λ start m s. subst (Follows _ start m) (sym c.in-SeeHead.is) (refl, head_seen start _ m s _ c.see_head.ensures)

pub returns-in-PublishHead : goal.returns-in-PublishHead
returns-in-PublishHead c = λ start m s. subst (Follows _ start m) (sym c.in-PublishHead.is) (refl, head_published start _ m s _ c.publish_head.ensures)

pub returns-in-SeeTail : goal.returns-in-SeeTail
returns-in-SeeTail c = λ start m s. subst (Follows _ start m) (sym c.in-SeeTail.is) (refl, tail_seen start _ m s _ c.see_tail.ensures)
