use Rattle.std.proofs.Common.{◌∙◌, arith, rules, refl}
use Rattle.std.specs.Prelude.{nat_lt}
use Rattle.std.proofs.lemmas.Fn.{filter_same}
use Rattle.uring_partner.proofs.Lowered.{lowered_first, lowered_next}
use Rattle.uring_partner.proofs.plan.pass_enter.Goals as goal

pub loop-k-init : goal.loop-k-init
loop-k-init c = lowered_first _ _ (c.deref_mut-k-items.ensures.value ∙ filter_same _ (nat_lt 1) _ (λ x b f' k. search rules) _ _ c.retain.ensures.filtered)

pub loop-k-preserved : goal.loop-k-preserved
loop-k-preserved c = lowered_next _ c.loop-k.k-index c.saturating_sub.result c.loop-k.k-items _ (omega arith) c.saturating_sub.ensures refl c.loop-k.invariant
