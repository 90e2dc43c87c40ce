use Rattle.std.proofs.Common.{◌≡◌, ◌∷◌, [], sym, subst, refl, ◌∙◌, List, ℤ, w32, rules, Bool, Option}
use mir.Val.{SFits}
use Rattle.std.proofs.lemmas.Int.{to_z-of_z}
use Rattle.uring_base.specs.declared.events.LogEvent.{LogEvent}
use Rattle.uring_model.specs.Partner.{cut_of}
use Rattle.uring_std.specs.Chains.{tail_after}
use Rattle.uring_std.specs.Turns.{EndsBy, LogsBy, ends_as}
use Rattle.uring_std.proofs.turn.end_entry.Goals as goal

pub returns-in-Ok-clause-ok : goal.returns-in-Ok-clause-ok
returns-in-Ok-clause-ok g c =
    let r = c.in-Ok.settled.result in
    let back = c.settle.new.taken in
    let fits : SFits w32 r = search rules in
    let logs = subst (λ x. LogsBy {Q = g.row.Q.Denot} g.Q.PartnerSide.moved c.try_reserve.new.self.items c.end_with.new.log.items c.args.side.now c.end_with.new.side (ends_as back x ∷ [])) (to_z-of_z w32 r fits) c.end_with.ensures.moves in
    let told = c.tail_after-ledger.ensures in (
      ends_as back r,
      subst (λ (log : List LogEvent). LogsBy {Q = g.row.Q.Denot} g.Q.PartnerSide.moved log c.end_with.new.log.items c.args.side.now c.end_with.new.side (ends_as back r ∷ [])) c.try_reserve.ensures.items logs,
      record {
        back = back;
        result = r;
        same = c.in-Ok.ensures.back;
        move = refl;
        canceled = λ cut. c.in-Ok.ensures.canceled (c.is_cut-cut.ensures ∙ cut);
        told = told ∙ (λ i. tail_after (c.is_cut-cut.ensures i) back (to_z-of_z w32 r fits i));
      },
    )
