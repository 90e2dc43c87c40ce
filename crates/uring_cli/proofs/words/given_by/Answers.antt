use Rattle.std.proofs.Common.{◌∙◌, ◌∷◌, ap, sym}
use Rattle.uring_cli.specs.Words.{given_by, with_option}
use Rattle.uring_cli.proofs.WordLemmas.{nothing_more, name_alone, no_number, no_option, one_option, idle_kept}
use Rattle.uring_cli.proofs.words.given_by.Goals as goal

pub returns-in_err-next-clause-given : goal.returns-in_err-next-clause-given
returns-in_err-next-clause-given c = c.from_residual.ensures ∙ sym (c.loop-name.invariant.given
    ∙ ap (λ l. given_by c.loop-name.given l) c.in-Some.ensures.steps
    ∙ name_alone c.loop-name.given _ _ c.in_err-next.ensures.steps.0)

pub returns-in_err-number-clause-given : goal.returns-in_err-number-clause-given
returns-in_err-number-clause-given c = c.from_residual-in_err-number.ensures ∙ sym (c.loop-name.invariant.given
    ∙ ap (λ l. given_by c.loop-name.given l) (c.in-Some.ensures.steps ∙ ap (λ l. c.in-Some.name.now ∷ l) c.in_ok-next.ensures.steps)
    ∙ no_number c.loop-name.given _ _ _ (sym c.in_err-number.ensures))

pub returns-in_err-given-clause-given : goal.returns-in_err-given-clause-given
returns-in_err-given-clause-given c = c.from_residual-in_err-given.ensures ∙ sym (c.loop-name.invariant.given
    ∙ ap (λ l. given_by c.loop-name.given l) (c.in-Some.ensures.steps ∙ ap (λ l. c.in-Some.name.now ∷ l) c.in_ok-next.ensures.steps)
    ∙ no_option c.loop-name.given c.in-Some.name.now _ _ c.in_ok-number.number (sym c.in_ok-number.ensures) (ap (λ w. with_option w c.in_ok-number.number c.loop-name.given) (sym c.as_slice.ensures) ∙ sym c.in_err-given.ensures))

pub loop-name-preserved : goal.loop-name-preserved
loop-name-preserved c = record {
  given = c.loop-name.invariant.given
      ∙ ap (λ l. given_by c.loop-name.given l) (c.in-Some.ensures.steps ∙ ap (λ l. c.in-Some.name.now ∷ l) c.in_ok-next.ensures.steps)
      ∙ one_option c.loop-name.given c.in_ok-given.given c.in-Some.name.now _ _ c.in_ok-number.number (sym c.in_ok-number.ensures) (ap (λ w. with_option w c.in_ok-number.number c.loop-name.given) (sym c.as_slice.ensures) ∙ sym c.in_ok-given.ensures);
  idle = idle_kept c.loop-name.given c.in_ok-given.given _ c.in_ok-number.number (sym c.in_ok-given.ensures) c.loop-name.invariant.idle;
}

pub returns-clause-given : goal.returns-clause-given
returns-clause-given c = sym (c.loop-name.invariant.given ∙ nothing_more _ _ c.in_default.ensures.steps.0)
