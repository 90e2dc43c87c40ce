use Rattle.std.proofs.Common.{sym, ◌∙◌, ◌^◌, arith}
use Rattle.std.proofs.lemmas.Bool.{eqb-true, eqb-false}
use Rattle.uring_text.proofs.Numbers.{none_for_empty, none_for_plus, none_for_zero, none_for_bytes, parsed_as}
use Rattle.uring_text.proofs.fields.u64_of.Goals as goal

pub returns-then-is_empty : goal.returns-then-is_empty
returns-then-is_empty c = sym (none_for_empty (2 ^ 64) c.args.text.now (omega arith) (eqb-true _ _ (sym c.if-is_empty.ensures)))

pub returns-then-text-eq43 : goal.returns-then-text-eq43
returns-then-text-eq43 c = sym (none_for_plus (2 ^ 64) c.args.text.now (omega arith) (omega arith))

pub returns-then-text-gt1 : goal.returns-then-text-gt1
returns-then-text-gt1 c = sym (none_for_zero (2 ^ 64) c.args.text.now (omega arith) (omega arith) (omega arith))

pub returns-in-Ok : goal.returns-in-Ok
returns-in-Ok c =
    let some = eqb-false _ _ (sym c.if-is_empty.ensures) in
    c.ok.ensures.value ∙ parsed_as c.in-Ok.digits.now c.args.text.now c.parse.result c.in-Ok.ensures.cases.0 c.parse.ensures.value.0 c.if-text-eq43.false (λ zero. omega (arith, c.else-text-eq48.either, some))

pub returns-in-Err : goal.returns-in-Err
returns-in-Err c = sym (none_for_bytes (2 ^ 64) c.args.text.now (omega arith) c.in-Err.ensures.cases.0)
