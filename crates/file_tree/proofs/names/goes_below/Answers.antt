use Rattle.std.proofs.Common.{◌≡◌, [], length, nat_lt, sym, ap, add-one, ◌∙◌, arith}
use Rattle.std.proofs.lemmas.Grind.{common_steps}
use Rattle.file_tree.proofs.Paths.{below_on, below_off, below_short, below_end}
use Rattle.file_tree.proofs.names.goes_below.Goals as goal

pub returns-then-i-path : goal.returns-then-i-path
returns-then-i-path c = sym (c.loop-i.invariant ∙ below_short c.args.above.now c.args.path.now c.loop-i.i (omega arith) (omega arith))

pub loop-i-preserved : goal.loop-i-preserved
loop-i-preserved c = rw (add-one) (c.loop-i.invariant ∙ below_on c.args.above.now c.args.path.now c.loop-i.i [] (omega arith) (omega arith) (grind (arith, common_steps)))

pub returns-then-not-same_name : goal.returns-then-not-same_name
returns-then-not-same_name c = sym (c.loop-i.invariant ∙ below_off c.args.above.now c.args.path.now c.loop-i.i [] (omega arith) (omega arith) (grind (arith, common_steps)))

pub returns : goal.returns
returns c =
    let e : c.loop-i.i ≡ length c.args.above.now = omega arith in
    sym (c.loop-i.invariant ∙ below_end c.args.above.now c.args.path.now c.loop-i.i (omega arith) ∙ ap (λ n. nat_lt n (length c.args.path.now)) e)
