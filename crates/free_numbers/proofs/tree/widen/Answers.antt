use Rattle.std.proofs.Common.{◌≡◌, ◌*◌, ◌-◌, ◌++◌, false, length, take, drop, arith, rules, ap, ◌∙◌, vec_len}
use Rattle.std.specs.Prelude.{replicate}
use Rattle.std.proofs.lemmas.List.{take_at}
use Rattle.free_numbers.proofs.Moves.{leaves_moved}
use Rattle.free_numbers.proofs.tree.widen.Goals as goal

pub returns-clause-leaves : goal.returns-clause-leaves
returns-clause-leaves c =
    let fits = rw c.in_ok-nodes.ensures.ok_part at c.checked_mul.ensures in
    let twice : c.in_ok-nodes.nodes ≡ 2 * c.args.limit = omega (arith, fits.1) in
    let whole : vec_len c.args.full.now ≡ length c.args.full.now.items = search rules in
    let same : take c.copy_within.new.self.len (c.join_all.new.full ++ drop (length c.join_all.new.full) c.copy_within.new.self.items) ≡ c.join_all.new.full =
    take_at c.join_all.new.full (drop (length c.join_all.new.full) c.copy_within.new.self.items) c.copy_within.new.self.len (c.join_all.auto.full ∙ c.deref_mut.ensures.len) in
    let longer : c.resize.new.self.items ≡ take (2 * c.args.limit) c.args.full.now.items ++ replicate (2 * c.args.limit - length c.args.full.now.items) false = c.in_ok-resize.ensures.items ∙ (λ k. take (twice k) c.args.full.now.items ++ replicate (twice k - whole k) false) in
    ap (drop c.args.limit) same ∙ c.join_all.ensures.leaves ∙ ap (drop c.args.limit) (c.deref_mut.ensures.value ∙ c.copy_within.ensures.items) ∙ leaves_moved c.args.full.now.items c.args.old c.args.limit c.requires.tree.long c.requires.larger c.resize.new.self.items longer
