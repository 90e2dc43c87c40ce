use Rattle.std.proofs.Common.{◌∷◌, [], ◌++◌, ap, ◌∙◌, arith}
use Rattle.rent_engine.proofs.Executors.{sound_spawned}
use Rattle.rent_engine.proofs.executor.Executor.spawn.Goals as goal

pub invariant_of-self-2 : goal.invariant_of-self-2
invariant_of-self-2 g c =
    sound_spawned _ c.self.inside.next _ _ _ _ c.args.task (omega arith)
    (c.push_back_reserved.ensures.items ∙ ap (λ xs. xs ++ (c.self.inside.next, c.args.task) ∷ []) c.reserve.ensures.items) c.requires c.self.invariant
