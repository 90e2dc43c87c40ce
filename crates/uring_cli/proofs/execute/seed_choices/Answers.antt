use Rattle.std.proofs.Common.{◌++◌, ◌∷◌, [], arith}
use Rattle.uring_cli.proofs.Seeding.{one_more_choice, moved_over, still_calm}
use Rattle.uring_cli.proofs.execute.seed_choices.Goals as goal

pub loop-choice-preserved : goal.loop-choice-preserved
loop-choice-preserved g c =
    let so = c.loop-choice.invariant in
    let put = c.in_ok-add_choice.ensures in record {
      front = (
        so.front.0 ++ c.in-Some.choice ∷ [],
        moved_over _ so.front.0 _ _ c.in-Some.choice so.front.1 c.in-Some.ensures.steps.0,
        one_more_choice g.P.Partner.put g.P.Partner.log g.P.Partner.state g.P.Partner.plan so.front.0 c.in-Some.choice _ _ _ so.front.2 put.ok put.log put.plan,
      );
      faults = omega arith;
      calm = still_calm g.P.Partner.put _ [] so.front.0 _ _ _ _ _ so.front.2.gains so.calm put.no_fault;
    }
