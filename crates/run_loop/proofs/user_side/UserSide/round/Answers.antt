use Rattle.run_loop.proofs.UserLemmas.{own_fault, round_faults, round_goes, round_slots, stays_inside}
use Rattle.run_loop.proofs.user_side.UserSide.round.Goals as goal

pub returns-clause-rounds : goal.returns-clause-rounds
returns-clause-rounds g c = round_goes g.R.UserEnds.used g.met.R.UserEnds.used_then g.R.UserEnds.room g.R.UserEnds.waiting _ _ _ _ _ _ _ _ c.user_round.result c.user_round.ensures.round

pub returns-clause-inside : goal.returns-clause-inside
returns-clause-inside g c =
    stays_inside c.user_round.result _ _ _ _ _ _ c.user_round.ensures.inside
    (round_slots g.R.UserEnds.used g.met.R.UserEnds.used_then g.R.UserEnds.room g.R.UserEnds.waiting _ _ _ _ _ _ _ _ c.user_round.result c.user_round.ensures.round) c.requires.inside

pub returns-clause-own : goal.returns-clause-own
returns-clause-own g c = own_fault c.user_round.result _ _ c.user_round.ensures.err

pub returns-clause-err : goal.returns-clause-err
returns-clause-err g c = round_faults g.R.UserEnds.used g.met.R.UserEnds.used_then g.R.UserEnds.room g.R.UserEnds.waiting _ _ _ _ _ _ _ _ c.user_round.result c.user_round.ensures.err
