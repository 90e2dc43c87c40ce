use Rattle.std.proofs.Common.{MatchResult, subst}
use Rattle.run_loop.specs.Entries.{all_taken}
use Rattle.run_loop.specs.UserRounds.{EndsBy, UserRounds}
use Rattle.run_loop.proofs.BothLemmas.{run_ends}
use Rattle.run_loop.proofs.in_turn.last_look.Goals as goal

pub returns-in-Ok-clause-user : goal.returns-in-Ok-clause-user
returns-in-Ok-clause-user g c first offers h =
    let user = c.args.user.now in
    c.look_again.ensures.user first offers
    (subst (λ r. MatchResult r (λ _. UserRounds g.R.UserEnds.used first user.engine.ring offers (all_taken user.todo g.R.UserEnds.offers_large) user.table.started user.table.slots.items) (λ e. EndsBy g.R.UserEnds.used first user.engine.ring offers e)) c.in-Ok.is h)

pub returns-in-Err-clause-user : goal.returns-in-Err-clause-user
returns-in-Err-clause-user g c first offers h =
    let user = c.args.user.now in
    run_ends g.R.UserEnds.used first user.engine.ring offers c.in-Err.fault
    (subst (λ r. MatchResult r (λ _. UserRounds g.R.UserEnds.used first user.engine.ring offers (all_taken user.todo g.R.UserEnds.offers_large) user.table.started user.table.slots.items) (λ e. EndsBy g.R.UserEnds.used first user.engine.ring offers e)) c.in-Err.is h)
