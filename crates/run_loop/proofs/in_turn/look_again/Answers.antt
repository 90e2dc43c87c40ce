use Rattle.std.proofs.Common.{sym, subst}
use Rattle.std.proofs.lemmas.Result.{err_from_is_err_and}
use Rattle.run_loop.specs.Entries.{all_taken}
use Rattle.run_loop.specs.UserRounds.{RunEndsBy}
use Rattle.run_loop.proofs.BothLemmas.{partner_ends, run_ends}
use Rattle.run_loop.proofs.in_turn.look_again.Goals as goal

-- the partner's refusal
pub returns-in-Some-clause-user : goal.returns-in-Some-clause-user
returns-in-Some-clause-user g c first offers x =
    subst (RunEndsBy g.R.UserEnds.used first c.round.new.self.engine.ring offers) (sym c.fault_of.ensures)
    (partner_ends g.R.UserEnds.used first c.round.new.self.engine.ring offers (all_taken c.round.new.self.todo g.R.UserEnds.offers_large) c.round.new.self.table.started c.round.new.self.table.slots.items c.in-Some.error (c.in_ok-round.ensures.rounds first offers x))

-- the user's fault
pub returns-in_err-round-clause-user : goal.returns-in_err-round-clause-user
returns-in_err-round-clause-user g c first offers x =
    let ring = c.round.new.self.engine.ring in
    let p = err_from_is_err_and c.from_residual.result c.from_residual.ensures.1 in
    rw p.1 (subst (RunEndsBy g.R.UserEnds.used first ring offers) (sym p.2) (run_ends g.R.UserEnds.used first ring offers c.in_err-round.field-0.0 (c.in_err-round.ensures.err first offers x)))
