use Rattle.std.proofs.Common.{◌≡◌, [], sym, subst, true, is_some}
use Rattle.rent_table.specs.Ops.{flight_at}
use Rattle.rent_engine.proofs.OneOps.{Offered-none, held, refused, lacking, started-kept, started-there}
use Rattle.rent_engine.proofs.one_op.OneOp.begin.Goals as goal

pub returns-in-Ok-clause-pending : goal.returns-in-Ok-clause-pending
returns-in-Ok-clause-pending g c = subst (λ n. true ≡ is_some (flight_at c.start.new.self.ops n)) (sym c.in-Ok.ensures.key) (started-there _ _ _ _ c.in-Ok.ensures.ops)

pub returns-in-Ok-clause-in_flight : goal.returns-in-Ok-clause-in_flight
returns-in-Ok-clause-in_flight g c = started-kept _ _ _ _ c.in-Ok.ensures.ops

pub returns-in-Err-RingFull-clause-polls : goal.returns-in-Err-RingFull-clause-polls
returns-in-Err-RingFull-clause-polls g c =
    let e = c.in-Err-RingFull in (
      [],
      Offered-none g.R.UserEnds.offers_large g.R.UserEnds.used g.R.Rings.lists g.R.UserEnds.room g.R.UserEnds.waiting g.met.R.UserEnds.used_none _ _ e.ensures.unchanged.1,
      held c.args.request _ _ _ _ c.its_number-number.ensures e.ensures.unchanged.0 (rw e.field-0-is at e.ensures.back) (rw e.field-0-is at e.ensures.key_in_use),
    )

pub returns-in-Err-KeyInUse-clause-polls : goal.returns-in-Err-KeyInUse-clause-polls
returns-in-Err-KeyInUse-clause-polls g c =
    let e = c.in-Err-KeyInUse in (
      [],
      Offered-none g.R.UserEnds.offers_large g.R.UserEnds.used g.R.Rings.lists g.R.UserEnds.room g.R.UserEnds.waiting g.met.R.UserEnds.used_none _ _ e.ensures.unchanged.1,
      refused c.args.request _ _ _ _ c.its_number-number.ensures e.ensures.unchanged.0 (rw e.field-0-is at e.ensures.back) _ (rw e.field-0-is at e.ensures.key_in_use) c.requires.over,
    )

pub returns-in-Err-NoMemory-clause-polls : goal.returns-in-Err-NoMemory-clause-polls
returns-in-Err-NoMemory-clause-polls g c =
    let e = c.in-Err-NoMemory in (
      [],
      Offered-none g.R.UserEnds.offers_large g.R.UserEnds.used g.R.Rings.lists g.R.UserEnds.room g.R.UserEnds.waiting g.met.R.UserEnds.used_none _ _ e.ensures.unchanged.1,
      lacking c.args.request _ _ _ _ c.its_number-number.ensures e.ensures.unchanged.0 (rw e.field-0-is at e.ensures.back) _ (rw e.field-0-is at e.ensures.key_in_use) c.requires.over,
    )
