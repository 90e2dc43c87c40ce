use Rattle.std.proofs.Common.{refl, sym, append-nil}
use Rattle.rent_engine.specs.declared.state.Poll.TheVariants.{Ready, Pending}
use Rattle.rent_engine.proofs.Executors.{outputs-inserted}
use Rattle.rent_engine.proofs.executor.poll_first.Goals as goal

pub returns-in-Pending-clause-polled : goal.returns-in-Pending-clause-polled
returns-in-Pending-clause-polled g c =
    let e = c.in-Pending.ensures in
    record {
      first = (c.in-Some.id, c.in-Some.task);
      others = c.pop_front.new.self.items;
      was = c.in-Some.ensures.items;
      poll = record { entries = e.polls.0; answer = Pending; left = c.poll.new.self; offering = e.polls.1; polling = e.polls.2; pending = e.pending; over = e.done; in_flight = e.in_flight; free = e.free };
      now = c.push_back_reserved.ensures.items;
      kept = refl;
    }

pub returns-in-Ok-clause-polled : goal.returns-in-Ok-clause-polled
returns-in-Ok-clause-polled g c =
    let e = c.in-Ready.ensures in
    record {
      first = (c.in-Some.id, c.in-Some.task);
      others = c.pop_front.new.self.items;
      was = c.in-Some.ensures.items;
      poll = record { entries = e.polls.0; answer = Ready c.in-Ready.output; left = c.poll.new.self; offering = e.polls.1; polling = e.polls.2; pending = e.pending; over = e.done; in_flight = e.in_flight; free = e.free };
      now = sym (append-nil c.pop_front.new.self.items);
      kept = outputs-inserted c.args.outputs.now.entries c.insert.new.self.entries c.in-Some.id c.in-Ready.output c.in-Ok.ensures.updates.0;
    }
