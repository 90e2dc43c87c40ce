use Rattle.std.proofs.lemmas.Result.{on_ok_weaker, on_err_weaker}
use Rattle.rent_table.proofs.Joining.{all_kept, one_joined}
use Rattle.rent_table.proofs.lifecycles.Lifecycles.join_flight.Goals as goal

pub returns-clause-ok : goal.returns-clause-ok
returns-clause-ok c = on_ok_weaker c.add-added.result (λ more. one_joined c.args.self.now.ops c.take_joins-joins.new.self.ops c.put_flight.new.self.ops c.args.number c.args.flight c.take_joins-joins.result _ c.take_joins-joins.ensures.value c.take_joins-joins.ensures.ops c.put_flight.ensures.ops c.requires c.args.handle more) c.add-added.ensures.ok

pub returns-clause-err : goal.returns-clause-err
returns-clause-err c = on_err_weaker c.add-added.result (λ same. all_kept c.args.self.now.ops c.take_joins-joins.new.self.ops c.put_flight.new.self.ops c.args.number c.args.flight c.take_joins-joins.result _ c.take_joins-joins.ensures.value c.take_joins-joins.ensures.ops c.put_flight.ensures.ops c.requires same) c.add-added.ensures.err
