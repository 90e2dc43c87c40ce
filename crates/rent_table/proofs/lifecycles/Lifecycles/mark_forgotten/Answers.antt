use Rattle.std.proofs.Common.{refl}
use Rattle.rent_table.proofs.Joining.{joins_kept}
use Rattle.rent_table.proofs.lifecycles.Lifecycles.mark_forgotten.Goals as goal

pub returns-clause-ops : goal.returns-clause-ops
returns-clause-ops c = joins_kept c.args.self.now.ops c.take_joins-joins.new.self.ops c.put_flight.new.self.ops c.args.number _ c.take_joins-joins.result _ c.take_joins-joins.ensures.value c.take_joins-joins.ensures.ops c.put_flight.ensures.ops refl
