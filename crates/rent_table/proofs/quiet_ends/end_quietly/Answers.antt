use Rattle.rent_table.specs.Ops.{quiet_outcome}
use Rattle.rent_table.proofs.Matching.{matched_out}
use Rattle.rent_table.proofs.quiet_ends.end_quietly.Goals as goal

pub returns-in-Some-clause-matched : goal.returns-in-Some-clause-matched
returns-in-Some-clause-matched c = matched_out c.args.lifecycles.now.ops c.resolve.new.self.ops c.args.waiters.now.next c.remove.new.self.next c.args.number c.in-Some.flight quiet_outcome c.requires c.resolve.ensures.ops c.remove.ensures.next
