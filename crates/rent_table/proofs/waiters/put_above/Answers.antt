use Rattle.std.proofs.Common.{sym, ◌∙◌}
use Rattle.rent_table.proofs.Waits.{one_above}
use Rattle.rent_table.proofs.waiters.put_above.Goals as goal

pub returns-in-Some-copied-clause-links : goal.returns-in-Some-copied-clause-links
returns-in-Some-copied-clause-links c = one_above c.args.links.now.entries c.replace.new.self.entries c.args.number c.in-Some.number c.in-Some-copied.link c.args.above c.in-Some.is (sym c.get.ensures ∙ sym c.copied.ensures ∙ c.in-Some-copied.is) c.replace.ensures.entries
