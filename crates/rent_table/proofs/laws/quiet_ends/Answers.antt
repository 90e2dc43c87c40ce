use Rattle.rent_table.proofs.Endings.{only_what_hangs, resolved_flights, resolved_outcomes, resolved_joins}
use Rattle.rent_table.proofs.Depth.{any_depth}
use Rattle.rent_table.proofs.Orders.{in_order}
use Rattle.rent_table.proofs.Asked.{resolves_asked}
use Rattle.rent_table.proofs.laws.quiet_ends.Goals as goal

pub returns-clause-only : goal.returns-clause-only
returns-clause-only c = only_what_hangs

pub returns-clause-flights : goal.returns-clause-flights
returns-clause-flights c = resolved_flights

pub returns-clause-outcomes : goal.returns-clause-outcomes
returns-clause-outcomes c = resolved_outcomes

pub returns-clause-joins : goal.returns-clause-joins
returns-clause-joins c = resolved_joins

pub returns-clause-any_depth : goal.returns-clause-any_depth
returns-clause-any_depth c = any_depth

pub returns-clause-in_order : goal.returns-clause-in_order
returns-clause-in_order c = in_order

pub returns-clause-asked : goal.returns-clause-asked
returns-clause-asked c = resolves_asked
