use Rattle.rent_engine.proofs.Staying.{starts_apart, lands_apart, leaves_apart, forgets_apart}
use Rattle.rent_engine.proofs.laws.numbers_are_apart.Goals as goal

pub returns-clause-started : goal.returns-clause-started
returns-clause-started c = starts_apart

pub returns-clause-completed : goal.returns-clause-completed
returns-clause-completed c = lands_apart

pub returns-clause-polled : goal.returns-clause-polled
returns-clause-polled c = leaves_apart

pub returns-clause-forgotten : goal.returns-clause-forgotten
returns-clause-forgotten c = forgets_apart
