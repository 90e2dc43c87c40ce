use Rattle.rent_engine.proofs.Staying.{starts_known, lands_known, leaves_known, forgets_known}
use Rattle.rent_engine.proofs.laws.keys_are_known.Goals as goal

pub returns-clause-started : goal.returns-clause-started
returns-clause-started c = starts_known

pub returns-clause-completed : goal.returns-clause-completed
returns-clause-completed c = lands_known

pub returns-clause-polled : goal.returns-clause-polled
returns-clause-polled c = leaves_known

pub returns-clause-forgotten : goal.returns-clause-forgotten
returns-clause-forgotten c = forgets_known
