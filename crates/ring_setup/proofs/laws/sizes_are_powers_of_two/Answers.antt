use Rattle.ring_setup.proofs.LeastPowers.{rounds_to_least_powers, sizes_are_least_powers}
use Rattle.ring_setup.proofs.laws.sizes_are_powers_of_two.Goals as goal

pub returns-clause-rounded : goal.returns-clause-rounded
returns-clause-rounded c = rounds_to_least_powers

pub returns-clause-told : goal.returns-clause-told
returns-clause-told c = sizes_are_least_powers
