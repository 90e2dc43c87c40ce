use Rattle.ring_setup.proofs.SizeLemmas.{next_power}
use Rattle.ring_setup.proofs.settings.rounded_up.Goals as goal

pub returns : goal.returns
returns c = let power = c.next_power_of_two.ensures.power in next_power _ _ power.0 c.requires power.1 c.next_power_of_two.ensures.lower_bound c.next_power_of_two.ensures.upper_bound
