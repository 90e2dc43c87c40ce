use Rattle.uring_text.proofs.Fronts.{front_is_script}
use Rattle.uring_text.proofs.laws.fronts_are_scripts.Goals as goal

pub returns : goal.returns
returns c = front_is_script
