use Rattle.uring_text.proofs.ScriptsSaid.{script_found, script_again}
use Rattle.uring_text.proofs.laws.scripts_are_as_said.Goals as goal

pub returns : goal.returns
returns c = λ lines told. (script_found lines told, script_again lines told)
