use Rattle.std.specs.Prelude.{refl}
use Rattle.uring_model.specs.Partner.{file_machine}
use Rattle.uring_model.proofs.Progress.{lowest_may, front_ready}
use Rattle.uring_model.proofs.laws.lowest_may_settle.Goals as goal

pub returns : goal.returns
returns c = record { job = lowest_may; answers = λ files t. refl; entry = front_ready file_machine (λ files t. refl) }
