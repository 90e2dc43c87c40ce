use Rattle.uring_model.specs.Partner.{file_machine}
use Rattle.uring_model.proofs.Progress.{none_is_lost}
use Rattle.uring_model.proofs.Whole.{pays, settles_join, turns_are_few}
use Rattle.uring_model.proofs.laws.turns_are_few.Goals as goal

pub returns : goal.returns
returns c = record { kept = none_is_lost file_machine; settles = pays; joins = settles_join; few = turns_are_few file_machine }
