use Rattle.std.specs.Prelude.{refl}
use Rattle.uring_model.specs.Partner.{file_machine}
use Rattle.uring_model.proofs.Whole.{turns_are_moves, posts_fit_room, ready_settles, turns_settle}
use Rattle.uring_model.proofs.laws.turns_are_moves.Goals as goal

pub returns : goal.returns
returns c = record { moves = turns_are_moves file_machine; ready = ready_settles file_machine; settles = turns_settle file_machine (λ files t. refl); room = posts_fit_room file_machine }
