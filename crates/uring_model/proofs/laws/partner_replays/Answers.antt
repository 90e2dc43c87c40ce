use Rattle.uring_model.proofs.Explained.{moves_explained, calls_explained, idle_explained, idle_moves}
use Rattle.uring_model.proofs.laws.partner_replays.Goals as goal

pub returns : goal.returns
returns c = record { moves = moves_explained; calls = calls_explained; from_idle = idle_explained; as_moves = idle_moves }
