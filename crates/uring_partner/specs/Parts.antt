-- What the parts of a turn do.
use Rattle.std.specs.Prelude.{◌≡◌, List, ◌++◌}
use Rattle.uring_base.specs.declared.events.Taken.{Taken}
use Rattle.uring_base.specs.declared.events.Completion.{Completion}
use Rattle.uring_model.specs.Moves.{Move, took, posted, log_of}
use Rattle.uring_partner.specs.declared.memory.MemoryPartner.{MemoryPartner}

-- with these moves the side and the log went on; what the partner keeps besides its turns stayed
pub record GoesBy {Q : Type 0} (moved : Q → List Taken → List Completion → Q → Type 0) (old new : MemoryPartner) (from to : Q) (ms : List Move) : Type 0 where
  pub sides : moved from (took ms) (posted ms) to
  pub grown : new.log.items ≡ old.log.items ++ log_of ms
  pub ledger : new.ledger ≡ old.ledger
