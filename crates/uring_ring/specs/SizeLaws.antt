-- Parameters that tell how much fits in a ring.
use Rattle.std.specs.Prelude.{List}
use Rattle.uring_base.specs.declared.events.Taken.{Taken}
use Rattle.uring_base.specs.declared.events.Completion.{Completion}
use Rattle.uring_ring.specs.declared.io_uring.IoUring.{IoUring}
use Rattle.uring_ring.specs.IoUring.{TellsSizes, RingMoves, RingUses}

-- they go on telling it where the partner takes and posts, and where the user offers and reaps
abbrev pub MovesKeepSizes : (S C : Type 0) → (Completion → Completion) → Type 0
MovesKeepSizes S C kept = (a b : IoUring S C) (ts : List Taken) (cs : List Completion) → RingMoves kept a ts cs b → TellsSizes a → TellsSizes b

abbrev pub UsesKeepSizes : (S C : Type 0) → Type 0
UsesKeepSizes S C = (a b : IoUring S C) (ts : List Taken) (cs : List Completion) → RingUses a ts cs b → TellsSizes a → TellsSizes b
