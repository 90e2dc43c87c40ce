-- A run of jobs and the tree.
use Rattle.std.specs.Prelude.{◌≡◌, ℕ, Bool, List}
use Rattle.std.specs.List.{AllByRecursion}
use Rattle.uring_base.specs.declared.events.Taken.{Taken}
use Rattle.uring_model.specs.Asks.{IsJobEntry}
use Rattle.uring_model.specs.Moves.{Move, took}
use Rattle.uring_partner.specs.Served.{PartnerState, Steps, turn}

-- nothing is pending but what a job may ask
abbrev pub HasJobs : PartnerState → Type 0
HasJobs a = AllByRecursion (λ i. IsJobEntry i.taken) a.pending

abbrev pub JobMovesLeaveTheTree : Type 0
JobMovesLeaveTheTree = (over : Bool) (a b : PartnerState) (ms : List Move) → HasJobs a → AllByRecursion IsJobEntry (took ms) → Steps over a ms b → b.world.tree ≡ a.world.tree

abbrev pub JobTurnsLeaveTheTree : Type 0
JobTurnsLeaveTheTree = (room : ℕ) (ts : List Taken) (a : PartnerState) → HasJobs a → AllByRecursion IsJobEntry ts → (turn ts room a).state.world.tree ≡ a.world.tree
