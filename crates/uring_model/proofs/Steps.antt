-- A step looks for a job to cancel in one place alone.
use Rattle.std.proofs.Common.{◌≡◌, ℕ, Bool, List, refl}
use Rattle.uring_model.specs.Machine.{Files, step}
use Rattle.uring_model.specs.Operations.{op_in, answer_in, FindsAs}
use Rattle.uring_model.specs.declared.operation.Operation.{Operation}
use Rattle.uring_model.specs.declared.operation.Operation.TheVariants.{Nop, Read, Write, Fsync, Ftruncate, Cancel, Lacking, Unknown}

pub step_finds : (files : Files) (other : ℕ → Bool) (can_cancel : Bool) (operation : Operation) (part : List ℕ) → FindsAs other can_cancel operation → answer_in files can_cancel operation part ≡ step files other (op_in operation) part
unfolding step
step_finds files other can_cancel Nop part finds = refl
step_finds files other can_cancel (Read file offset) part finds = refl
step_finds files other can_cancel (Write file offset) part finds = refl
step_finds files other can_cancel (Fsync file) part finds = refl
step_finds files other can_cancel (Ftruncate file len) part finds = refl
step_finds files other can_cancel (Cancel number) part finds = cc
step_finds files other can_cancel Lacking part finds = refl
step_finds files other can_cancel Unknown part finds = refl
