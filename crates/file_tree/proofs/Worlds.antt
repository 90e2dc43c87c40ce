-- While nothing is asked but what jobs ask, the world goes as its files do, and the tree stays.
use Rattle.std.proofs.Common.{◌≡◌, ℕ, Bool, true, false, ◌&&◌, cond, nat_eq, Option, Some, None, refl, ap, sym, ◌∙◌, arith}
use Rattle.std.proofs.lemmas.Bool.Decides.{nat_tests}
use Rattle.uring_base.specs.declared.events.Taken.{Taken}
use Rattle.uring_base.specs.Errnos.{error_result}
use Rattle.uring_base.specs.FlagBits.{has_flags}
use Rattle.uring_base.specs.declared.errno.TheConstants.{EOPNOTSUPP}
use Rattle.uring_base.specs.declared.flags.TheConstants.Flags.{BUFFER_SELECT}
use Rattle.uring_base.specs.declared.opcodes.TheConstants as opcodes
use Rattle.uring_model.specs.Asks.{IsJobEntry, is_job_operation, unless_lacking, file_of}
use Rattle.uring_model.specs.Machine.{ModelOp, Nop, Read, Write, Fsync, Ftruncate, Cancel, Refused}
use Rattle.uring_model.specs.Partner.{file_machine}
use Rattle.uring_model.specs.Refines.{Agrees, Refines}
use Rattle.file_tree.specs.declared.path_operation.PathOperation.{PathOperation}
use Rattle.file_tree.specs.declared.tree.Tree.{Tree}
use Rattle.file_tree.specs.declared.world.World.{World}
use Rattle.file_tree.specs.Asks.{path_op_of}
use Rattle.file_tree.specs.Worlds.{world_machine, world_answer, back_by, files_of, AnyWorld}

-- the operation of an entry, by its code
op_at : Taken → Bool → ℕ → ModelOp
op_at t selects code =
    cond selects (Refused (error_result EOPNOTSUPP))
    (cond (nat_eq code opcodes.NOP) Nop
    (cond (nat_eq code opcodes.READ) (unless_lacking t.loan (Read (file_of t.entry) t.entry.off))
    (cond (nat_eq code opcodes.WRITE) (unless_lacking t.loan (Write (file_of t.entry) t.entry.off))
    (cond (nat_eq code opcodes.FSYNC) (Fsync (file_of t.entry))
    (cond (nat_eq code opcodes.FTRUNCATE) (Ftruncate (file_of t.entry) t.entry.off)
    (cond (nat_eq code opcodes.ASYNC_CANCEL && nat_eq t.entry.op 0) (Cancel t.entry.addr)
    (Refused (error_result EOPNOTSUPP))))))))

no_job : (t : Taken) (code : ℕ) → has_flags t.entry.flags BUFFER_SELECT ≡ false → nat_eq t.entry.opcode code ≡ true → is_job_operation (op_at t false code) ≡ false → IsJobEntry t → ⊥
unfolding op_at
no_job t code e h n j =
    let is : t.entry.opcode ≡ code = grind (arith, nat_tests) in
    let k : true ≡ false = sym j ∙ (λ i. is_job_operation (op_at t (e i) (is i))) ∙ n in
    cc

pick : (b : Bool) (x y : Option PathOperation) → (b ≡ true → x ≡ None) → (b ≡ false → y ≡ None) → cond b x y ≡ None
pick true x y p q = p refl
pick false x y p q = q refl

-- an entry that a job may ask for asks nothing of the tree
pub plain_entry : (t : Taken) → IsJobEntry t → path_op_of t ≡ None
unfolding op_at
plain_entry t j =
    pick (has_flags t.entry.flags BUFFER_SELECT) _ _ (λ b. refl) (λ e.
    pick (nat_eq t.entry.opcode opcodes.OPENAT) _ _ (λ h. absurd (no_job t opcodes.OPENAT e h refl j)) (λ b.
    pick (nat_eq t.entry.opcode opcodes.CLOSE) _ _ (λ h. absurd (no_job t opcodes.CLOSE e h refl j)) (λ b.
    pick (nat_eq t.entry.opcode opcodes.STATX) _ _ (λ h. absurd (no_job t opcodes.STATX e h refl j)) (λ b.
    pick (nat_eq t.entry.opcode opcodes.RENAMEAT) _ _ (λ h. absurd (no_job t opcodes.RENAMEAT e h refl j)) (λ b.
    pick (nat_eq t.entry.opcode opcodes.UNLINKAT) _ _ (λ h. absurd (no_job t opcodes.UNLINKAT e h refl j)) (λ b.
    pick (nat_eq t.entry.opcode opcodes.MKDIRAT) _ _ (λ h. absurd (no_job t opcodes.MKDIRAT e h refl j)) (λ b. refl)))))))

agrees : (w : World) (other : ℕ → Bool) (t : Taken) (o : Option PathOperation) → o ≡ None → Agrees files_of (world_answer w other t o) (file_machine.answer w.files other t)
agrees w other t None e = record { result = refl; buf = refl; world = refl; marks = refl }
agrees w other t (Some operation) e = absurd cc

stays : (w : World) (other : ℕ → Bool) (t : Taken) (o : Option PathOperation) → o ≡ None → (world_answer w other t o).world.tree ≡ w.tree
stays w other t None e = refl
stays w other t (Some operation) e = absurd cc

-- whatever is asked of the tree before
pub any_refines : Refines world_machine file_machine files_of AnyWorld IsJobEntry
any_refines = record {
  can = λ w t p j. refl;
  answers = λ w other t p j. agrees w other t (path_op_of t) (plain_entry t j);
  backs = λ t r buf j. ap (λ o. back_by o t.loan r buf) (plain_entry t j);
  stays = λ w other t p j. tt;
}

-- and the tree is the same all the while
pub same_refines : (tree : Tree) → Refines world_machine file_machine files_of (λ w. w.tree ≡ tree) IsJobEntry
same_refines tree = record {
  can = λ w t p j. refl;
  answers = λ w other t p j. agrees w other t (path_op_of t) (plain_entry t j);
  backs = λ t r buf j. ap (λ o. back_by o t.loan r buf) (plain_entry t j);
  stays = λ w other t p j. stays w other t (path_op_of t) (plain_entry t j) ∙ p;
}
