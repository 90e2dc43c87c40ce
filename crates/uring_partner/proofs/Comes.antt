-- The loan that comes back, as the code gives it back.
use Rattle.std.proofs.Common.{◌≡◌, ℕ, Bool, true, false, ◌&&◌, ◌||◌, cond, List, Option, Some, None, Result, Ok, Err, OnOk, refl, ap, sym, ◌∙◌}
use Rattle.std.proofs.lemmas.Option.{same_Some}
use Rattle.uring_base.specs.declared.buffer.Loan.{Loan}
use Rattle.uring_base.specs.Loans.{part_of, with_part}
use Rattle.uring_model.specs.declared.pending.Pending.{Pending}
use Rattle.uring_model.specs.Machine.{step, canceled}
use Rattle.uring_model.specs.Schedule.{canceled_in}
use Rattle.file_tree.specs.Asks.{path_answer, path_op_of}
use Rattle.file_tree.specs.Worlds.{back_by, is_stat, renewed_by, world_answer}
use Rattle.file_tree.specs.declared.path_operation.PathOperation.{PathOperation}
use Rattle.file_tree.specs.declared.world.World.{World}
use Rattle.file_tree.proofs.Records.{comes_back}
use Rattle.uring_partner.specs.Served.{has_unmarked, job_of}
use Rattle.uring_partner.specs.Settling.{answered_among, asked_in, file_answer_among, settled_item, with_bytes}

neither_way : (b : Bool) (x y : Option Loan) → cond (b && false) x y ≡ y
neither_way true x y = refl
neither_way false x y = refl

from_files : (canceled_so : Bool) (asked : Option PathOperation) (w : World) (other : ℕ → Bool) (i : Pending) → cond canceled_so None asked ≡ None
    → with_part i.taken.loan (cond canceled_so (canceled w.files (job_of i.taken).buf) (step w.files other (job_of i.taken).op (job_of i.taken).buf)).buf
    ≡ back_by asked i.taken.loan (cond canceled_so (canceled_in w (job_of i.taken).buf) (world_answer w other i.taken asked)).result (cond canceled_so (canceled_in w (job_of i.taken).buf) (world_answer w other i.taken asked)).buf
from_files true asked w other i e = sym (neither_way (is_stat asked) _ _)
from_files false None w other i e = refl
from_files false (Some operation) w other i e = absurd cc

-- of an entry that asks nothing of the tree, or is canceled
pub item_from_files : (w : World) (rest : List Pending) (i : Pending) → asked_in i ≡ None
    → with_bytes i (file_answer_among w.files rest i).buf ≡ settled_item i (answered_among w rest i).result (answered_among w rest i).buf
item_from_files w rest i e =
    let loan = from_files (i.marked || i.cut) (path_op_of i.taken) w (λ number. has_unmarked number rest) i e in
    λ j. record { taken = record i.taken { loan = loan j }; cut = i.cut; marked = i.marked }

from_tree : (canceled_so : Bool) (asked : Option PathOperation) (operation : PathOperation) (w : World) (other : ℕ → Bool) (i : Pending) → cond canceled_so None asked ≡ Some operation
    → renewed_by i.taken.loan (path_answer w.files w.tree operation (part_of i.taken.loan)).bytes
    ≡ back_by asked i.taken.loan (cond canceled_so (canceled_in w (job_of i.taken).buf) (world_answer w other i.taken asked)).result (cond canceled_so (canceled_in w (job_of i.taken).buf) (world_answer w other i.taken asked)).buf
from_tree true asked operation w other i e = absurd cc
from_tree false None operation w other i e = absurd cc
from_tree false (Some asked) operation w other i e =
    let same : operation ≡ asked = sym (same_Some asked operation e) in
    ap (λ o. renewed_by i.taken.loan (path_answer w.files w.tree o (part_of i.taken.loan)).bytes) same ∙ sym (comes_back w.files w.tree asked i.taken.loan)

-- of one that asks this of the tree
pub loan_from_tree : (w : World) (rest : List Pending) (i : Pending) (operation : PathOperation) → asked_in i ≡ Some operation
    → renewed_by i.taken.loan (path_answer w.files w.tree operation (part_of i.taken.loan)).bytes ≡ (settled_item i (answered_among w rest i).result (answered_among w rest i).buf).taken.loan
loan_from_tree w rest i operation e = from_tree (i.marked || i.cut) (path_op_of i.taken) operation w (λ number. has_unmarked number rest) i e

pub item_with : {T E : Type 0} (r : Result T E) (i : Pending) (loan x y : Option Loan) → x ≡ y → OnOk r (loan ≡ x)
    → OnOk r (◌≡◌ {A = Pending} (record { taken = record { entry = i.taken.entry; big = i.taken.big; large = i.taken.large; loan = loan }; cut = i.cut; marked = i.marked }) (record { taken = record i.taken { loan = y }; cut = i.cut; marked = i.marked }))
item_with (Ok z) i loan x y e h = λ j. record { taken = record { entry = i.taken.entry; big = i.taken.big; large = i.taken.large; loan = (h ∙ e) j }; cut = i.cut; marked = i.marked }
item_with (Err z) i loan x y e h = tt
