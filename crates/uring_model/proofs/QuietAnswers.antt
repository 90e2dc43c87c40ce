-- What a quiet entry answers that succeeds: 0, and no bytes.
use Rattle.std.proofs.Common.{◌≡◌, ℕ, ℤ, pos, Bool, true, false, ◌&&◌, ◌||◌, cond, nat_eq, nat_lt, List, [], Option, Some, None, is_none, refl, ap, sym, subst, ◌∙◌}
use Rattle.std.specs.FinMap.{get, insert}
use Rattle.uring_base.specs.declared.buffer.Loan.{Loan}
use Rattle.uring_base.specs.declared.events.Taken.{Taken}
use Rattle.uring_base.specs.declared.flags.TheConstants.Flags.{BUFFER_SELECT, SKIP_SUCCESS}
use Rattle.uring_base.specs.declared.errno.TheConstants.{EINVAL, EOPNOTSUPP, ENOENT, EFBIG}
use Rattle.uring_base.specs.declared.opcodes.TheConstants as opcodes
use Rattle.uring_base.specs.Errnos.{error_result}
use Rattle.uring_base.specs.FlagBits.{has_flags}
use Rattle.uring_base.specs.Loans.{part_of, with_part}
use Rattle.uring_model.specs.Machine.{Files, ModelOp, Nop, Fsync, Ftruncate, Cancel, Refused, step, canceled, leaving, sync_answer, truncate_answer, cut_to}
use Rattle.uring_model.specs.declared.machine.TheConstants.{MAX_FILE_LEN}
use Rattle.uring_model.specs.Jobs.{is_success}
use Rattle.uring_model.specs.Asks.{file_of, op_of, unless_lacking}
use Rattle.uring_model.specs.Partner.{Cursor, job_of, other_in, answer_to, is_quiet_end}

and_both : (b c : Bool) → (b && c) ≡ true → (b ≡ true) × (c ≡ true)
and_both true c e = (refl, e)
and_both false c e = cc

none_is : {A : Type 0} (o : Option A) → is_none o ≡ true → o ≡ None
none_is None e = refl
none_is (Some x) e = cc

-- an operation without bytes answers 0 where it succeeds
abbrev Zero : ModelOp → Type 0
Zero op = (files : Files) (other : ℕ → Bool) → is_success (step files other op []).result ≡ true → (step files other op []).result ≡ pos 0

either_zero : (b : Bool) (x y : ModelOp) → Zero x → Zero y → Zero (cond b x y)
either_zero true x y p q = p
either_zero false x y p q = q

refused_zero : (answer : ℤ) → is_success answer ≡ false → Zero (Refused answer)
unfolding step
refused_zero answer e files other h = absurd (let bad : false ≡ true = sym e ∙ h in cc)

nop_zero : Zero Nop
unfolding step
nop_zero files other h = refl

sync_by : (files : Files) (o : Option (List ℕ)) → is_success (sync_answer files [] o).result ≡ true → (sync_answer files [] o).result ≡ pos 0
sync_by files None h = cc
sync_by files (Some file) h = refl

sync_zero : (file : ℕ) → Zero (Fsync file)
unfolding step
sync_zero file files other h = sync_by files (get files file) h

cut_by : (b : Bool) (after files : Files) → is_success (cond b (leaving (error_result EFBIG) [] files) (leaving (pos 0) [] after)).result ≡ true → (cond b (leaving (error_result EFBIG) [] files) (leaving (pos 0) [] after)).result ≡ pos 0
cut_by true after files h = cc
cut_by false after files h = refl

truncate_by : (files : Files) (number len : ℕ) (o : Option (List ℕ)) → is_success (truncate_answer files number len [] o).result ≡ true → (truncate_answer files number len [] o).result ≡ pos 0
truncate_by files number len None h = cc
truncate_by files number len (Some file) h = cut_by (nat_lt MAX_FILE_LEN len) (insert files number (cut_to file len)) files h

truncate_zero : (file len : ℕ) → Zero (Ftruncate file len)
unfolding step
truncate_zero file len files other h = truncate_by files file len (get files file) h

cancel_by : (b : Bool) (files : Files) (t : ℕ) → is_success (cond b (record { result = pos 0; buf = []; world = files; marks = Some t }) (leaving (error_result ENOENT) [] files)).result ≡ true → (cond b (record { result = pos 0; buf = []; world = files; marks = Some t }) (leaving (error_result ENOENT) [] files)).result ≡ pos 0
cancel_by true files t h = refl
cancel_by false files t h = cc

cancel_zero : (t : ℕ) → Zero (Cancel t)
unfolding step
cancel_zero t files other h = cancel_by (other t) files t h

lacking_zero : (o : Option Loan) (op : ModelOp) → o ≡ None → Zero (unless_lacking o op)
lacking_zero o op e = subst (λ o. Zero (unless_lacking o op)) (sym e) (refused_zero (error_result EINVAL) refl)

-- so does what an entry without a loan asks
asked_zero : (t : Taken) → t.loan ≡ None → Zero (op_of t)
asked_zero t none =
    either_zero (has_flags t.entry.flags BUFFER_SELECT) _ _ (refused_zero (error_result EOPNOTSUPP) refl)
    (either_zero (nat_eq t.entry.opcode opcodes.NOP) _ _ nop_zero
    (either_zero (nat_eq t.entry.opcode opcodes.READ) _ _ (lacking_zero t.loan _ none)
    (either_zero (nat_eq t.entry.opcode opcodes.WRITE) _ _ (lacking_zero t.loan _ none)
    (either_zero (nat_eq t.entry.opcode opcodes.FSYNC) _ _ (sync_zero (file_of t.entry))
    (either_zero (nat_eq t.entry.opcode opcodes.FTRUNCATE) _ _ (truncate_zero (file_of t.entry) t.entry.off)
    (either_zero (nat_eq t.entry.opcode opcodes.ASYNC_CANCEL && nat_eq t.entry.op 0) _ _ (cancel_zero t.entry.addr) (refused_zero (error_result EOPNOTSUPP) refl)))))))

-- a canceled entry fails
answer_zero : (b : Bool) (op : ModelOp) (files : Files) (other : ℕ → Bool) (buf : List ℕ) → Zero op → buf ≡ [] → is_success (cond b (canceled files buf) (step files other op buf)).result ≡ true → (cond b (canceled files buf) (step files other op buf)).result ≡ pos 0
answer_zero true op files other buf z e h = cc
answer_zero false op files other buf z e h = ap (λ b. (step files other op b).result) e ∙ z files other (ap (λ b. is_success (step files other op b).result) (sym e) ∙ h)

quiet_parts : (files : Files) (c : Cursor) → is_quiet_end files c ≡ true → (c.item.taken.loan ≡ None) × (is_success (answer_to files c).result ≡ true)
quiet_parts files c h =
    let p = and_both (job_of c.item.taken).quiet (is_success (answer_to files c).result) h in
    let q = and_both (has_flags c.item.taken.entry.flags SKIP_SUCCESS) (is_none c.item.taken.loan) p.0 in
    (none_is c.item.taken.loan q.1, p.1)

pub quiet_result : (files : Files) (c : Cursor) → is_quiet_end files c ≡ true → (answer_to files c).result ≡ pos 0
quiet_result files c h =
    let p = quiet_parts files c h in
    answer_zero (c.item.marked || c.item.cut) (op_of c.item.taken) files (other_in c) (part_of c.item.taken.loan) (asked_zero c.item.taken p.0) (ap part_of p.0) p.1

pub quiet_bytes : (files : Files) (c : Cursor) (buf : List ℕ) → is_quiet_end files c ≡ true → part_of (with_part c.item.taken.loan buf) ≡ []
quiet_bytes files c buf h = ap (λ o. part_of (with_part o buf)) (quiet_parts files c h).0
