-- A job's buffer keeps its length.
use Rattle.std.specs.Prelude.{◌≡◌, ℕ, ◌+◌, Bool, true, false, ◌||◌, nat_lt, cond, List, [], ◌∷◌, length, Option, Some, None, refl}
use Rattle.std.proofs.Common.{arith, length-append, length-drop}
use Rattle.std.proofs.lemmas.List.{length-take}
use Rattle.std.specs.FinMap.{get}
use Rattle.uring_base.specs.Loans.{part_of}
use Rattle.uring_model.specs.declared.machine.TheConstants.{MAX_FILE_LEN}
use Rattle.uring_model.specs.Machine.{Files, ModelOp, Nop, Read, Write, Fsync, Ftruncate, Cancel, Refused, FileAnswer, read_into, read_answer, write_answer, sync_answer, truncate_answer, step}
use Rattle.uring_model.specs.Partner.{job_of, Cursor, answer_to}

either_length : (b : Bool) (x y : FileAnswer) (n : ℕ) → length x.buf ≡ n → length y.buf ≡ n → length (cond b x y).buf ≡ n
either_length true x y n p q = p
either_length false x y n p q = q

read_into-length : (file : List ℕ) (o : ℕ) (buf : List ℕ) → length (read_into file o buf) ≡ length buf
read_into-length file o buf = simp (length-append, length-take, length-drop) (omega arith)

read_length : (files : Files) (o : ℕ) (buf : List ℕ) (file : Option (List ℕ)) → length (read_answer files o buf file).buf ≡ length buf
read_length files o buf None = refl
read_length files o buf (Some file) = read_into-length file o buf

write_length : (files : Files) (n o : ℕ) (buf : List ℕ) (file : Option (List ℕ)) → length (write_answer files n o buf file).buf ≡ length buf
write_length files n o buf None = refl
write_length files n o [] (Some file) = refl
write_length files n o (b ∷ bs) (Some file) = either_length (nat_lt MAX_FILE_LEN (o + length (b ∷ bs))) _ _ _ refl refl

sync_length : (files : Files) (buf : List ℕ) (file : Option (List ℕ)) → length (sync_answer files buf file).buf ≡ length buf
sync_length files buf None = refl
sync_length files buf (Some file) = refl

truncate_length : (files : Files) (n len : ℕ) (buf : List ℕ) (file : Option (List ℕ)) → length (truncate_answer files n len buf file).buf ≡ length buf
truncate_length files n len buf None = refl
truncate_length files n len buf (Some file) = either_length (nat_lt MAX_FILE_LEN len) _ _ _ refl refl

pub step-length : (files : Files) (other : ℕ → Bool) (op : ModelOp) (buf : List ℕ) → length (step files other op buf).buf ≡ length buf
unfolding step
step-length files other Nop buf = refl
step-length files other (Read f o) buf = read_length files o buf (get files f)
step-length files other (Write f o) buf = write_length files f o buf (get files f)
step-length files other (Fsync f) buf = sync_length files buf (get files f)
step-length files other (Ftruncate f len) buf = truncate_length files f len buf (get files f)
step-length files other (Cancel t) buf = either_length (other t) _ _ _ refl refl
step-length files other (Refused answer) buf = refl

pub answer-length : (files : Files) (c : Cursor) → length (answer_to files c).buf ≡ length (part_of c.item.taken.loan)
answer-length files c = either_length (c.item.marked || c.item.cut) _ _ _ refl (step-length files _ (job_of c.item.taken).op (job_of c.item.taken).buf)
