-- What an entry is answered among the others, and what becomes of its loan.
use Rattle.std.specs.Prelude.{◌≡◌, ℕ, Bool, true, false, ◌||◌, cond, List, ◌++◌, length, take, Option, Some, None, Result, Ok, Err, OnOk, refl}
use Rattle.std.proofs.Common.{ap, sym, ◌∙◌, arith, length-append, length-drop}
use Rattle.std.proofs.lemmas.List.{length-take}
use Rattle.uring_base.specs.declared.buffer.Loan.{Loan}
use Rattle.uring_base.specs.Loans.{part_of, with_part}
use Rattle.uring_model.specs.declared.pending.Pending.{Pending}
use Rattle.uring_model.specs.declared.operation.Operation.{Operation}
use Rattle.uring_model.specs.Machine.{Files, FileAnswer, step, canceled}
use Rattle.uring_model.specs.Operations.{op_in, answer_in, FindsAs}
use Rattle.uring_partner.specs.Served.{job_of, has_unmarked}
use Rattle.uring_model.proofs.Steps.{step_finds}
use Rattle.uring_model.proofs.Lengths.{step-length}
use Rattle.uring_partner.specs.Settling.{file_answer_among, bare, with_bytes}

neither : (a b : Bool) (x y : FileAnswer) → a ≡ false → b ≡ false → y ≡ cond (a || b) x y
neither a b x y p q = rw (p, q) refl

pub performed_among : (files : Files) (rest : List Pending) (i : Pending) (operation : Operation) (b : Bool) → i.marked ≡ false → i.cut ≡ false → op_in operation ≡ (job_of i.taken).op → FindsAs (λ number. has_unmarked number rest) b operation
    → answer_in files b operation (part_of i.taken.loan) ≡ file_answer_among files rest i
performed_among files rest i operation b unmarked uncut asks finds =
    step_finds files (λ number. has_unmarked number rest) b operation (part_of i.taken.loan) finds
    ∙ ap (λ op. step files (λ number. has_unmarked number rest) op (part_of i.taken.loan)) asks
    ∙ neither i.marked i.cut (canceled files (job_of i.taken).buf) (step files (λ number. has_unmarked number rest) (job_of i.taken).op (part_of i.taken.loan)) unmarked uncut

-- the loan keeps all but the bytes in its part

either_length : (b : Bool) (x y : FileAnswer) (n : ℕ) → length x.buf ≡ n → length y.buf ≡ n → length (cond b x y).buf ≡ n
either_length true x y n p q = p
either_length false x y n p q = q

among-length : (files : Files) (rest : List Pending) (i : Pending) → length (file_answer_among files rest i).buf ≡ length (part_of i.taken.loan)
among-length files rest i = either_length (i.marked || i.cut) _ _ _ refl (step-length files _ (job_of i.taken).op (job_of i.taken).buf)

bare_with : (l : Option Loan) (part : List ℕ) → length part ≡ length (part_of l) → bare (with_part l part) ≡ bare l
bare_with None part e = refl
bare_with (Some l) part e =
    let parts : length (take l.from l.buf ++ part) ≡ length l.buf = simp (length-append, length-take, e, length-drop) (omega arith) in
    λ i. Some (l.number, l.from, parts i)

pub alike : (files : Files) (rest : List Pending) (i : Pending) (copy : Option Loan) (after : Pending) → copy ≡ i.taken.loan → after ≡ with_bytes i (file_answer_among files rest i).buf → bare copy ≡ bare after.taken.loan
alike files rest i copy after e h = ap bare e ∙ sym (bare_with i.taken.loan (file_answer_among files rest i).buf (among-length files rest i)) ∙ sym (ap (λ z. bare z.taken.loan) h)

pub on_loan : {T E : Type 0} (r : Result T E) (i : Pending) (loan : Option Loan) (part : List ℕ) → OnOk r (loan ≡ with_part i.taken.loan part)
    → OnOk r (◌≡◌ {A = Pending} (record { taken = record { entry = i.taken.entry; big = i.taken.big; large = i.taken.large; loan = loan }; cut = i.cut; marked = i.marked }) (with_bytes i part))
on_loan (Ok x) i loan part h = λ j. record { taken = record { entry = i.taken.entry; big = i.taken.big; large = i.taken.large; loan = h j }; cut = i.cut; marked = i.marked }
on_loan (Err e) i loan part h = tt
