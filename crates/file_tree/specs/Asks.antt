-- What an entry asks of the tree, and what it is answered.
use Rattle.std.specs.Prelude.{ℕ, ◌+◌, ◌==◌, if◌then◌else◌, cond, nat_eq, List, take, drop, ℤ, Option, Some, None}
use Rattle.std.specs.List.{position}
use Rattle.uring_base.specs.declared.buffer.Loan.{Loan}
use Rattle.uring_base.specs.declared.events.Taken.{Taken}
use Rattle.uring_base.specs.FlagBits.{has_flags}
use Rattle.uring_base.specs.declared.errno.TheConstants.{EINVAL}
use Rattle.uring_base.specs.declared.fcntl.TheConstants.{AT_REMOVEDIR}
use Rattle.uring_base.specs.declared.flags.TheConstants.Flags.{BUFFER_SELECT}
use Rattle.uring_base.specs.declared.opcodes.TheConstants as opcodes
use Rattle.uring_model.specs.Machine.{Files}
use Rattle.uring_model.specs.Asks.{file_of}
use Rattle.file_tree.specs.declared.path_operation.PathOperation.{PathOperation}
use Rattle.file_tree.specs.declared.path_operation.PathOperation.TheVariants.{Open, Close, Stat, Rename, Unlink, MakeDir, Lacking}
use Rattle.file_tree.specs.declared.tree.Tree.{Tree}
use Rattle.file_tree.specs.Opens.{Done, spot_of, opens, closes}
use Rattle.file_tree.specs.Dirs.{Changed, denies, makes_dir, removes_file, removes_dir, renames}
use Rattle.file_tree.specs.Stats.{Told, stats}

abbrev pub unless_lacking : Option Loan → PathOperation → PathOperation
unless_lacking None operation = Lacking
unless_lacking (Some l) operation = operation

-- None is asked by an entry of another code, or with buffer selection, which isn't served. A close alone needs no loan.
abbrev pub path_op_of : Taken → Option PathOperation
path_op_of t =
    cond (has_flags t.entry.flags BUFFER_SELECT) None
    (cond (nat_eq t.entry.opcode opcodes.OPENAT) (Some (unless_lacking t.loan (Open t.entry.op t.entry.len)))
    (cond (nat_eq t.entry.opcode opcodes.CLOSE) (Some (Close (file_of t.entry)))
    (cond (nat_eq t.entry.opcode opcodes.STATX) (Some (unless_lacking t.loan (Stat (file_of t.entry) t.entry.op)))
    (cond (nat_eq t.entry.opcode opcodes.RENAMEAT) (Some (unless_lacking t.loan Rename))
    (cond (nat_eq t.entry.opcode opcodes.UNLINKAT) (Some (unless_lacking t.loan (Unlink t.entry.op)))
    (cond (nat_eq t.entry.opcode opcodes.MKDIRAT) (Some (unless_lacking t.loan (MakeDir t.entry.len)))
    None))))))

-- the result, files and tree, and the bytes that the loan comes back with where they are new
pub record PathAnswer : Type 0 where
  pub result : ℤ
  pub files : Files
  pub tree : Tree
  pub bytes : Option (List ℕ)

abbrev pub done : Done → PathAnswer
done d = record { result = d.result; files = d.files; tree = d.tree; bytes = None }

abbrev pub changed : Files → Changed → PathAnswer
changed fs c = record { result = c.result; files = fs; tree = c.tree; bytes = None }

abbrev pub telling : Files → Tree → Told → PathAnswer
telling fs t s = record { result = s.result; files = fs; tree = t; bytes = s.bytes }

-- the first zero byte ends the old path
abbrev pub renames_in : Tree → List ℕ → Option ℕ → Changed
renames_in t part None = denies t EINVAL
renames_in t part (Some i) = renames t (take i part) (drop (i + 1) part)

abbrev pub unlinks : Tree → ℕ → List ℕ → Changed
unlinks t flags path =
    if flags == 0 then removes_file t (spot_of t.nodes path)
    else if flags == AT_REMOVEDIR then removes_dir t (spot_of t.nodes path)
    else denies t EINVAL

-- `part` are the lent bytes
abbrev pub path_answer : Files → Tree → PathOperation → List ℕ → PathAnswer
path_answer fs t (Open flags mode) part = done (opens fs t flags mode (spot_of t.nodes part))
path_answer fs t (Close number) part = done (closes fs t number)
path_answer fs t (Stat number flags) part = telling fs t (stats fs t number flags part)
path_answer fs t Rename part = changed fs (renames_in t part (position (λ b. b == 0) part))
path_answer fs t (Unlink flags) part = changed fs (unlinks t flags part)
path_answer fs t (MakeDir mode) part = changed fs (makes_dir t mode (spot_of t.nodes part))
path_answer fs t Lacking part = changed fs (denies t EINVAL)
