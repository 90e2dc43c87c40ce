-- Files and a tree as a world, and the machine that answers there.
use Rattle.std.specs.Prelude.{ℕ, Bool, true, false, ◌&&◌, if◌then◌else◌, List, ℤ, Option, Some, None, unwrap_or}
use Rattle.std.specs.FinMap.{empty, get, insert}
use Rattle.uring_base.specs.Loans.{part_of, with_part}
use Rattle.uring_base.specs.declared.buffer.Loan.{Loan}
use Rattle.uring_base.specs.declared.events.Taken.{Taken}
use Rattle.uring_model.specs.Jobs.{is_success}
use Rattle.uring_model.specs.Machine.{Answer, Files, FileAnswer}
use Rattle.uring_model.specs.Partner.{file_machine}
use Rattle.uring_model.specs.Schedule.{Machine}
use Rattle.file_tree.specs.declared.path_operation.PathOperation.{PathOperation}
use Rattle.file_tree.specs.declared.path_operation.PathOperation.TheVariants.{Open, Close, Stat, Rename, Unlink, MakeDir, Lacking}
use Rattle.file_tree.specs.declared.tree.Tree.{Tree}
use Rattle.file_tree.specs.declared.world.World.{World}
use Rattle.file_tree.specs.Asks.{PathAnswer, path_answer, path_op_of}
use Rattle.file_tree.specs.Trees.{empty_tree, without_inode}

abbrev pub world_of : Files → Tree → World
world_of fs t = record { files = fs; tree = t }

abbrev pub empty_world : World
empty_world = world_of empty empty_tree

-- an answer of the files, which leaves the tree
abbrev pub by_files : Tree → FileAnswer → Answer World
by_files t a = record { result = a.result; buf = a.buf; world = world_of a.world t; marks = a.marks }

-- an answer of the tree, which marks no job; the lent part stays where there are no new bytes
abbrev pub by_tree : List ℕ → PathAnswer → Answer World
by_tree part a = record { result = a.result; buf = unwrap_or a.bytes part; world = world_of a.files a.tree; marks = None }

abbrev pub world_answer : World → (ℕ → Bool) → Taken → Option PathOperation → Answer World
world_answer w other t None = by_files w.tree (file_machine.answer w.files other t)
world_answer w other t (Some operation) = by_tree (part_of t.loan) (path_answer w.files w.tree operation (part_of t.loan))

abbrev pub is_stat : Option PathOperation → Bool
is_stat None = false
is_stat (Some (Open flags mode)) = false
is_stat (Some (Close number)) = false
is_stat (Some (Stat number flags)) = true
is_stat (Some Rename) = false
is_stat (Some (Unlink flags)) = false
is_stat (Some (MakeDir mode)) = false
is_stat (Some Lacking) = false

-- the loan with new bytes as a whole
abbrev pub renewed : Option Loan → List ℕ → Option Loan
renewed None bytes = None
renewed (Some loan) bytes = Some (record { number = loan.number; from = 0; buf = bytes })

-- the same, where there are new bytes
abbrev pub renewed_by : Option Loan → Option (List ℕ) → Option Loan
renewed_by loan None = loan
renewed_by loan (Some bytes) = renewed loan bytes

-- a stat that succeeds brings its record as the loan's bytes, and every other loan comes back with its part's
abbrev pub back_by : Option PathOperation → Option Loan → ℤ → List ℕ → Option Loan
back_by asked loan r bytes = if is_stat asked && is_success r then renewed loan bytes else with_part loan bytes

-- What asks of the tree is answered by it, and all else by the files. It can always answer.
abbrev pub world_machine : Machine World
world_machine = record { can_answer = λ w t. true; answer = λ w other t. world_answer w other t (path_op_of t); back = λ t r bytes. back_by (path_op_of t) t.loan r bytes }

-- what is seen of a world by who knows files alone
abbrev pub files_of : World → Files
files_of w = w.files

abbrev pub AnyWorld : World → Type 0
AnyWorld w = Unit {0}

-- a file that is put in keeps the name and the mode of the one that was there; a new one has neither
abbrev pub tree_with : Tree → ℕ → Option (List ℕ) → Tree
tree_with t number None = without_inode t number
tree_with t number (Some bytes) = t

abbrev pub put_in : ℕ → List ℕ → World → World
put_in number bytes w = world_of (insert w.files number bytes) (tree_with w.tree number (get w.files number))
