-- What opening and closing answer, as tables: the first row that fits holds.
use Rattle.std.specs.Prelude.{ℕ, ℤ, pos, ◌+◌, ◌&&◌, if◌then◌else◌, bit_and, List, [], Option, Some, None}
use Rattle.std.specs.Int.{w32, cast_signed}
use Rattle.std.specs.FinMap.{get, insert, remove}
use Rattle.uring_base.specs.Errnos.{error_result}
use Rattle.uring_base.specs.FlagBits.{has_bits}
use Rattle.uring_base.specs.declared.errno.TheConstants.{ENOENT, EBADF, EEXIST, EISDIR, EMFILE}
use Rattle.uring_base.specs.declared.fcntl.TheConstants.{O_CREAT, O_EXCL, O_TRUNC}
use Rattle.uring_base.specs.declared.stat.TheConstants.{S_IFREG, S_PERMISSIONS}
use Rattle.uring_model.specs.Machine.{Files}
use Rattle.uring_model.specs.FreeNumber.{least_free}
use Rattle.file_tree.specs.declared.place.Place.{Place}
use Rattle.file_tree.specs.declared.place.Node.{Node}
use Rattle.file_tree.specs.declared.place.Node.TheVariants.{Dir, File}
use Rattle.file_tree.specs.declared.place.Spot.{Spot}
use Rattle.file_tree.specs.declared.place.Spot.TheVariants.{Refused, Root, At}
use Rattle.file_tree.specs.declared.tree.Tree.{Tree}
use Rattle.file_tree.specs.Paths.{names, form}
use Rattle.file_tree.specs.Trees.{Nodes, walk, has_name, with_file, without_inode}

-- what an operation leaves that touches files
pub record Done : Type 0 where
  pub result : ℤ
  pub files : Files
  pub tree : Tree

abbrev pub leaves : Files → Tree → ℤ → Done
leaves fs t r = record { result = r; files = fs; tree = t }

abbrev pub refuses : Files → Tree → ℤ → Done
refuses fs t errno = leaves fs t (error_result errno)

-- a file's number is answered as 32 bits with a sign
abbrev pub gives_number : Files → Tree → ℕ → Done
gives_number fs t n = leaves fs t (cast_signed w32 n)

-- where a path leads to; its form is looked at before anything else
abbrev pub unless : Option ℤ → Spot → Spot
unless None spot = spot
unless (Some r) spot = Refused r

abbrev pub spot_of : Nodes → List ℕ → Spot
spot_of nodes path = unless (form path) (walk nodes 0 (names path))

-- open

abbrev pub creates_file : Files → Tree → Place → ℕ → Option ℕ → Done
creates_file fs t p mode None = refuses fs t EMFILE
creates_file fs t p mode (Some n) = gives_number (insert fs n []) (with_file t p n (S_IFREG + bit_and mode S_PERMISSIONS)) n

abbrev pub opens_at : Files → Tree → ℕ → ℕ → Place → Option Node → Done
opens_at fs t flags mode p (Some (Dir d m)) = refuses fs t EISDIR
opens_at fs t flags mode p (Some (File n)) =
    if has_bits flags O_CREAT && has_bits flags O_EXCL then refuses fs t EEXIST
    else if has_bits flags O_TRUNC then gives_number (insert fs n []) t n
    else gives_number fs t n
opens_at fs t flags mode p None = if has_bits flags O_CREAT then creates_file fs t p mode (least_free fs) else refuses fs t ENOENT

abbrev pub opens : Files → Tree → ℕ → ℕ → Spot → Done
opens fs t flags mode (Refused r) = leaves fs t r
opens fs t flags mode Root = refuses fs t EISDIR
opens fs t flags mode (At p) = opens_at fs t flags mode p (get t.nodes p)

-- close

-- a file without a name is gone
abbrev pub closes_known : Files → Tree → ℕ → Option (List ℕ) → Done
closes_known fs t n None = refuses fs t EBADF
closes_known fs t n (Some bytes) = if has_name t.inodes n then leaves fs t (pos 0) else leaves (remove fs n) (without_inode t n) (pos 0)

abbrev pub closes : Files → Tree → ℕ → Done
closes fs t n = closes_known fs t n (get fs n)
