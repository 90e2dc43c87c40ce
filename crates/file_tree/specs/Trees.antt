-- A tree: what stands under each name of each directory, and what is kept of files beside their bytes.
-- Directories are numbered as they are made, from 1 on; the root is 0. A place is a directory's number and a name, so a renamed
-- directory takes along what is in it.
use Rattle.std.specs.Prelude.{ℕ, ◌+◌, Bool, true, false, ◌==◌, List, [], ◌∷◌, Option, Some, None}
use Rattle.std.specs.List.{list_any}
use Rattle.std.specs.Ordering.{nat_cmp}
use Rattle.std.specs.FinMap.{FinMap, empty, get, insert, remove, keys}
use Rattle.uring_base.specs.Errnos.{error_result}
use Rattle.uring_base.specs.declared.errno.TheConstants.{ENOENT, ENOTDIR}
use Rattle.file_tree.specs.declared.place.Place.{Place}
use Rattle.file_tree.specs.declared.place.Node.{Node}
use Rattle.file_tree.specs.declared.place.Node.TheVariants.{Dir, File}
use Rattle.file_tree.specs.declared.place.Spot.{Spot}
use Rattle.file_tree.specs.declared.place.Spot.TheVariants.{Refused, Root, At}
use Rattle.file_tree.specs.declared.inodes.Inode.{Inode}
use Rattle.file_tree.specs.declared.inodes.TheConstants.{SEEDED_MODE}
use Rattle.file_tree.specs.declared.tree.Tree.{Tree}
use Rattle.file_tree.specs.Places.{place_cmp}

abbrev pub Nodes : Type 0
Nodes = FinMap place_cmp Node

-- of the files that were opened into being; a seeded file has none
abbrev pub Inodes : Type 0
Inodes = FinMap nat_cmp Inode

abbrev pub empty_tree : Tree
empty_tree = record { nodes = empty; inodes = empty; dirs = 0 }

abbrev pub at : ℕ → List ℕ → Place
at dir name = record { dir = dir; name = name }

-- into a directory
abbrev pub into : Option Node → (ℕ → Spot) → Spot
into None go = Refused (error_result ENOENT)
into (Some (File number)) go = Refused (error_result ENOTDIR)
into (Some (Dir number mode)) go = go number

-- where names lead to from a directory on; the last one isn't looked up
abbrev pub walk : Nodes → ℕ → List (List ℕ) → Spot
walk nodes dir [] = Root
walk nodes dir (n ∷ []) = At (at dir n)
walk nodes dir (n ∷ m ∷ ns) = into (get nodes (at dir n)) (λ d. walk nodes d (m ∷ ns))

-- whether a directory has entries
abbrev pub has_entries : Nodes → ℕ → Bool
has_entries nodes dir = list_any (λ p. p.dir == dir) (keys nodes)

-- whether a file has a name
abbrev pub is_named : Option Inode → Bool
is_named None = false
is_named (Some inode) = inode.named

abbrev pub has_name : Inodes → ℕ → Bool
has_name inodes number = is_named (get inodes number)

-- a file's mode
abbrev pub mode_in : Option Inode → ℕ
mode_in None = SEEDED_MODE
mode_in (Some inode) = inode.mode

abbrev pub mode_of : Inodes → ℕ → ℕ
mode_of inodes number = mode_in (get inodes number)

-- the changes

-- a file loses its name
abbrev pub unnamed_as : Inodes → ℕ → Option Inode → Inodes
unnamed_as inodes number None = inodes
unnamed_as inodes number (Some inode) = insert inodes number (record { mode = inode.mode; named = false })

abbrev pub unnamed : Inodes → ℕ → Inodes
unnamed inodes number = unnamed_as inodes number (get inodes number)

-- what stood at a place loses its name, if it is a file
abbrev pub displaced : Inodes → Option Node → Inodes
displaced inodes None = inodes
displaced inodes (Some (Dir number mode)) = inodes
displaced inodes (Some (File number)) = unnamed inodes number

abbrev pub without : Tree → Place → Node → Tree
without t p node = record { nodes = remove t.nodes p; inodes = displaced t.inodes (Some node); dirs = t.dirs }

abbrev pub moved : Tree → Place → Place → Node → Tree
moved t p q node = record { nodes = remove (insert t.nodes q node) p; inodes = displaced t.inodes (get t.nodes q); dirs = t.dirs }

abbrev pub with_dir : Tree → Place → ℕ → Tree
with_dir t p mode = record { nodes = insert t.nodes p (Dir (t.dirs + 1) mode); inodes = t.inodes; dirs = t.dirs + 1 }

abbrev pub with_file : Tree → Place → ℕ → ℕ → Tree
with_file t p number mode = record { nodes = insert t.nodes p (File number); inodes = insert t.inodes number (record { mode = mode; named = true }); dirs = t.dirs }

abbrev pub without_inode : Tree → ℕ → Tree
without_inode t number = record { nodes = t.nodes; inodes = remove t.inodes number; dirs = t.dirs }
