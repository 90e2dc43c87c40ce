-- What operations on names answer, as tables: the first row that fits holds. None of them touches a file's bytes.
use Rattle.std.specs.Prelude.{ℕ, ℤ, pos, ◌+◌, Bool, if◌then◌else◌, bit_and, List, Option, Some, None}
use Rattle.std.specs.FinMap.{get}
use Rattle.uring_base.specs.Errnos.{error_result}
use Rattle.uring_base.specs.declared.errno.TheConstants.{ENOENT, EEXIST, ENOTDIR, EISDIR, EINVAL, ENOTEMPTY}
use Rattle.uring_base.specs.declared.stat.TheConstants.{S_IFDIR, S_PERMISSIONS}
use Rattle.file_tree.specs.declared.place.Place.{Place}
use Rattle.file_tree.specs.declared.place.Node.{Node}
use Rattle.file_tree.specs.declared.place.Node.TheVariants.{Dir, File}
use Rattle.file_tree.specs.declared.place.Spot.{Spot}
use Rattle.file_tree.specs.declared.place.Spot.TheVariants.{Refused, Root, At}
use Rattle.file_tree.specs.declared.tree.Tree.{Tree}
use Rattle.file_tree.specs.Places.{same_place}
use Rattle.file_tree.specs.Paths.{names, form, is_below}
use Rattle.file_tree.specs.Trees.{walk, has_entries, with_dir, without, moved}
use Rattle.file_tree.specs.Opens.{unless}

-- what such an operation leaves
pub record Changed : Type 0 where
  pub result : ℤ
  pub tree : Tree

abbrev pub keeps : Tree → ℤ → Changed
keeps t r = record { result = r; tree = t }

abbrev pub denies : Tree → ℤ → Changed
denies t errno = keeps t (error_result errno)

-- make a directory

abbrev pub makes_dir_at : Tree → ℕ → Place → Option Node → Changed
makes_dir_at t mode p (Some node) = denies t EEXIST
makes_dir_at t mode p None = keeps (with_dir t p (S_IFDIR + bit_and mode S_PERMISSIONS)) (pos 0)

abbrev pub makes_dir : Tree → ℕ → Spot → Changed
makes_dir t mode (Refused r) = keeps t r
makes_dir t mode Root = denies t EEXIST
makes_dir t mode (At p) = makes_dir_at t mode p (get t.nodes p)

-- take away the name of a file

abbrev pub removes_file_at : Tree → Place → Option Node → Changed
removes_file_at t p None = denies t ENOENT
removes_file_at t p (Some (Dir d m)) = denies t EISDIR
removes_file_at t p (Some (File n)) = keeps (without t p (File n)) (pos 0)

abbrev pub removes_file : Tree → Spot → Changed
removes_file t (Refused r) = keeps t r
removes_file t Root = denies t EISDIR
removes_file t (At p) = removes_file_at t p (get t.nodes p)

-- remove an empty directory

abbrev pub removes_dir_at : Tree → Place → Option Node → Changed
removes_dir_at t p None = denies t ENOENT
removes_dir_at t p (Some (File n)) = denies t ENOTDIR
removes_dir_at t p (Some (Dir d m)) = if has_entries t.nodes d then denies t ENOTEMPTY else keeps (without t p (Dir d m)) (pos 0)

abbrev pub removes_dir : Tree → Spot → Changed
removes_dir t (Refused r) = keeps t r
removes_dir t Root = denies t EINVAL
removes_dir t (At p) = removes_dir_at t p (get t.nodes p)

-- rename

-- what stands at the new place decides
abbrev pub renames_onto : Tree → Place → Place → Node → Option Node → Changed
renames_onto t p q node None = keeps (moved t p q node) (pos 0)
renames_onto t p q (File n) (Some (File k)) = keeps (moved t p q (File n)) (pos 0)
renames_onto t p q (File n) (Some (Dir d m)) = denies t EISDIR
renames_onto t p q (Dir d m) (Some (File n)) = denies t ENOTDIR
renames_onto t p q (Dir d m) (Some (Dir e k)) = if has_entries t.nodes e then denies t ENOTEMPTY else keeps (moved t p q (Dir d m)) (pos 0)

-- `inside` says that the new path goes on below the old one
abbrev pub renames_at : Tree → Bool → Place → Place → Option Node → Changed
renames_at t inside p q None = denies t ENOENT
renames_at t inside p q (Some node) =
    if same_place p q then keeps t (pos 0)
    else if inside then denies t EINVAL
    else renames_onto t p q node (get t.nodes q)

-- a missing old path comes before the root as the new one
abbrev pub renames_to_root : Tree → Option Node → Changed
renames_to_root t None = denies t ENOENT
renames_to_root t (Some node) = denies t EINVAL

abbrev pub renames_from : Tree → Bool → Place → Spot → Changed
renames_from t inside p (Refused r) = keeps t r
renames_from t inside p Root = renames_to_root t (get t.nodes p)
renames_from t inside p (At q) = renames_at t inside p q (get t.nodes p)

abbrev pub renames_between : Tree → Bool → Spot → Spot → Changed
renames_between t inside (Refused r) to = keeps t r
renames_between t inside (At p) to = renames_from t inside p to
renames_between t inside Root (Refused r) = keeps t r
renames_between t inside Root Root = denies t EINVAL
renames_between t inside Root (At q) = denies t EINVAL

-- the form of both paths is looked at before either is walked
abbrev pub renames : Tree → List ℕ → List ℕ → Changed
renames t old new =
    renames_between t (is_below (names old) (names new)) (unless (form old) (unless (form new) (walk t.nodes 0 (names old)))) (walk t.nodes 0 (names new))
