-- What a stat answers: 19 words of 64 bits, the lowest byte of each first.
use Rattle.std.specs.Prelude.{ℕ, ◌&&◌, ◌==◌, if◌then◌else◌, List, [], ◌∷◌, length, map, replicate, ℤ, pos, Option, Some, None, unwrap_or}
use Rattle.std.specs.Int.{w64, to_le_bytes, div_ceil}
use Rattle.std.specs.FinMap.{get}
use Rattle.std.specs.List.{concat}
use Rattle.uring_base.specs.Errnos.{error_result}
use Rattle.uring_base.specs.FlagBits.{has_bits}
use Rattle.uring_base.specs.declared.errno.TheConstants.{ENOENT, EBADF}
use Rattle.uring_base.specs.declared.fcntl.TheConstants.{AT_EMPTY_PATH}
use Rattle.uring_model.specs.Machine.{Files}
use Rattle.file_tree.specs.declared.place.Node.{Node}
use Rattle.file_tree.specs.declared.place.Node.TheVariants.{Dir, File}
use Rattle.file_tree.specs.declared.place.Spot.{Spot}
use Rattle.file_tree.specs.declared.place.Spot.TheVariants.{Refused, Root, At}
use Rattle.file_tree.specs.declared.stats.TheConstants.{ROOT_MODE, DEVICE, BLOCK_SIZE, STAT_BLOCK}
use Rattle.file_tree.specs.declared.tree.Tree.{Tree}
use Rattle.file_tree.specs.Trees.{mode_of}
use Rattle.file_tree.specs.Opens.{spot_of}

-- the result, and the bytes that the loan comes back with where there is a record
pub record Told : Type 0 where
  pub result : ℤ
  pub bytes : Option (List ℕ)

-- dev, ino, mode, nlink, uid, gid, rdev, size, blksize, blocks, then four times of two words and the mask
abbrev pub stat_words : ℕ → ℕ → ℕ → List ℕ
stat_words ino mode size = DEVICE ∷ ino ∷ mode ∷ 1 ∷ 0 ∷ 0 ∷ 0 ∷ size ∷ BLOCK_SIZE ∷ div_ceil size STAT_BLOCK ∷ replicate 9 0

abbrev pub bytes_of : List ℕ → List ℕ
bytes_of words = concat (map (to_le_bytes w64) words)

abbrev pub told : ℕ → ℕ → ℕ → Told
told ino mode size = record { result = pos 0; bytes = Some (bytes_of (stat_words ino mode size)) }

abbrev pub tells_none : ℤ → Told
tells_none r = record { result = r; bytes = None }

abbrev pub size_of : Files → ℕ → ℕ
size_of fs n = length (unwrap_or (get fs n) [])

abbrev pub stats_node : Files → Tree → Option Node → Told
stats_node fs t None = tells_none (error_result ENOENT)
stats_node fs t (Some (Dir d mode)) = told 0 mode 0
stats_node fs t (Some (File n)) = told n (mode_of t.inodes n) (size_of fs n)

abbrev pub stats_spot : Files → Tree → Spot → Told
stats_spot fs t (Refused r) = tells_none r
stats_spot fs t Root = told 0 ROOT_MODE 0
stats_spot fs t (At p) = stats_node fs t (get t.nodes p)

abbrev pub stats_number : Files → Tree → ℕ → Option (List ℕ) → Told
stats_number fs t n None = tells_none (error_result EBADF)
stats_number fs t n (Some bytes) = told n (mode_of t.inodes n) (length bytes)

-- an empty path with AT_EMPTY_PATH asks for the file of a number
abbrev pub stats : Files → Tree → ℕ → ℕ → List ℕ → Told
stats fs t n flags path =
    if has_bits flags AT_EMPTY_PATH && (length path == 0) then stats_number fs t n (get fs n)
    else stats_spot fs t (spot_of t.nodes path)
