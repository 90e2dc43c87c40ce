-- A stat's record comes exactly where it succeeds, and changes nothing.
use Rattle.std.proofs.Common.{◌≡◌, ℕ, zero, suc, Bool, true, false, ◌++◌, List, [], ◌∷◌, take, drop, ℤ, Option, Some, None, refl, ap}
use Rattle.std.specs.Prelude.{is_some, unwrap_or, if◌then◌else◌, ◌&&◌, ◌==◌, length}
use Rattle.std.specs.FinMap.{get}
use Rattle.std.specs.List.{list_any}
use Rattle.uring_base.specs.declared.buffer.Loan.{Loan}
use Rattle.uring_base.specs.FlagBits.{has_bits}
use Rattle.uring_base.specs.Errnos.{error_result}
use Rattle.uring_base.specs.declared.errno.TheConstants.{EINVAL}
use Rattle.uring_base.specs.declared.fcntl.TheConstants.{AT_EMPTY_PATH}
use Rattle.uring_base.specs.Loans.{part_of, with_part}
use Rattle.uring_model.specs.Jobs.{is_success}
use Rattle.uring_model.specs.Machine.{Files}
use Rattle.file_tree.specs.declared.path_operation.PathOperation.{PathOperation}
use Rattle.file_tree.specs.declared.path_operation.PathOperation.TheVariants.{Open, Close, Stat, Rename, Unlink, MakeDir, Lacking}
use Rattle.file_tree.specs.declared.place.Node.{Node}
use Rattle.file_tree.specs.declared.place.Node.TheVariants.{Dir, File}
use Rattle.file_tree.specs.declared.place.Spot.{Spot}
use Rattle.file_tree.specs.declared.place.Spot.TheVariants.{Refused, Root, At}
use Rattle.file_tree.specs.declared.tree.Tree.{Tree}
use Rattle.file_tree.specs.Asks.{path_answer}
use Rattle.file_tree.specs.Opens.{spot_of, unless}
use Rattle.file_tree.specs.Paths.{form, names, is_dots}
use Rattle.file_tree.specs.Stats.{Told, stats, stats_node, stats_number, stats_spot}
use Rattle.file_tree.specs.Trees.{Nodes, into, walk}
use Rattle.file_tree.specs.Worlds.{back_by, renewed, renewed_by}

-- what a path is refused with is an error

abbrev pub Fails : Spot → Type 0
Fails (Refused r) = is_success r ≡ false
Fails Root = Unit {0}
Fails (At p) = Unit {0}

into_fails : (node : Option Node) (go : ℕ → Spot) → ((d : ℕ) → Fails (go d)) → Fails (into node go)
into_fails None go f = refl
into_fails (Some (File number)) go f = refl
into_fails (Some (Dir number mode)) go f = f number

walk_fails : (nodes : Nodes) (dir : ℕ) (ns : List (List ℕ)) → Fails (walk nodes dir ns)
walk_fails nodes dir [] = tt
walk_fails nodes dir (n ∷ []) = tt
walk_fails nodes dir (n ∷ m ∷ ns) = into_fails (get nodes (record { dir = dir; name = n })) (λ d. walk nodes d (m ∷ ns)) (λ d. walk_fails nodes d (m ∷ ns))

either_fails : (b : Bool) (spot : Spot) → Fails spot → Fails (unless (if b then Some (error_result EINVAL) else None) spot)
either_fails true spot f = refl
either_fails false spot f = f

form_fails : (path : List ℕ) (spot : Spot) → Fails spot → Fails (unless (form path) spot)
form_fails [] spot f = refl
form_fails (b ∷ bs) spot f = either_fails (list_any is_dots (names (b ∷ bs))) spot f

-- a stat succeeds exactly where it has a record

abbrev pub TellsBoth : Told → Type 0
TellsBoth t = is_success t.result ≡ is_some t.bytes

node_tells : (fs : Files) (t : Tree) (node : Option Node) → TellsBoth (stats_node fs t node)
node_tells fs t None = refl
node_tells fs t (Some (Dir d mode)) = refl
node_tells fs t (Some (File n)) = refl

spot_tells : (fs : Files) (t : Tree) (spot : Spot) → Fails spot → TellsBoth (stats_spot fs t spot)
spot_tells fs t (Refused r) f = f
spot_tells fs t Root f = refl
spot_tells fs t (At p) f = node_tells fs t (get t.nodes p)

number_tells : (fs : Files) (t : Tree) (n : ℕ) (file : Option (List ℕ)) → TellsBoth (stats_number fs t n file)
number_tells fs t n None = refl
number_tells fs t n (Some bytes) = refl

either_tells : (b : Bool) (x y : Told) → TellsBoth x → TellsBoth y → TellsBoth (if b then x else y)
either_tells true x y p q = p
either_tells false x y p q = q

stat_tells : (fs : Files) (t : Tree) (n flags : ℕ) (path : List ℕ) → TellsBoth (stats fs t n flags path)
stat_tells fs t n flags path =
    either_tells (has_bits flags AT_EMPTY_PATH && (length path == 0)) _ _
    (number_tells fs t n (get fs n)) (spot_tells fs t (spot_of t.nodes path) (form_fails path (walk t.nodes 0 (names path)) (walk_fails t.nodes 0 (names path))))

-- so the loan comes back as the code gives it back

take_drop : (n : ℕ) (xs : List ℕ) → take n xs ++ drop n xs ≡ xs
take_drop zero xs = refl
take_drop (suc n) [] = refl
take_drop (suc n) (x ∷ xs) = ap (λ l. x ∷ l) (take_drop n xs)

with_same : (loan : Option Loan) → with_part loan (part_of loan) ≡ loan
with_same None = refl
with_same (Some l) = λ i. Some (record { number = l.number; from = l.from; buf = take_drop l.from l.buf i })

stat_back : (loan : Option Loan) (r : ℤ) (bytes : Option (List ℕ)) → is_success r ≡ is_some bytes
    → (if is_success r then renewed loan (unwrap_or bytes (part_of loan)) else with_part loan (unwrap_or bytes (part_of loan))) ≡ renewed_by loan bytes
stat_back loan r None e = rw e (with_same loan)
stat_back loan r (Some bytes) e = rw e refl

pub comes_back : (fs : Files) (t : Tree) (operation : PathOperation) (loan : Option Loan)
    → back_by (Some operation) loan (path_answer fs t operation (part_of loan)).result (unwrap_or (path_answer fs t operation (part_of loan)).bytes (part_of loan))
    ≡ renewed_by loan (path_answer fs t operation (part_of loan)).bytes
comes_back fs t (Open flags mode) loan = with_same loan
comes_back fs t (Close number) loan = with_same loan
comes_back fs t (Stat number flags) loan = stat_back loan _ _ (stat_tells fs t number flags (part_of loan))
comes_back fs t Rename loan = with_same loan
comes_back fs t (Unlink flags) loan = with_same loan
comes_back fs t (MakeDir mode) loan = with_same loan
comes_back fs t Lacking loan = with_same loan

-- what has a record leaves files and tree
pub record_stays : (fs : Files) (t : Tree) (operation : PathOperation) (part : List ℕ) → is_some (path_answer fs t operation part).bytes ≡ true
    → ((path_answer fs t operation part).files ≡ fs) × ((path_answer fs t operation part).tree ≡ t)
record_stays fs t (Open flags mode) part e = absurd cc
record_stays fs t (Close number) part e = absurd cc
record_stays fs t (Stat number flags) part e = (refl, refl)
record_stays fs t Rename part e = absurd cc
record_stays fs t (Unlink flags) part e = absurd cc
record_stays fs t (MakeDir mode) part e = absurd cc
record_stays fs t Lacking part e = absurd cc
