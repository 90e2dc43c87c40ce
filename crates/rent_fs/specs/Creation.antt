-- How directories are made with those above them: up to what is there, and down again.
use Rattle.std.specs.Prelude.{◌≡◌, ℕ, ◌+◌, Bool, true, false, ◌==◌, if◌then◌else◌, List, [], ◌∷◌, length, take, ℤ, pos, negsuc, Option, Some, None, Result, Ok, Err, refl}
use Rattle.std.specs.Coded.{Coded, code_by, coded×, coded_ℕ, coded_list}
use Rattle.std.specs.Int.{w32, cast_unsigned}
use Rattle.uring_base.specs.declared.errno.TheConstants.{ENOENT}
use Rattle.uring_base.specs.declared.squeue.Entry.{Entry}
use Rattle.fs_data.specs.Paths.{parent_end}
use Rattle.rent_engine.specs.declared.one_op.Request.{Request}
use Rattle.rent_fs.specs.declared.error.FsError.{FsError}
use Rattle.rent_fs.specs.declared.error.FsError.TheVariants as errors
use Rattle.rent_fs.specs.declared.creation.Phase.{Phase}
use Rattle.rent_fs.specs.declared.creation.Phase.TheVariants.{Up, Stats, Down}
use Rattle.rent_fs.specs.contracts.creation.Phase as phases
use Rattle.rent_fs.specs.Entries.{mk_dir_entry, stat_path_entry}

-- What is tried now and what is missing below it are beginnings of the path, by their lengths; the shortest missing one comes first.
pub record Creating : Type 0 where
  pub path : List ℕ
  pub mode : ℕ
  pub tried : ℕ
  pub missing : List ℕ
  pub phase : Phase

abbrev pub creating_code : Coded Creating
creating_code = code_by (List ℕ × (ℕ × (ℕ × (List ℕ × Phase)))) (coded× (coded_list coded_ℕ) (coded× coded_ℕ (coded× coded_ℕ (coded× (coded_list coded_ℕ) phases.the_row.coded))))
    (λ c. (c.path, (c.mode, (c.tried, (c.missing, c.phase))))) (λ p. record { path = p.0; mode = p.1.0; tried = p.1.1.0; missing = p.1.1.1.0; phase = p.1.1.1.1 }) (λ _. refl)

-- the whole path is tried first
abbrev pub creation_of : List ℕ → ℕ → Creating
creation_of path mode = record { path = path; mode = mode; tried = length path; missing = []; phase = Up }

-- the next operation, or an output
pub data Next : Type 0 where
  Tries : Creating → Next
  Ends : Result (Unit {0}) FsError → Next

abbrev pub is_try : Next → Bool
is_try (Tries c) = true
is_try (Ends output) = false

-- the missing ones are made, from the top
abbrev pub turns_down : Creating → List ℕ → Next
turns_down c [] = Ends (Ok tt)
turns_down c (n ∷ ns) = Tries (record c { tried = n; missing = ns; phase = Down })

abbrev pub goes_up : Creating → Option ℕ → Next
goes_up c None = Ends (Err errors.WholeTree)
goes_up c (Some n) = Tries (record c { tried = n; missing = c.tried ∷ c.missing })

abbrev pub fails_with : ℕ → Next
fails_with errno = Ends (Err (errors.Os errno))

-- a missing parent leads up; at another error it is asked what stands there
abbrev pub not_made : Creating → ℕ → Next
not_made c errno = if errno == cast_unsigned w32 ENOENT then goes_up c (parent_end c.path c.tried) else Tries (record c { phase = Stats errno })

-- a result, and whether a stat said directory
abbrev pub made : Creating → Phase → ℤ → Bool → Next
made c Up (pos n) is_dir = turns_down c c.missing
made c Up (negsuc e) is_dir = not_made c (e + 1)
made c (Stats errno) (pos n) is_dir = if is_dir then turns_down c c.missing else fails_with errno
made c (Stats errno) (negsuc e) is_dir = fails_with errno
made c Down (pos n) is_dir = turns_down c c.missing
made c Down (negsuc e) is_dir = fails_with (e + 1)

-- a step was made; where an output was given, nothing is known of the creation
abbrev pub Steps : Next → Option (Result (Unit {0}) FsError) → Creating → Type 0
Steps (Tries c) given after = (given ≡ None) × (after ≡ c)
Steps (Ends output) given after = given ≡ Some output

abbrev pub creation_entry : Phase → ℕ → Entry
creation_entry Up mode = mk_dir_entry mode
creation_entry (Stats errno) mode = stat_path_entry
creation_entry Down mode = mk_dir_entry mode

-- the beginning that is tried is lent
abbrev pub creation_request : Creating → Request
creation_request c = record { number = None; entry = creation_entry c.phase c.mode; from = 0; buf = Some (take c.tried c.path) }

-- the lengths tried, and in what phase, where the operations have these results and no stat says directory
abbrev pub trials : Next → List ℤ → List (ℕ × Phase)
trials (Ends output) rs = []
trials (Tries c) [] = (c.tried, c.phase) ∷ []
trials (Tries c) (r ∷ rs) = (c.tried, c.phase) ∷ trials (made c c.phase r false) rs
