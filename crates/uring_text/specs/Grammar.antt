-- A script by what its lines say, apart from any reading.
use Rattle.std.specs.Prelude.{ℕ, ◌^◌, ◌<◌, ◌≤◌, ◌≡◌, ◌⊎◌, List, [], ◌∷◌, ◌++◌, length, replicate, sum_by, Bool, true, false, not, IsTrue, Ok, codes, decimal}
use Rattle.hex.specs.Hex.{decode_of}
use Rattle.uring_model.specs.declared.jobs.Job.{Job}
use Rattle.uring_model.specs.declared.jobs.JobKind.{JobKind}
use Rattle.uring_model.specs.declared.jobs.JobKind.TheVariants.{Nop, Read, Write, Fsync, Ftruncate, Cancel}
use Rattle.uring_model.specs.declared.jobs.Link.{Link}
use Rattle.uring_model.specs.declared.jobs.Link.TheVariants.{Free, Soft, Hard}
use Rattle.uring_model.specs.Jobs.{model_op, moves_bytes, linked}
use Rattle.uring_text.specs.declared.script.Line.{Line}
use Rattle.uring_text.specs.declared.script.Line.TheVariants as line
use Rattle.uring_text.specs.declared.limits.TheConstants.{MAX_FILES, MAX_JOBS, MAX_JOB_BYTES, MAX_READ_BYTES}
use Rattle.uring_text.specs.Lines.{number_sign, fields_of}
use Rattle.uring_text.specs.Script.{Told, files_of, choices_of, jobs_of, buffer_len, numbers_differ}

-- pairs of hex digits of either case, or a dash for no bytes
abbrev pub SpellsBytes : List ℕ → List ℕ → Type 0
SpellsBytes text bytes = ((text ≡ codes "-") × (bytes ≡ [])) ⊎ ((0 < length text) × (decode_of text ≡ Ok bytes))

-- a soft link is written `link`, a hard one `hard`, and none isn't written
abbrev pub link_text : Link → List (List ℕ)
link_text Free = []
link_text Soft = codes "link" ∷ []
link_text Hard = codes "hard" ∷ []

-- a word that is written where this holds
abbrev pub word_where : Bool → List ℕ → List (List ℕ)
word_where true word = word ∷ []
word_where false word = []

-- the marks at the end of a job line: `drain` where it is drained, `quiet` where it is quiet, and then its link
abbrev pub marks : Job → List (List ℕ)
marks job = word_where job.drain (codes "drain") ++ word_where job.quiet (codes "quiet") ++ link_text job.link

-- where a job is quiet, it moves no bytes and has a link
abbrev pub IsWellMarked : Job → Type 0
IsWellMarked job = IsTrue job.quiet → IsTrue (not (moves_bytes (model_op job.kind))) × IsTrue (linked job.link)

-- the fields of a kind of job, with these marks after them
abbrev pub KindSaid : JobKind → List (List ℕ) → List (List ℕ) → Type 0
KindSaid Nop fields end = fields ≡ codes "nop" ∷ end
KindSaid (Read n at buf) fields end = (fields ≡ codes "read" ∷ decimal n ∷ decimal at ∷ decimal (length buf) ∷ end) × (n < 2 ^ 32) × (at < 2 ^ 64) × (length buf ≤ MAX_READ_BYTES) × (buf ≡ replicate (length buf) 0)
KindSaid (Write n at buf) fields end = (hex : List ℕ) × (fields ≡ codes "write" ∷ decimal n ∷ decimal at ∷ hex ∷ end) × (n < 2 ^ 32) × (at < 2 ^ 64) × SpellsBytes hex buf
KindSaid (Fsync n) fields end = (fields ≡ codes "fsync" ∷ decimal n ∷ end) × (n < 2 ^ 32)
KindSaid (Ftruncate n len) fields end = (fields ≡ codes "truncate" ∷ decimal n ∷ decimal len ∷ end) × (n < 2 ^ 32) × (len < 2 ^ 64)
KindSaid (Cancel job) fields end = (fields ≡ codes "cancel" ∷ decimal job ∷ end) × (job < 2 ^ 64)

-- the fields of a line that says something
abbrev pub FieldsSay : List (List ℕ) → Line → Type 0
FieldsSay fields line.Blank = ⊥
FieldsSay fields (line.File seed) = (hex : List ℕ) × (fields ≡ codes "file" ∷ decimal seed.number ∷ hex ∷ []) × (seed.number < 2 ^ 32) × SpellsBytes hex seed.bytes
FieldsSay fields (line.Choose c) = (fields ≡ codes "choose" ∷ decimal c ∷ []) × (c < 2 ^ 32)
FieldsSay fields (line.Job job) = KindSaid job.kind fields (marks job) × IsWellMarked job

-- an empty line and a comment say nothing to do
abbrev pub Says : List ℕ → Line → Type 0
Says [] said = said ≡ line.Blank
Says (b ∷ more) line.Blank = b ≡ number_sign
Says (b ∷ more) (line.File seed) = FieldsSay (fields_of (b ∷ more)) (line.File seed)
Says (b ∷ more) (line.Choose c) = FieldsSay (fields_of (b ∷ more)) (line.Choose c)
Says (b ∷ more) (line.Job job) = FieldsSay (fields_of (b ∷ more)) (line.Job job)

abbrev pub EachSays : List (List ℕ) → List Line → Type 0
EachSays [] [] = Unit {0}
EachSays [] (l ∷ said) = ⊥
EachSays (text ∷ texts) [] = ⊥
EachSays (text ∷ texts) (l ∷ said) = Says text l × EachSays texts said

-- these lines are a script, which tells this
pub record IsScript (lines : List (List ℕ)) (told : Told) : Type 0 where
  pub said : List Line
  pub each : EachSays lines said
  pub files : told.files ≡ files_of said
  pub choices : told.choices ≡ choices_of said
  pub jobs : told.jobs ≡ jobs_of said
  pub few_files : length told.files ≤ MAX_FILES
  pub differ : numbers_differ told.files ≡ true
  pub few_jobs : length told.jobs ≤ MAX_JOBS
  pub few_bytes : sum_by buffer_len told.jobs ≤ MAX_JOB_BYTES
