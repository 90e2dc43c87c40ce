-- A script: what each line says, and what all of them say together.
use Rattle.std.specs.Prelude.{ℕ, ◌+◌, ◌^◌, ◌<◌, ◌≡◌, List, [], ◌∷◌, length, take, replicate, sum_by, Bool, true, false, not, Option, Some, None, IsSome, bytes_eq, option_map, Vec, codes, nat_le, ◌==◌, ◌&&◌, ◌||◌, if◌then◌else◌}
use Rattle.std.specs.List.{list_any}
use Rattle.std.specs.declared.alloc.Global.{Global}
use Rattle.uring_model.specs.declared.jobs.Job.{Job}
use Rattle.uring_model.specs.declared.jobs.JobKind.{JobKind}
use Rattle.uring_model.specs.declared.jobs.JobKind.TheVariants.{Nop, Read, Write, Fsync, Ftruncate, Cancel}
use Rattle.uring_model.specs.declared.jobs.Link.{Link}
use Rattle.uring_model.specs.declared.jobs.Link.TheVariants.{Free, Soft, Hard}
use Rattle.uring_model.specs.Jobs.{buf_lent, model_job, may_be_quiet}
use Rattle.uring_text.specs.declared.marks.Marks.{Marks}
use Rattle.uring_text.specs.declared.script.Seed.{Seed}
use Rattle.uring_text.specs.declared.script.Line.{Line}
use Rattle.uring_text.specs.declared.script.Line.TheVariants as line
use Rattle.uring_text.specs.declared.script.Script.{Script}
use Rattle.uring_text.specs.declared.script.ScriptFault.{ScriptFault}
use Rattle.uring_text.specs.declared.script.ScriptFault.TheVariants as fault
use Rattle.uring_text.specs.declared.limits.TheConstants.{MAX_FILES, MAX_JOBS, MAX_JOB_BYTES, MAX_READ_BYTES}
use Rattle.uring_text.specs.Lines.{number_sign, fields_of, number_below, bytes_spelled}

infixl 10 ◌>>=◌
abbrev pub ◌>>=◌ : {A B : Type 0} → Option A → (A → Option B) → Option B
(Some x) >>= f = f x
None >>= f = None

-- ---- one line

-- `file N HEX`
unfoldable pub file_line : List (List ℕ) → Option Line
file_line (number ∷ hex ∷ []) = do
  n ← number_below (2 ^ 32) number
  bytes ← bytes_spelled hex
  Some (line.File (record { number = n; bytes = bytes }))
file_line _ = None

-- `choose C`
unfoldable pub choose_line : List (List ℕ) → Option Line
choose_line (choice ∷ []) = do
  c ← number_below (2 ^ 32) choice
  Some (line.Choose c)
choose_line _ = None

-- whether this word stands in front, and what follows it
unfoldable pub after_word : List ℕ → List (List ℕ) → Bool × List (List ℕ)
after_word word [] = (false, [])
after_word word (mark ∷ marks) = if bytes_eq mark word then (true, marks) else (false, mark ∷ marks)

-- the last mark of a job line: `link`, `hard` or none
unfoldable pub link_mark : List (List ℕ) → Option Link
link_mark [] = Some Free
link_mark (mark ∷ []) =
    if bytes_eq mark (codes "link") then Some Soft
    else if bytes_eq mark (codes "hard") then Some Hard
    else None
link_mark (_ ∷ _ ∷ _) = None

-- the marks at the end of a job line: `drain` or not, `quiet` or not, and then the link
unfoldable pub marks_of : List (List ℕ) → Option Marks
marks_of fields =
    let drain = after_word (codes "drain") fields in
    let quiet = after_word (codes "quiet") drain.1 in
    option_map (λ link. record { drain = drain.0; quiet = quiet.0; link = link }) (link_mark quiet.1)

-- what a job line says of the kind of its job, and the marks after that
abbrev pub KindAndMarks : Type 0
KindAndMarks = Option (JobKind × List (List ℕ))

-- `read N OFFSET LEN`: a buffer of LEN zeros
unfoldable pub read_fields : List (List ℕ) → KindAndMarks
read_fields (file ∷ offset ∷ len ∷ marks) = do
  n ← number_below (2 ^ 32) file
  at ← number_below (2 ^ 64) offset
  size ← number_below (MAX_READ_BYTES + 1) len
  Some (Read n at (replicate size 0), marks)
read_fields _ = None

-- `write N OFFSET HEX`
unfoldable pub write_fields : List (List ℕ) → KindAndMarks
write_fields (file ∷ offset ∷ hex ∷ marks) = do
  n ← number_below (2 ^ 32) file
  at ← number_below (2 ^ 64) offset
  bytes ← bytes_spelled hex
  Some (Write n at bytes, marks)
write_fields _ = None

-- `fsync N`
unfoldable pub fsync_fields : List (List ℕ) → KindAndMarks
fsync_fields (file ∷ marks) = do
  n ← number_below (2 ^ 32) file
  Some (Fsync n, marks)
fsync_fields _ = None

-- `truncate N LEN`
unfoldable pub truncate_fields : List (List ℕ) → KindAndMarks
truncate_fields (file ∷ len ∷ marks) = do
  n ← number_below (2 ^ 32) file
  size ← number_below (2 ^ 64) len
  Some (Ftruncate n size, marks)
truncate_fields _ = None

-- `cancel J`
unfoldable pub cancel_fields : List (List ℕ) → KindAndMarks
cancel_fields (job ∷ marks) = do
  j ← number_below (2 ^ 64) job
  Some (Cancel j, marks)
cancel_fields _ = None

unfoldable pub job_fields : List ℕ → List (List ℕ) → KindAndMarks
job_fields word fields =
    if bytes_eq word (codes "nop") then Some (Nop, fields)
    else if bytes_eq word (codes "read") then read_fields fields
    else if bytes_eq word (codes "write") then write_fields fields
    else if bytes_eq word (codes "fsync") then fsync_fields fields
    else if bytes_eq word (codes "truncate") then truncate_fields fields
    else if bytes_eq word (codes "cancel") then cancel_fields fields
    else None

-- a quiet job is no read or write, and has a link
abbrev pub is_well_marked : Job → Bool
is_well_marked job = not job.quiet || may_be_quiet false (model_job job)

abbrev pub marked_job : JobKind → Marks → Job
marked_job kind marks = record { kind = kind; drain = marks.drain; quiet = marks.quiet; link = marks.link }

unfoldable pub job_line : List ℕ → List (List ℕ) → Option Line
job_line word fields = do
  said ← job_fields word fields
  marks ← marks_of said.1
  let job = marked_job said.0 marks in
      if is_well_marked job then Some (line.Job job) else None

unfoldable pub worded_line : List (List ℕ) → Option Line
worded_line [] = None
worded_line (word ∷ fields) =
    if bytes_eq word (codes "file") then file_line fields
    else if bytes_eq word (codes "choose") then choose_line fields
    else job_line word fields

-- what a line says. An empty line and a comment say nothing to do.
unfoldable pub line_says : List ℕ → Option Line
line_says [] = Some line.Blank
line_says (b ∷ more) = if b == number_sign then Some line.Blank else worded_line (fields_of (b ∷ more))

-- ---- all lines

-- what each of the lines says, if each says something
unfoldable pub lines_say : List (List ℕ) → Option (List Line)
lines_say [] = Some []
lines_say (text ∷ texts) = do
  first ← line_says text
  others ← lines_say texts
  Some (first ∷ others)

-- what a script tells
pub record Told : Type 0 where
  pub files : List Seed
  pub choices : List ℕ
  pub jobs : List Job

abbrev pub files_of : List Line → List Seed
files_of [] = []
files_of (line.Blank ∷ said) = files_of said
files_of (line.File seed ∷ said) = seed ∷ files_of said
files_of (line.Choose _ ∷ said) = files_of said
files_of (line.Job _ ∷ said) = files_of said

abbrev pub choices_of : List Line → List ℕ
choices_of [] = []
choices_of (line.Blank ∷ said) = choices_of said
choices_of (line.File _ ∷ said) = choices_of said
choices_of (line.Choose choice ∷ said) = choice ∷ choices_of said
choices_of (line.Job _ ∷ said) = choices_of said

abbrev pub jobs_of : List Line → List Job
jobs_of [] = []
jobs_of (line.Blank ∷ said) = jobs_of said
jobs_of (line.File _ ∷ said) = jobs_of said
jobs_of (line.Choose _ ∷ said) = jobs_of said
jobs_of (line.Job job ∷ said) = job ∷ jobs_of said

-- the bytes in a job's buffer
abbrev pub buffer_len : Job → ℕ
buffer_len job = length (buf_lent job.kind)

abbrev pub has_number : ℕ → List Seed → Bool
has_number number files = list_any (λ (s : Seed). s.number == number) files

-- no number comes twice
abbrev pub numbers_differ : List Seed → Bool
numbers_differ [] = true
numbers_differ (seed ∷ seeds) = not (has_number seed.number seeds) && numbers_differ seeds

abbrev pub is_within_limits : Told → Bool
is_within_limits told =
    nat_le (length told.files) MAX_FILES && numbers_differ told.files
    && nat_le (length told.jobs) MAX_JOBS && nat_le (sum_by buffer_len told.jobs) MAX_JOB_BYTES

-- what these lines tell, if they are a script
unfoldable pub script_of : List (List ℕ) → Option Told
script_of lines = do
  said ← lines_say lines
  let told : Told = record { files = files_of said; choices = choices_of said; jobs = jobs_of said } in
      if is_within_limits told then Some told else None

-- these lines are no script, and this is the least number of first lines that are none
pub record IsFaultLine (lines : List (List ℕ)) (n : ℕ) : Type 0 where
  pub none : script_of lines ≡ None
  pub faulty : script_of (take n lines) ≡ None
  pub first : (k : ℕ) → k < n → IsSome (script_of (take k lines))

-- ---- what the reader answers

abbrev pub told_of : Vec Seed Global → Vec ℕ Global → Vec Job Global → Told
told_of files choices jobs = record { files = files.items; choices = choices.items; jobs = jobs.items }

abbrev pub told_by : Script → Told
told_by script = told_of script.files script.choices script.jobs

abbrev pub Refuses : List (List ℕ) → ScriptFault → Type 0
Refuses lines (fault.Line n) = IsFaultLine lines n
Refuses lines fault.NoMemory = Unit {0}
