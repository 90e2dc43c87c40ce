-- Jobs from a number. Each line is short enough to be checked by a calculator.
use Rattle.std.specs.Prelude.{ℕ, zero, suc, ◌+◌, ◌*◌, ◌/◌, ◌%◌, ◌^◌, nat_eq, false, if◌then◌else◌, List, [], ◌∷◌, replicate}
use Rattle.uring_model.specs.declared.jobs.Link.{Link}
use Rattle.uring_model.specs.declared.jobs.Link.TheVariants.{Free, Soft, Hard}
use Rattle.uring_model.specs.declared.jobs.Job.{Job}
use Rattle.uring_model.specs.declared.jobs.JobKind.{JobKind}
use Rattle.uring_model.specs.declared.jobs.JobKind.TheVariants.{Nop, Read, Write, Fsync, Ftruncate, Cancel}

-- the first number, and the one behind x
abbrev pub first : ℕ
first = 1

abbrev pub next : ℕ → ℕ
next x = (1664525 * x + 1013904223) % 2 ^ 32

-- what the number x says of a job: its file, its place there, how many bytes it reads and writes, and the byte that it writes
abbrev pub file_by : ℕ → ℕ
file_by x = x / 256 % 4

abbrev pub offset_by : ℕ → ℕ
offset_by x = x % 4096

abbrev pub read_by : ℕ → List ℕ
read_by x = replicate (x / 4096 % 64) 0

abbrev pub written_by : ℕ → List ℕ
written_by x = replicate (x / 4096 % 16 + 1) (x / 16 % 256)

-- the operation of job i, where x says it by this choice of six
abbrev pub kind_by : ℕ → ℕ → ℕ → JobKind
kind_by choice i x =
    if nat_eq choice 0 then Nop
    else if nat_eq choice 1 then Read (file_by x) (offset_by x) (read_by x)
    else if nat_eq choice 2 then Write (file_by x) (offset_by x) (written_by x)
    else if nat_eq choice 3 then Fsync (file_by x)
    else if nat_eq choice 4 then Ftruncate (file_by x) (offset_by x)
    else Cancel (x % (i + 1))

-- its link, where x says it by this choice of eight
abbrev pub link_by : ℕ → Link
link_by choice = if nat_eq choice 1 then Soft else if nat_eq choice 2 then Hard else Free

-- job i, as x says it
abbrev pub job_by : ℕ → ℕ → Job
job_by i x = record { kind = kind_by (x / 65536 % 6) i x; drain = nat_eq (x / 16777216 % 16) 0; quiet = false; link = link_by (x / 1048576 % 8) }

-- so many jobs, numbered from i on, behind the number x
abbrev pub jobs_from : ℕ → ℕ → ℕ → List Job
jobs_from i x zero = []
jobs_from i x (suc count) = job_by i (next x) ∷ jobs_from (i + 1) (next x) count

-- the jobs of a number
abbrev pub generated : ℕ → List Job
generated count = jobs_from 0 first count
