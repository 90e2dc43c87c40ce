-- The entry and the loan that each job becomes.
use Rattle.std.specs.Prelude.{◌≡◌, ℕ, zero, suc, ◌+◌, ◌<◌, ◌^◌, Bool, true, if◌then◌else◌, nat_eq, List, [], ◌∷◌, length, map, bit_or, Option, Some, None}
use Rattle.uring_base.specs.FlagBits.{bits_in}
use Rattle.uring_base.specs.declared.flags.TheConstants.Flags.{IO_DRAIN, IO_LINK, IO_HARDLINK, SKIP_SUCCESS}
use Rattle.uring_base.specs.declared.squeue.Entry.{Entry}
use Rattle.uring_base.specs.declared.buffer.Loan.{Loan}
use Rattle.uring_base.specs.declared.events.Taken.{Taken}
use Rattle.uring_base.specs.declared.types.Target.TheVariants.{Fixed}
use Rattle.uring_ops_file.specs.Rows.{new_nop, nop_words, new_fsync, fsync_words, new_async_cancel, async_cancel_words, new_read, read_words, new_write, write_words, new_ftruncate, ftruncate_words}
use Rattle.uring_model.specs.declared.jobs.Link.{Link}
use Rattle.uring_model.specs.declared.jobs.Link.TheVariants.{Free, Soft, Hard}
use Rattle.uring_model.specs.declared.jobs.Job.{Job}
use Rattle.uring_model.specs.declared.jobs.JobKind.{JobKind}
use Rattle.uring_model.specs.declared.jobs.JobKind.TheVariants.{Nop, Read, Write, Fsync, Ftruncate, Cancel}
use Rattle.uring_model.specs.Jobs.{model_job, is_valid_job}
use Rattle.ring_traits.specs.Lists.{as_offered}
use Rattle.run_loop.specs.declared.entries.Offer.{Offer}
use Rattle.run_loop.specs.declared.slot.Reply.{Reply}
use Rattle.run_loop.specs.declared.slot.Reply.TheVariants.{Plain}
use Rattle.run_loop.specs.Told.{reply_for, lends}

-- the words of job j; a file is a registered one, and a read's or write's loan has the job's number
abbrev pub job_words : ℕ → JobKind → Entry
job_words j Nop = nop_words new_nop
job_words j (Read file offset buf) = read_words (record (new_read (Fixed file) j (length buf)) { offset = offset })
job_words j (Write file offset buf) = write_words (record (new_write (Fixed file) j (length buf)) { offset = offset })
job_words j (Fsync file) = fsync_words (new_fsync (Fixed file))
job_words j (Ftruncate file len) = ftruncate_words (new_ftruncate (Fixed file) len)
job_words j (Cancel job) = async_cancel_words (new_async_cancel job)

-- the flag IO_DRAIN for a drained job, SKIP_SUCCESS for a quiet one, and IO_LINK or IO_HARDLINK for a linked one
abbrev pub with_drain : Bool → Entry → Entry
with_drain drain e = if drain then record e { flags = bit_or e.flags (bits_in IO_DRAIN) } else e

abbrev pub with_quiet : Bool → Entry → Entry
with_quiet quiet e = if quiet then record e { flags = bit_or e.flags (bits_in SKIP_SUCCESS) } else e

abbrev pub with_link : Link → Entry → Entry
with_link Free e = e
with_link Soft e = record e { flags = bit_or e.flags (bits_in IO_LINK) }
with_link Hard e = record e { flags = bit_or e.flags (bits_in IO_HARDLINK) }

abbrev pub job_entry : ℕ → Job → Entry
job_entry j job = record (with_link job.link (with_quiet job.quiet (with_drain job.drain (job_words j job.kind)))) { user_data = j }

abbrev pub job_loan : ℕ → JobKind → Option Loan
job_loan j Nop = None
job_loan j (Read file offset buf) = Some (record { number = j; from = 0; buf = buf })
job_loan j (Write file offset buf) = Some (record { number = j; from = 0; buf = buf })
job_loan j (Fsync file) = None
job_loan j (Ftruncate file len) = None
job_loan j (Cancel job) = None

abbrev pub offer_of : ℕ → Job → Offer
offer_of j job = record { entry = job_entry j job; loan = job_loan j job.kind; reply = reply_for job.kind; quiet = job.quiet }

abbrev pub unlinked_if : Bool → Job → Job
unlinked_if is_last job = record job { link = if is_last then Free else job.link }

-- what jobs that are numbered from j on offer; the last job's link links nothing
abbrev pub offers_from : ℕ → List Job → List Offer
offers_from j [] = []
offers_from j (job ∷ []) = offer_of j (unlinked_if true job) ∷ []
offers_from j (job ∷ next ∷ jobs) = offer_of j job ∷ offers_from (j + 1) (next ∷ jobs)

-- the entries, as a partner takes them, by the size that the ring gives to what is offered

abbrev pub all_taken : List Offer → Bool → List Taken
all_taken offers large = map (λ o. as_offered large o.entry o.loan) offers

abbrev pub entries_from : ℕ → List Job → Bool → List Taken
entries_from j jobs large = all_taken (offers_from j jobs) large

-- what the outcome of offer j tells; whether it lends a buffer, and whether job j does

abbrev pub reply_in : List Offer → ℕ → Reply
reply_in [] j = Plain
reply_in (offer ∷ offers) zero = offer.reply
reply_in (offer ∷ offers) (suc j) = reply_in offers j

abbrev pub lends_in : List Offer → ℕ → Bool
lends_in offers j = lends (reply_in offers j)

abbrev pub lends_at : List Job → ℕ → Bool
lends_at jobs = lends_in (offers_from 0 jobs)

-- which of the offers are quiet, and which of the jobs

abbrev pub quiets_in : List Offer → List Bool
quiets_in offers = map (λ o. o.quiet) offers

abbrev pub quiets_at : List Job → List Bool
quiets_at jobs = quiets_in (offers_from 0 jobs)

-- each job is valid at its place
abbrev pub AllValid : List Job → Type 0
AllValid [] = Unit {0}
AllValid (job ∷ jobs) = (is_valid_job (nat_eq (length jobs) 0) (model_job job) ≡ true) × AllValid jobs

-- the first job that isn't valid, counted from n
abbrev pub first_bad : ℕ → List Job → Option ℕ
first_bad n [] = None
first_bad n (job ∷ jobs) = if is_valid_job (nat_eq (length jobs) 0) (model_job job) then first_bad (n + 1) jobs else Some n

-- a file's number has 32 bits
abbrev pub IsInRange : JobKind → Type 0
IsInRange Nop = Unit {0}
IsInRange (Read file offset buf) = file < 2 ^ 32
IsInRange (Write file offset buf) = file < 2 ^ 32
IsInRange (Fsync file) = file < 2 ^ 32
IsInRange (Ftruncate file len) = file < 2 ^ 32
IsInRange (Cancel job) = Unit {0}

abbrev pub AllInRange : List Job → Type 0
AllInRange [] = Unit {0}
AllInRange (job ∷ jobs) = IsInRange job.kind × AllInRange jobs
