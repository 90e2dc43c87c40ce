-- The entries of the jobs ask what the jobs ask, carry their numbers, and lend their buffers.
use Rattle.std.proofs.Common.{◌≡◌, ℕ, ◌+◌, ◌<◌, ◌≤◌, ◌^◌, suc, Bool, true, false, ◌&&◌, not, cond, nat_eq, nat_lt, List, [], ◌∷◌, length, map, Option, Some, None, is_some, is_none, refl, ap, ◌∙◌, arith}
use Rattle.std.specs.Prelude.{bit_or, if◌then◌else◌}
use Rattle.std.specs.Int.{w32, cast_signed, cast_unsigned}
use Rattle.uring_base.specs.FlagBits.{bits_in, has_flags}
use Rattle.uring_base.specs.declared.flags.TheConstants.Flags.{IO_DRAIN, IO_LINK, IO_HARDLINK, BUFFER_SELECT, SKIP_SUCCESS}
use Rattle.uring_base.specs.declared.squeue.Entry.{Entry}
use Rattle.std.specs.List.{AllByRecursion}
use Rattle.std.proofs.lemmas.Bool.Decides.{nat_tests}
use Rattle.std.proofs.lemmas.Int.{of_z-to_z}
use Rattle.uring_base.specs.declared.buffer.Loan.{Loan}
use Rattle.uring_base.specs.declared.events.Taken.{Taken}
use Rattle.uring_base.specs.declared.errno.TheConstants.{EINVAL}
use Rattle.uring_base.specs.declared.limits.TheConstants.{MAX_BUFFER}
use Rattle.uring_base.specs.Errnos.{error_result}
use Rattle.uring_model.specs.declared.jobs.Job.{Job}
use Rattle.uring_model.specs.declared.jobs.JobKind.{JobKind}
use Rattle.uring_model.specs.declared.jobs.JobKind.TheVariants.{Nop, Read, Write, Fsync, Ftruncate, Cancel}
use Rattle.uring_model.specs.declared.jobs.Link.{Link}
use Rattle.uring_model.specs.declared.jobs.Link.TheVariants.{Free, Soft, Hard}
use Rattle.uring_model.specs.Machine as machine
use Rattle.uring_model.specs.Jobs as model
use Rattle.uring_model.specs.Jobs.{model_job, model_jobs, buf_lent, model_op, moves_bytes, is_valid_job}
use Rattle.uring_model.specs.Replay.{last_unlinked}
use Rattle.uring_model.specs.Partner.{job_of, link_of, unless_lacking}
use Rattle.uring_model.specs.Asks.{is_job_operation, IsJobEntry}
use Rattle.uring_model.specs.Explained.{Numbered}
use Rattle.uring_model.specs.Strange.{has_other_number}
use Rattle.uring_model.specs.Honest.{HasOwnLoan}
use Rattle.ring_traits.specs.Lists.{small}
use Rattle.run_loop.specs.Entries.{job_words, with_drain, with_quiet, with_link, job_loan, offer_of, offers_from, all_taken, reply_in, AllValid, IsInRange, AllInRange}
use Rattle.run_loop.specs.Told.{reply_for, lends}
use Rattle.run_loop.specs.declared.slot.Reply.{Reply}
use Rattle.run_loop.specs.declared.slot.Reply.TheVariants.{Plain, Buffer, Success}
use Rattle.run_loop.proofs.EntryLemmas.{valid_fits, valid_silent}

-- what an entry of a file asks

file_kept : (file : ℕ) → file < 2 ^ 32 → cast_unsigned w32 (cast_signed w32 file) ≡ file
file_kept file h = of_z-to_z w32 file h

short_enough : (n : ℕ) → n ≤ MAX_BUFFER → nat_lt MAX_BUFFER n ≡ false
short_enough n h = grind (arith, nat_tests)

lent_op : (j : ℕ) (buf : List ℕ) (op : machine.ModelOp) → length buf ≤ MAX_BUFFER → unless_lacking (Some (record { number = j; from = 0; buf = buf })) op ≡ op
lent_op j buf op h = ap (λ b. cond b (machine.Refused (error_result EINVAL)) op) (short_enough (length buf) h)

abbrev job_with : machine.ModelOp → List ℕ → Bool → Bool → Link → model.Job
job_with op buf drain quiet link = record { op = op; buf = buf; drain = drain; quiet = quiet; link = link }

-- the flags of an entry with its marks

abbrev drain_bits : Bool → ℕ → ℕ
drain_bits drain flags = if drain then bit_or flags (bits_in IO_DRAIN) else flags

abbrev quiet_bits : Bool → ℕ → ℕ
quiet_bits quiet flags = if quiet then bit_or flags (bits_in SKIP_SUCCESS) else flags

abbrev link_bits : Link → ℕ → ℕ
link_bits Free flags = flags
link_bits Soft flags = bit_or flags (bits_in IO_LINK)
link_bits Hard flags = bit_or flags (bits_in IO_HARDLINK)

abbrev marked_flags : Bool → Bool → Link → ℕ → ℕ
marked_flags drain quiet link flags = link_bits link (quiet_bits quiet (drain_bits drain flags))

with_marks : (e : Entry) (drain quiet : Bool) (link : Link) → with_link link (with_quiet quiet (with_drain drain e)) ≡ record e { flags = marked_flags drain quiet link e.flags }
with_marks e true true Free = refl
with_marks e true true Soft = refl
with_marks e true true Hard = refl
with_marks e true false Free = refl
with_marks e true false Soft = refl
with_marks e true false Hard = refl
with_marks e false true Free = refl
with_marks e false true Soft = refl
with_marks e false true Hard = refl
with_marks e false false Free = refl
with_marks e false false Soft = refl
with_marks e false false Hard = refl

-- they say the marks, and nothing else that is asked
record Said (flags : ℕ) (drain quiet : Bool) (link : Link) : Type 0 where
  select : has_flags flags BUFFER_SELECT ≡ false
  drains : has_flags flags IO_DRAIN ≡ drain
  skips : has_flags flags SKIP_SUCCESS ≡ quiet
  links : link_of flags ≡ link

said_plain : (drain quiet : Bool) (link : Link) → Said (marked_flags drain quiet link 0) drain quiet link
said_plain true true Free = record { select = refl; drains = refl; skips = refl; links = refl }
said_plain true true Soft = record { select = refl; drains = refl; skips = refl; links = refl }
said_plain true true Hard = record { select = refl; drains = refl; skips = refl; links = refl }
said_plain true false Free = record { select = refl; drains = refl; skips = refl; links = refl }
said_plain true false Soft = record { select = refl; drains = refl; skips = refl; links = refl }
said_plain true false Hard = record { select = refl; drains = refl; skips = refl; links = refl }
said_plain false true Free = record { select = refl; drains = refl; skips = refl; links = refl }
said_plain false true Soft = record { select = refl; drains = refl; skips = refl; links = refl }
said_plain false true Hard = record { select = refl; drains = refl; skips = refl; links = refl }
said_plain false false Free = record { select = refl; drains = refl; skips = refl; links = refl }
said_plain false false Soft = record { select = refl; drains = refl; skips = refl; links = refl }
said_plain false false Hard = record { select = refl; drains = refl; skips = refl; links = refl }

said_fixed : (drain quiet : Bool) (link : Link) → Said (marked_flags drain quiet link 1) drain quiet link
said_fixed true true Free = record { select = refl; drains = refl; skips = refl; links = refl }
said_fixed true true Soft = record { select = refl; drains = refl; skips = refl; links = refl }
said_fixed true true Hard = record { select = refl; drains = refl; skips = refl; links = refl }
said_fixed true false Free = record { select = refl; drains = refl; skips = refl; links = refl }
said_fixed true false Soft = record { select = refl; drains = refl; skips = refl; links = refl }
said_fixed true false Hard = record { select = refl; drains = refl; skips = refl; links = refl }
said_fixed false true Free = record { select = refl; drains = refl; skips = refl; links = refl }
said_fixed false true Soft = record { select = refl; drains = refl; skips = refl; links = refl }
said_fixed false true Hard = record { select = refl; drains = refl; skips = refl; links = refl }
said_fixed false false Free = record { select = refl; drains = refl; skips = refl; links = refl }
said_fixed false false Soft = record { select = refl; drains = refl; skips = refl; links = refl }
said_fixed false false Hard = record { select = refl; drains = refl; skips = refl; links = refl }

said : (j : ℕ) (kind : JobKind) (drain quiet : Bool) (link : Link) → Said (marked_flags drain quiet link (job_words j kind).flags) drain quiet link
said j Nop drain quiet link = said_plain drain quiet link
said j (Read file offset buf) drain quiet link = said_fixed drain quiet link
said j (Write file offset buf) drain quiet link = said_fixed drain quiet link
said j (Fsync file) drain quiet link = said_fixed drain quiet link
said j (Ftruncate file len) drain quiet link = said_fixed drain quiet link
said j (Cancel target) drain quiet link = said_plain drain quiet link

-- a quiet job lends nothing, so its entry is quiet
keeps_quiet : (quiet none : Bool) → (quiet ≡ true → none ≡ true) → (quiet && none) ≡ quiet
keeps_quiet true none h = h refl
keeps_quiet false none h = refl

abbrev LendsNone : ℕ → JobKind → Bool → Type 0
LendsNone j kind quiet = quiet ≡ true → is_none (job_loan j kind) ≡ true

kind_asked : (j : ℕ) (kind : JobKind) (flags : ℕ) (drain quiet : Bool) (link : Link) → Said flags drain quiet link → LendsNone j kind quiet → length (buf_lent kind) ≤ MAX_BUFFER → IsInRange kind
    → job_of (small (record (job_words j kind) { flags = flags; user_data = j }) (job_loan j kind)) ≡ job_with (model_op kind) (buf_lent kind) drain quiet link
kind_asked j Nop flags drain quiet link s n h r = rw (s.select, s.drains, s.skips, s.links) (ap (λ q. job_with machine.Nop [] drain q link) (keeps_quiet quiet true n))
kind_asked j (Read file offset buf) flags drain quiet link s n h r =
    rw (s.select, s.drains, s.skips, s.links) (ap (λ q. job_with (unless_lacking (Some (record { number = j; from = 0; buf = buf })) (machine.Read (cast_unsigned w32 (cast_signed w32 file)) offset)) buf drain q link) (keeps_quiet quiet false n)
    ∙ ap (λ op. job_with op buf drain quiet link) (lent_op j buf _ h ∙ ap (λ f. machine.Read f offset) (file_kept file r)))
kind_asked j (Write file offset buf) flags drain quiet link s n h r =
    rw (s.select, s.drains, s.skips, s.links) (ap (λ q. job_with (unless_lacking (Some (record { number = j; from = 0; buf = buf })) (machine.Write (cast_unsigned w32 (cast_signed w32 file)) offset)) buf drain q link) (keeps_quiet quiet false n)
    ∙ ap (λ op. job_with op buf drain quiet link) (lent_op j buf _ h ∙ ap (λ f. machine.Write f offset) (file_kept file r)))
kind_asked j (Fsync file) flags drain quiet link s n h r =
    rw (s.select, s.drains, s.skips, s.links) (ap (λ q. job_with (machine.Fsync (cast_unsigned w32 (cast_signed w32 file))) [] drain q link) (keeps_quiet quiet true n) ∙ ap (λ f. job_with (machine.Fsync f) [] drain quiet link) (file_kept file r))
kind_asked j (Ftruncate file len) flags drain quiet link s n h r =
    rw (s.select, s.drains, s.skips, s.links) (ap (λ q. job_with (machine.Ftruncate (cast_unsigned w32 (cast_signed w32 file)) len) [] drain q link) (keeps_quiet quiet true n) ∙ ap (λ f. job_with (machine.Ftruncate f len) [] drain quiet link) (file_kept file r))
kind_asked j (Cancel target) flags drain quiet link s n h r = rw (s.select, s.drains, s.skips, s.links) (ap (λ q. job_with (machine.Cancel target) [] drain q link) (keeps_quiet quiet true n))

-- an entry asks its job, whatever its marks
asks_marked : (j : ℕ) (kind : JobKind) (drain quiet : Bool) (link : Link) → LendsNone j kind quiet → length (buf_lent kind) ≤ MAX_BUFFER → IsInRange kind
    → job_of (small (record (with_link link (with_quiet quiet (with_drain drain (job_words j kind)))) { user_data = j }) (job_loan j kind)) ≡ job_with (model_op kind) (buf_lent kind) drain quiet link
asks_marked j kind drain quiet link n h r =
    ap (λ e. job_of (small (record e { user_data = j }) (job_loan j kind))) (with_marks (job_words j kind) drain quiet link)
    ∙ kind_asked j kind (marked_flags drain quiet link (job_words j kind).flags) drain quiet link (said j kind drain quiet link) n h r

no_loan : (j : ℕ) (kind : JobKind) → moves_bytes (model_op kind) ≡ false → is_none (job_loan j kind) ≡ true
no_loan j Nop e = refl
no_loan j (Read file offset buf) e = cc
no_loan j (Write file offset buf) e = cc
no_loan j (Fsync file) e = refl
no_loan j (Ftruncate file len) e = refl
no_loan j (Cancel target) e = refl

lends_none : (j : ℕ) (last : Bool) (job : Job) → is_valid_job last (model_job job) ≡ true → LendsNone j job.kind job.quiet
lends_none j last job v = λ q. no_loan j job.kind (valid_silent last job v q)

asks_one : (j : ℕ) (last : Bool) (job : Job) (link : Link) → is_valid_job last (model_job job) ≡ true → IsInRange job.kind → job_of (small (offer_of j (record job { link = link })).entry (offer_of j job).loan) ≡ record (model_job job) { link = link }
asks_one j last job link v r = asks_marked j job.kind job.drain job.quiet link (lends_none j last job v) (valid_fits last job v) r

pub asks_all : (n : ℕ) (jobs : List Job) → AllValid jobs → AllInRange jobs → (large : Bool) → map job_of (all_taken (offers_from n jobs) large) ≡ last_unlinked (model_jobs jobs)
asks_all n [] v r large = refl
asks_all n (job ∷ []) v r large = ap (λ x. x ∷ []) (asks_one n (true) job Free v.0 r.0)
asks_all n (job ∷ next ∷ jobs) v r large = λ i. asks_one n (nat_eq (length (next ∷ jobs)) 0) job job.link v.0 r.0 i ∷ asks_all (n + 1) (next ∷ jobs) v.1 r.1 large i

six_kind : (kind : JobKind) → is_job_operation (model_op kind) ≡ true
six_kind Nop = refl
six_kind (Read file offset buf) = refl
six_kind (Write file offset buf) = refl
six_kind (Fsync file) = refl
six_kind (Ftruncate file len) = refl
six_kind (Cancel target) = refl

pub six_all : (n : ℕ) (jobs : List Job) → AllValid jobs → AllInRange jobs → (large : Bool) → AllByRecursion IsJobEntry (all_taken (offers_from n jobs) large)
six_all n [] v r large = tt
six_all n (job ∷ []) v r large = (ap (λ x. is_job_operation x.op) (asks_one n (true) job Free v.0 r.0) ∙ six_kind job.kind, tt)
six_all n (job ∷ next ∷ jobs) v r large = (ap (λ x. is_job_operation x.op) (asks_one n (nat_eq (length (next ∷ jobs)) 0) job job.link v.0 r.0) ∙ six_kind job.kind, six_all (n + 1) (next ∷ jobs) v.1 r.1 large)

pub numbered_all : (n : ℕ) (jobs : List Job) (large : Bool) → Numbered n (all_taken (offers_from n jobs) large)
numbered_all n [] large = tt
numbered_all n (job ∷ []) large = (refl, tt)
numbered_all n (job ∷ next ∷ jobs) large = (refl, numbered_all (n + 1) (next ∷ jobs) large)

-- the loans

no_other_number : (j : ℕ) → not (nat_eq j j) ≡ false
no_other_number j = grind (arith, nat_tests)

own_number : (j : ℕ) (kind : JobKind) → has_other_number j (job_loan j kind) ≡ false
own_number j Nop = refl
own_number j (Read file offset buf) = no_other_number j
own_number j (Write file offset buf) = no_other_number j
own_number j (Fsync file) = refl
own_number j (Ftruncate file len) = refl
own_number j (Cancel target) = refl

-- what the outcomes of jobs that are numbered from n on tell
abbrev pub Replies : (ℕ → Reply) → ℕ → List Job → Type 0
Replies replies n jobs = (k : ℕ) → replies (n + k) ≡ reply_in (offers_from n jobs) k

pub replies_next : (replies : ℕ → Reply) (n : ℕ) (job next : Job) (jobs : List Job) → Replies replies n (job ∷ next ∷ jobs) → Replies replies (n + 1) (next ∷ jobs)
replies_next replies n job next jobs f = λ k. ap replies (omega arith) ∙ f (suc k)

pub replies_here : (replies : ℕ → Reply) (n : ℕ) (reply : Reply) → replies (n + 0) ≡ reply → replies n ≡ reply
replies_here replies n reply e = ap replies (omega arith) ∙ e

pub replies_first : (jobs : List Job) → Replies (reply_in (offers_from 0 jobs)) 0 jobs
replies_first jobs = λ k. ap (reply_in (offers_from 0 jobs)) (omega arith)

lends_given : (n : ℕ) (kind : JobKind) → lends (reply_for kind) ≡ is_some (job_loan n kind)
lends_given n Nop = refl
lends_given n (Read file offset buf) = refl
lends_given n (Write file offset buf) = refl
lends_given n (Fsync file) = refl
lends_given n (Ftruncate file len) = refl
lends_given n (Cancel job) = refl

pub own_all : (replies : ℕ → Reply) (lent : ℕ → Bool) → ((j : ℕ) → lent j ≡ lends (replies j)) → (n : ℕ) (jobs : List Job) → Replies replies n jobs → (large : Bool) → AllByRecursion (HasOwnLoan lent) (all_taken (offers_from n jobs) large)
own_all replies lent e n [] f large = tt
own_all replies lent e n (job ∷ []) f large = (record { lent = e n ∙ ap lends (replies_here replies n _ (f 0)) ∙ lends_given n job.kind; number = own_number n job.kind }, tt)
own_all replies lent e n (job ∷ next ∷ jobs) f large = (
  record { lent = e n ∙ ap lends (replies_here replies n _ (f 0)) ∙ lends_given n job.kind; number = own_number n job.kind },
  own_all replies lent e (n + 1) (next ∷ jobs) (replies_next replies n job next jobs f) large,
)

-- An entry lends what its job's outcome gives back, from the first byte on, and asks for a sync where the outcome tells no
-- more than that it went well.

abbrev pub is_lent : Reply → Option Loan → Bool
is_lent reply None = not (lends reply)
is_lent reply (Some l) = lends reply && nat_eq l.from 0

abbrev pub is_sync : machine.ModelOp → Bool
is_sync (machine.Fsync file) = true
is_sync machine.Nop = false
is_sync (machine.Read file offset) = false
is_sync (machine.Write file offset) = false
is_sync (machine.Ftruncate file len) = false
is_sync (machine.Cancel job) = false
is_sync (machine.Refused code) = false

abbrev pub is_asked : Reply → machine.ModelOp → Bool
is_asked Plain op = true
is_asked Buffer op = true
is_asked Success op = is_sync op

abbrev pub asks : (ℕ → Reply) → Taken → Bool
asks replies t = is_lent (replies t.entry.user_data) t.loan && is_asked (replies t.entry.user_data) (job_of t).op

asks_kind : (n : ℕ) (kind : JobKind) → (is_lent (reply_for kind) (job_loan n kind) && is_asked (reply_for kind) (model_op kind)) ≡ true
asks_kind n Nop = refl
asks_kind n (Read file offset buf) = refl
asks_kind n (Write file offset buf) = refl
asks_kind n (Fsync file) = refl
asks_kind n (Ftruncate file len) = refl
asks_kind n (Cancel job) = refl

asks_entry : (n : ℕ) (kind : JobKind) (reply : Reply) (op : machine.ModelOp) → reply ≡ reply_for kind → op ≡ model_op kind → (is_lent reply (job_loan n kind) && is_asked reply op) ≡ true
asks_entry n kind reply op e f = (λ i. is_lent (e i) (job_loan n kind) && is_asked (e i) (f i)) ∙ asks_kind n kind

pub asks_list : (replies : ℕ → Reply) (n : ℕ) (jobs : List Job) → Replies replies n jobs → AllValid jobs → AllInRange jobs → (large : Bool) → AllByRecursion (λ t. asks replies t ≡ true) (all_taken (offers_from n jobs) large)
asks_list replies n [] f v r large = tt
asks_list replies n (job ∷ []) f v r large = (asks_entry n job.kind _ _ (replies_here replies n _ (f 0)) (ap (λ j. j.op) (asks_one n true job Free v.0 r.0)), tt)
asks_list replies n (job ∷ next ∷ jobs) f v r large = (
  asks_entry n job.kind _ _ (replies_here replies n _ (f 0)) (ap (λ j. j.op) (asks_one n (nat_eq (length (next ∷ jobs)) 0) job job.link v.0 r.0)),
  asks_list replies (n + 1) (next ∷ jobs) (replies_next replies n job next jobs f) v.1 r.1 large,
)
