-- What an entry asks: its operation, buffer, drain and link, as a job.
use Rattle.std.specs.Prelude.{◌≡◌, ℕ, Bool, true, false, ◌&&◌, cond, nat_lt, nat_eq, length, Option, Some, None, is_none}
use Rattle.std.specs.Int.{w32, cast_unsigned}
use Rattle.uring_base.specs.declared.squeue.Entry.{Entry}
use Rattle.uring_base.specs.declared.buffer.Loan.{Loan}
use Rattle.uring_base.specs.declared.events.Taken.{Taken}
use Rattle.uring_base.specs.FlagBits.{has_flags}
use Rattle.uring_base.specs.Errnos.{error_result}
use Rattle.uring_base.specs.declared.errno.TheConstants.{EINVAL, EOPNOTSUPP}
use Rattle.uring_base.specs.declared.flags.TheConstants.Flags.{IO_DRAIN, IO_LINK, IO_HARDLINK, BUFFER_SELECT, SKIP_SUCCESS}
use Rattle.uring_base.specs.declared.limits.TheConstants.{MAX_BUFFER}
use Rattle.uring_base.specs.declared.opcodes.TheConstants as opcodes
use Rattle.uring_base.specs.Loans.{part_of}
use Rattle.uring_model.specs.declared.jobs.Link.{Link}
use Rattle.uring_model.specs.declared.jobs.Link.TheVariants.{Free, Soft, Hard}
use Rattle.uring_model.specs.Machine.{ModelOp, Nop, Read, Write, Fsync, Ftruncate, Cancel, Refused}
use Rattle.uring_model.specs.Jobs.{Job}

-- a read or write without a loan, or with a part whose length is no result, is refused
abbrev pub unless_lacking : Option Loan → ModelOp → ModelOp
unless_lacking None op = Refused (error_result EINVAL)
unless_lacking (Some l) op = cond (nat_lt MAX_BUFFER (length (part_of (Some l)))) (Refused (error_result EINVAL)) op

-- a file's number is the 32 bits of the descriptor word
abbrev pub file_of : Entry → ℕ
file_of e = cast_unsigned w32 e.fd

-- The operation of an entry. Buffer selection isn't served; a cancel is served by number alone.
abbrev pub op_of : Taken → ModelOp
op_of t =
    cond (has_flags t.entry.flags BUFFER_SELECT) (Refused (error_result EOPNOTSUPP))
    (cond (nat_eq t.entry.opcode opcodes.NOP) Nop
    (cond (nat_eq t.entry.opcode opcodes.READ) (unless_lacking t.loan (Read (file_of t.entry) t.entry.off))
    (cond (nat_eq t.entry.opcode opcodes.WRITE) (unless_lacking t.loan (Write (file_of t.entry) t.entry.off))
    (cond (nat_eq t.entry.opcode opcodes.FSYNC) (Fsync (file_of t.entry))
    (cond (nat_eq t.entry.opcode opcodes.FTRUNCATE) (Ftruncate (file_of t.entry) t.entry.off)
    (cond (nat_eq t.entry.opcode opcodes.ASYNC_CANCEL && nat_eq t.entry.op 0) (Cancel t.entry.addr)
    (Refused (error_result EOPNOTSUPP))))))))

-- the link that the flags say; an entry with both link bits is read as soft
abbrev pub link_of : ℕ → Link
link_of flags = cond (has_flags flags IO_LINK) Soft (cond (has_flags flags IO_HARDLINK) Hard Free)

-- The job that an entry asks; its buffer is the lent part of the loan. Without a loan it is quiet where SKIP_SUCCESS says so.
abbrev pub job_of : Taken → Job
job_of t = record { op = op_of t; buf = part_of t.loan; drain = has_flags t.entry.flags IO_DRAIN; quiet = has_flags t.entry.flags SKIP_SUCCESS && is_none t.loan; link = link_of t.entry.flags }

-- whether this is one of the six operations that jobs ask
abbrev pub is_job_operation : ModelOp → Bool
is_job_operation Nop = true
is_job_operation (Read file offset) = true
is_job_operation (Write file offset) = true
is_job_operation (Fsync file) = true
is_job_operation (Ftruncate file len) = true
is_job_operation (Cancel job) = true
is_job_operation (Refused answer) = false

-- the entry asks what a job may ask
abbrev pub IsJobEntry : Taken → Type 0
IsJobEntry t = is_job_operation (op_of t) ≡ true
