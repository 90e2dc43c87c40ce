-- For each operation what its builder begins with, and the words of its entry: those that aren't 0, in the order of the layout.
use Rattle.std.specs.Prelude.{ℕ, ⊤, ◌+◌, ◌<◌, ◌^◌, pos, bit_or, false, if◌then◌else◌, None}
use Rattle.std.specs.Option.{unwrap_or}
use Rattle.uring_base.specs.declared.opcodes.TheConstants as opcodes
use Rattle.uring_base.specs.declared.squeue.Entry.{Entry}
use Rattle.uring_base.specs.declared.types.Fd.{Fd}
use Rattle.uring_base.specs.declared.types.Target.{Target}
use Rattle.uring_base.specs.declared.types.Target.TheVariants.{Fd as raw, Fixed as registered}
use Rattle.uring_base.specs.Words.{blank, no_fd, bits_of, long_bits_of}
use Rattle.uring_base.specs.Targets.{on}
use Rattle.uring_base.specs.FlagBits.{fsync_bits, no_fsync_flags}
use Rattle.uring_types.specs.FlagBits.{timeout_bits, no_timeout_flags}
use Rattle.uring_ops_file.specs.declared.cancels.AsyncCancel.{AsyncCancel}
use Rattle.uring_ops_file.specs.declared.marks.TheConstants.{POLL_ADD_MULTI, TIMEOUT_UPDATE}
use Rattle.uring_ops_file.specs.declared.nop.Nop.{Nop}
use Rattle.uring_ops_file.specs.declared.opens.Close.{Close}
use Rattle.uring_ops_file.specs.declared.opens.OpenAt.{OpenAt}
use Rattle.uring_ops_file.specs.declared.polls.PollAdd.{PollAdd}
use Rattle.uring_ops_file.specs.declared.polls.PollRemove.{PollRemove}
use Rattle.uring_ops_file.specs.declared.reads.Read.{Read}
use Rattle.uring_ops_file.specs.declared.reads.ReadFixed.{ReadFixed}
use Rattle.uring_ops_file.specs.declared.reads.Readv.{Readv}
use Rattle.uring_ops_file.specs.declared.sizes.Fallocate.{Fallocate}
use Rattle.uring_ops_file.specs.declared.sizes.Ftruncate.{Ftruncate}
use Rattle.uring_ops_file.specs.declared.stats.Statx.{Statx}
use Rattle.uring_ops_file.specs.declared.syncs.Fsync.{Fsync}
use Rattle.uring_ops_file.specs.declared.syncs.SyncFileRange.{SyncFileRange}
use Rattle.uring_ops_file.specs.declared.tables.FilesUpdate.{FilesUpdate}
use Rattle.uring_ops_file.specs.declared.timeouts.LinkTimeout.{LinkTimeout}
use Rattle.uring_ops_file.specs.declared.timeouts.Timeout.{Timeout}
use Rattle.uring_ops_file.specs.declared.timeouts.TimeoutRemove.{TimeoutRemove}
use Rattle.uring_ops_file.specs.declared.timeouts.TimeoutUpdate.{TimeoutUpdate}
use Rattle.uring_ops_file.specs.declared.writes.Write.{Write}
use Rattle.uring_ops_file.specs.declared.writes.WriteFixed.{WriteFixed}
use Rattle.uring_ops_file.specs.declared.writes.Writev.{Writev}

abbrev pub new_nop : Nop
new_nop = record {}

abbrev pub nop_words : Nop → Entry
nop_words nop = record (blank opcodes.NOP) { fd = no_fd }

abbrev pub new_readv : Target → ℕ → ℕ → Readv
new_readv fd iovec len = record { fd = fd; iovec = iovec; len = len; ioprio = 0; offset = 0; rw_flags = pos 0; buf_group = 0 }

abbrev pub readv_words : Readv → Entry
readv_words read = on read.fd (record (blank opcodes.READV) { prio = read.ioprio; off = read.offset; addr = read.iovec; len = read.len; op = bits_of read.rw_flags; buf = read.buf_group })

abbrev pub new_writev : Target → ℕ → ℕ → Writev
new_writev fd iovec len = record { fd = fd; iovec = iovec; len = len; ioprio = 0; offset = 0; rw_flags = pos 0; write_stream = 0 }

abbrev pub writev_words : Writev → Entry
writev_words write = on write.fd (record (blank opcodes.WRITEV) { prio = write.ioprio; off = write.offset; addr = write.iovec; len = write.len; op = bits_of write.rw_flags; idx = write.write_stream })

abbrev pub new_fsync : Target → Fsync
new_fsync fd = record { fd = fd; offset = 0; len = 0; flags = no_fsync_flags }

abbrev pub fsync_words : Fsync → Entry
fsync_words sync = on sync.fd (record (blank opcodes.FSYNC) { off = sync.offset; len = sync.len; op = fsync_bits sync.flags })

abbrev pub new_read_fixed : Target → ℕ → ℕ → ℕ → ReadFixed
new_read_fixed fd buf len buf_index = record { fd = fd; buf = buf; len = len; buf_index = buf_index; ioprio = 0; offset = 0; rw_flags = pos 0 }

abbrev pub read_fixed_words : ReadFixed → Entry
read_fixed_words read = on read.fd (record (blank opcodes.READ_FIXED) { prio = read.ioprio; off = read.offset; addr = read.buf; len = read.len; op = bits_of read.rw_flags; buf = read.buf_index })

abbrev pub new_write_fixed : Target → ℕ → ℕ → ℕ → WriteFixed
new_write_fixed fd buf len buf_index = record { fd = fd; buf = buf; len = len; buf_index = buf_index; ioprio = 0; offset = 0; rw_flags = pos 0; write_stream = 0 }

abbrev pub write_fixed_words : WriteFixed → Entry
write_fixed_words write = on write.fd (record (blank opcodes.WRITE_FIXED) { prio = write.ioprio; off = write.offset; addr = write.buf; len = write.len; op = bits_of write.rw_flags; buf = write.buf_index; idx = write.write_stream })

abbrev pub new_poll_add : Target → ℕ → PollAdd
new_poll_add fd flags = record { fd = fd; flags = flags; multi = false }

abbrev pub poll_add_words : PollAdd → Entry
poll_add_words poll = on poll.fd (record (blank opcodes.POLL_ADD) { len = if poll.multi then POLL_ADD_MULTI else 0; op = poll.flags })

abbrev pub new_poll_remove : ℕ → PollRemove
new_poll_remove user_data = record { user_data = user_data }

abbrev pub poll_remove_words : PollRemove → Entry
poll_remove_words removal = record (blank opcodes.POLL_REMOVE) { fd = no_fd; addr = removal.user_data }

abbrev pub new_sync_file_range : Target → ℕ → SyncFileRange
new_sync_file_range fd len = record { fd = fd; len = len; offset = 0; flags = 0 }

abbrev pub sync_file_range_words : SyncFileRange → Entry
sync_file_range_words sync = on sync.fd (record (blank opcodes.SYNC_FILE_RANGE) { off = sync.offset; len = sync.len; op = sync.flags })

abbrev pub new_timeout : ℕ → Timeout
new_timeout timespec = record { timespec = timespec; count = 0; flags = no_timeout_flags }

abbrev pub timeout_words : Timeout → Entry
timeout_words timeout = record (blank opcodes.TIMEOUT) { fd = no_fd; off = timeout.count; addr = timeout.timespec; len = 1; op = timeout_bits timeout.flags }

abbrev pub new_timeout_remove : ℕ → TimeoutRemove
new_timeout_remove user_data = record { user_data = user_data }

abbrev pub timeout_remove_words : TimeoutRemove → Entry
timeout_remove_words removal = record (blank opcodes.TIMEOUT_REMOVE) { fd = no_fd; addr = removal.user_data }

abbrev pub new_timeout_update : ℕ → ℕ → TimeoutUpdate
new_timeout_update user_data timespec = record { user_data = user_data; timespec = timespec; flags = no_timeout_flags }

abbrev pub timeout_update_words : TimeoutUpdate → Entry
timeout_update_words update = record (blank opcodes.TIMEOUT_REMOVE) { fd = no_fd; off = update.timespec; addr = update.user_data; op = bit_or (timeout_bits update.flags) TIMEOUT_UPDATE }

abbrev pub new_async_cancel : ℕ → AsyncCancel
new_async_cancel user_data = record { user_data = user_data }

abbrev pub async_cancel_words : AsyncCancel → Entry
async_cancel_words cancel = record (blank opcodes.ASYNC_CANCEL) { fd = no_fd; addr = cancel.user_data }

abbrev pub new_link_timeout : ℕ → LinkTimeout
new_link_timeout timespec = record { timespec = timespec; flags = no_timeout_flags }

abbrev pub link_timeout_words : LinkTimeout → Entry
link_timeout_words timeout = record (blank opcodes.LINK_TIMEOUT) { fd = no_fd; addr = timeout.timespec; len = 1; op = timeout_bits timeout.flags }

abbrev pub new_fallocate : Target → ℕ → Fallocate
new_fallocate fd len = record { fd = fd; len = len; offset = 0; mode = pos 0 }

abbrev pub fallocate_words : Fallocate → Entry
fallocate_words range = on range.fd (record (blank opcodes.FALLOCATE) { off = range.offset; addr = range.len; len = bits_of range.mode })

abbrev pub new_open_at : Fd → ℕ → OpenAt
new_open_at dirfd pathname = record { dirfd = dirfd; pathname = pathname; file_index = None; flags = pos 0; mode = 0 }

abbrev pub open_at_words : OpenAt → Entry
open_at_words file = record (blank opcodes.OPENAT) { fd = file.dirfd.0; addr = file.pathname; len = file.mode; op = bits_of file.flags; idx = unwrap_or file.file_index 0 }

-- each target but the greatest index, whose successor has no place in a word
abbrev pub CanClose : Target → Type 0
CanClose (raw n) = ⊤
CanClose (registered i) = i + 1 < 2 ^ 32

-- a raw descriptor as it is; a registered file by its index plus 1, in the word of that name and without the mark FIXED_FILE
abbrev pub new_close : Target → Close
new_close (raw n) = record { fd = n; idx = 0 }
new_close (registered i) = record { fd = pos 0; idx = i + 1 }

abbrev pub close_words : Close → Entry
close_words close = record (blank opcodes.CLOSE) { fd = close.fd; idx = close.idx }

abbrev pub new_files_update : ℕ → ℕ → FilesUpdate
new_files_update fds len = record { fds = fds; len = len; offset = pos 0 }

abbrev pub files_update_words : FilesUpdate → Entry
files_update_words update = record (blank opcodes.FILES_UPDATE) { fd = no_fd; off = long_bits_of update.offset; addr = update.fds; len = update.len }

abbrev pub new_statx : Fd → ℕ → ℕ → Statx
new_statx dirfd pathname statxbuf = record { dirfd = dirfd; pathname = pathname; statxbuf = statxbuf; flags = pos 0; mask = 0 }

abbrev pub statx_words : Statx → Entry
statx_words stat = record (blank opcodes.STATX) { fd = stat.dirfd.0; off = stat.statxbuf; addr = stat.pathname; len = stat.mask; op = bits_of stat.flags }

abbrev pub new_read : Target → ℕ → ℕ → Read
new_read fd buf len = record { fd = fd; buf = buf; len = len; offset = 0; ioprio = 0; rw_flags = pos 0; buf_group = 0 }

abbrev pub read_words : Read → Entry
read_words read = on read.fd (record (blank opcodes.READ) { prio = read.ioprio; off = read.offset; addr = read.buf; len = read.len; op = bits_of read.rw_flags; buf = read.buf_group })

abbrev pub new_write : Target → ℕ → ℕ → Write
new_write fd buf len = record { fd = fd; buf = buf; len = len; offset = 0; ioprio = 0; rw_flags = pos 0; write_stream = 0 }

abbrev pub write_words : Write → Entry
write_words write = on write.fd (record (blank opcodes.WRITE) { prio = write.ioprio; off = write.offset; addr = write.buf; len = write.len; op = bits_of write.rw_flags; idx = write.write_stream })

abbrev pub new_ftruncate : Target → ℕ → Ftruncate
new_ftruncate fd len = record { fd = fd; len = len }

abbrev pub ftruncate_words : Ftruncate → Entry
ftruncate_words truncate = on truncate.fd (record (blank opcodes.FTRUNCATE) { off = truncate.len })
