-- For each operation what its builder begins with, and the words of its entry: those that aren't 0, in the order of the layout.
use Rattle.std.specs.Prelude.{ℕ, ℤ, pos, bit_or, unsigned_abs, None}
use Rattle.std.specs.Option.{unwrap_or}
use Rattle.uring_base.specs.declared.opcodes.TheConstants as opcodes
use Rattle.uring_base.specs.declared.squeue.Entry.{Entry}
use Rattle.uring_base.specs.declared.types.Fd.{Fd}
use Rattle.uring_base.specs.declared.types.Fixed.{Fixed}
use Rattle.uring_base.specs.declared.types.Target.{Target}
use Rattle.uring_base.specs.Words.{blank, no_fd, bits_of, long_bits_of, signed_of}
use Rattle.uring_base.specs.Targets.{on, number_of}
use Rattle.uring_base.specs.FlagBits.{bits_in}
use Rattle.uring_base.specs.declared.flags.TheConstants.Flags.{BUFFER_SELECT}
use Rattle.uring_base.specs.declared.types.Target.TheVariants.{Fixed as registered}
use Rattle.uring_types.specs.Cancel.{Cancel, target_word}
use Rattle.uring_ops_path.specs.Sources.{source_mark}
use Rattle.uring_ops_path.specs.declared.marks.TheConstants.{OPEN_HOW_SIZE}
use Rattle.uring_ops_path.specs.declared.advice.Fadvise.{Fadvise}
use Rattle.uring_ops_path.specs.declared.advice.Madvise.{Madvise}
use Rattle.uring_ops_path.specs.declared.attributes.FGetXattr.{FGetXattr}
use Rattle.uring_ops_path.specs.declared.attributes.FSetXattr.{FSetXattr}
use Rattle.uring_ops_path.specs.declared.attributes.GetXattr.{GetXattr}
use Rattle.uring_ops_path.specs.declared.attributes.SetXattr.{SetXattr}
use Rattle.uring_ops_path.specs.declared.cancels.AsyncCancel2.{AsyncCancel2}
use Rattle.uring_ops_path.specs.declared.groups.ProvideBuffers.{ProvideBuffers}
use Rattle.uring_ops_path.specs.declared.groups.RemoveBuffers.{RemoveBuffers}
use Rattle.uring_ops_path.specs.declared.installs.FixedFdInstall.{FixedFdInstall}
use Rattle.uring_ops_path.specs.declared.names.LinkAt.{LinkAt}
use Rattle.uring_ops_path.specs.declared.names.MkDirAt.{MkDirAt}
use Rattle.uring_ops_path.specs.declared.names.RenameAt.{RenameAt}
use Rattle.uring_ops_path.specs.declared.names.SymlinkAt.{SymlinkAt}
use Rattle.uring_ops_path.specs.declared.names.UnlinkAt.{UnlinkAt}
use Rattle.uring_ops_path.specs.declared.opens.OpenAt2.{OpenAt2}
use Rattle.uring_ops_path.specs.declared.pipes.Pipe.{Pipe}
use Rattle.uring_ops_path.specs.declared.pipes.Splice.{Splice}
use Rattle.uring_ops_path.specs.declared.pipes.Tee.{Tee}
use Rattle.uring_ops_path.specs.declared.reads.ReadMulti.{ReadMulti}
use Rattle.uring_ops_path.specs.declared.reads.ReadvFixed.{ReadvFixed}
use Rattle.uring_ops_path.specs.declared.waits.FutexWait.{FutexWait}
use Rattle.uring_ops_path.specs.declared.waits.FutexWaitV.{FutexWaitV}
use Rattle.uring_ops_path.specs.declared.waits.FutexWake.{FutexWake}
use Rattle.uring_ops_path.specs.declared.waits.WaitId.{WaitId}
use Rattle.uring_ops_path.specs.declared.writes.WritevFixed.{WritevFixed}

abbrev pub new_fadvise : Target → ℤ → ℤ → Fadvise
new_fadvise fd len advice = record { fd = fd; len = unsigned_abs len; advice = advice; offset = 0 }

abbrev pub fadvise_words : Fadvise → Entry
fadvise_words range = on range.fd (record (blank opcodes.FADVISE) { off = range.offset; len = range.len; op = bits_of range.advice })

abbrev pub new_madvise : ℕ → ℤ → ℤ → Madvise
new_madvise addr len advice = record { addr = addr; len = unsigned_abs len; advice = advice }

abbrev pub madvise_words : Madvise → Entry
madvise_words range = record (blank opcodes.MADVISE) { fd = no_fd; addr = range.addr; len = range.len; op = bits_of range.advice }

abbrev pub new_open_at2 : Fd → ℕ → ℕ → OpenAt2
new_open_at2 dirfd pathname how = record { dirfd = dirfd; pathname = pathname; how = how; file_index = None }

abbrev pub open_at2_words : OpenAt2 → Entry
open_at2_words file = record (blank opcodes.OPENAT2) { fd = file.dirfd.0; off = file.how; addr = file.pathname; len = OPEN_HOW_SIZE; idx = unwrap_or file.file_index 0 }

abbrev pub new_splice : Target → ℤ → Target → ℤ → ℕ → Splice
new_splice fd_in off_in fd_out off_out len = record { fd_in = fd_in; off_in = off_in; fd_out = fd_out; off_out = off_out; len = len; flags = 0 }

abbrev pub splice_words : Splice → Entry
splice_words move = on move.fd_out (record (blank opcodes.SPLICE) { off = long_bits_of move.off_out; addr = long_bits_of move.off_in; len = move.len; op = bit_or move.flags (source_mark move.fd_in); idx = number_of move.fd_in })

abbrev pub new_provide_buffers : ℕ → ℤ → ℕ → ℕ → ℕ → ProvideBuffers
new_provide_buffers addr len nbufs bgid bid = record { addr = addr; len = len; nbufs = nbufs; bgid = bgid; bid = bid }

abbrev pub provide_buffers_words : ProvideBuffers → Entry
provide_buffers_words group = record (blank opcodes.PROVIDE_BUFFERS) { fd = pos group.nbufs; off = group.bid; addr = group.addr; len = bits_of group.len; buf = group.bgid }

abbrev pub new_remove_buffers : ℕ → ℕ → RemoveBuffers
new_remove_buffers nbufs bgid = record { nbufs = nbufs; bgid = bgid }

abbrev pub remove_buffers_words : RemoveBuffers → Entry
remove_buffers_words group = record (blank opcodes.REMOVE_BUFFERS) { fd = pos group.nbufs; buf = group.bgid }

abbrev pub new_tee : Target → Target → ℕ → Tee
new_tee fd_in fd_out len = record { fd_in = fd_in; fd_out = fd_out; len = len; flags = 0 }

abbrev pub tee_words : Tee → Entry
tee_words copy = on copy.fd_out (record (blank opcodes.TEE) { len = copy.len; op = bit_or copy.flags (source_mark copy.fd_in); idx = number_of copy.fd_in })

abbrev pub new_rename_at : Fd → ℕ → Fd → ℕ → RenameAt
new_rename_at olddirfd oldpath newdirfd newpath = record { olddirfd = olddirfd; oldpath = oldpath; newdirfd = newdirfd; newpath = newpath; flags = 0 }

abbrev pub rename_at_words : RenameAt → Entry
rename_at_words rename = record (blank opcodes.RENAMEAT) { fd = rename.olddirfd.0; off = rename.newpath; addr = rename.oldpath; len = bits_of rename.newdirfd.0; op = rename.flags }

abbrev pub new_unlink_at : Fd → ℕ → UnlinkAt
new_unlink_at dirfd pathname = record { dirfd = dirfd; pathname = pathname; flags = pos 0 }

abbrev pub unlink_at_words : UnlinkAt → Entry
unlink_at_words unlink = record (blank opcodes.UNLINKAT) { fd = unlink.dirfd.0; addr = unlink.pathname; op = bits_of unlink.flags }

abbrev pub new_mk_dir_at : Fd → ℕ → MkDirAt
new_mk_dir_at dirfd pathname = record { dirfd = dirfd; pathname = pathname; mode = 0 }

abbrev pub mk_dir_at_words : MkDirAt → Entry
mk_dir_at_words directory = record (blank opcodes.MKDIRAT) { fd = directory.dirfd.0; addr = directory.pathname; len = directory.mode }

abbrev pub new_symlink_at : Fd → ℕ → ℕ → SymlinkAt
new_symlink_at newdirfd target linkpath = record { newdirfd = newdirfd; target = target; linkpath = linkpath }

abbrev pub symlink_at_words : SymlinkAt → Entry
symlink_at_words link = record (blank opcodes.SYMLINKAT) { fd = link.newdirfd.0; off = link.linkpath; addr = link.target }

abbrev pub new_link_at : Fd → ℕ → Fd → ℕ → LinkAt
new_link_at olddirfd oldpath newdirfd newpath = record { olddirfd = olddirfd; oldpath = oldpath; newdirfd = newdirfd; newpath = newpath; flags = pos 0 }

abbrev pub link_at_words : LinkAt → Entry
link_at_words link = record (blank opcodes.LINKAT) { fd = link.olddirfd.0; off = link.newpath; addr = link.oldpath; len = bits_of link.newdirfd.0; op = bits_of link.flags }

abbrev pub new_f_set_xattr : Target → ℕ → ℕ → ℕ → FSetXattr
new_f_set_xattr fd name value len = record { fd = fd; name = name; value = value; len = len; flags = pos 0 }

abbrev pub f_set_xattr_words : FSetXattr → Entry
f_set_xattr_words attribute = on attribute.fd (record (blank opcodes.FSETXATTR) { off = attribute.value; addr = attribute.name; len = attribute.len; op = bits_of attribute.flags })

abbrev pub new_set_xattr : ℕ → ℕ → ℕ → ℕ → SetXattr
new_set_xattr name value path len = record { name = name; value = value; path = path; len = len; flags = pos 0 }

abbrev pub set_xattr_words : SetXattr → Entry
set_xattr_words attribute = record (blank opcodes.SETXATTR) { off = attribute.value; addr = attribute.name; len = attribute.len; op = bits_of attribute.flags; third = attribute.path }

abbrev pub new_f_get_xattr : Target → ℕ → ℕ → ℕ → FGetXattr
new_f_get_xattr fd name value len = record { fd = fd; name = name; value = value; len = len }

abbrev pub f_get_xattr_words : FGetXattr → Entry
f_get_xattr_words attribute = on attribute.fd (record (blank opcodes.FGETXATTR) { off = attribute.value; addr = attribute.name; len = attribute.len })

abbrev pub new_get_xattr : ℕ → ℕ → ℕ → ℕ → GetXattr
new_get_xattr name value path len = record { name = name; value = value; path = path; len = len }

abbrev pub get_xattr_words : GetXattr → Entry
get_xattr_words attribute = record (blank opcodes.GETXATTR) { off = attribute.value; addr = attribute.name; len = attribute.len; third = attribute.path }

abbrev pub new_async_cancel2 : Cancel → AsyncCancel2
new_async_cancel2 builder = record { builder = builder }

abbrev pub async_cancel2_words : AsyncCancel2 → Entry
async_cancel2_words cancel = record (blank opcodes.ASYNC_CANCEL) { fd = target_word cancel.builder.fd; addr = unwrap_or cancel.builder.user_data 0; op = cancel.builder.flags }

abbrev pub new_read_multi : Target → ℕ → ℕ → ReadMulti
new_read_multi fd len buf_group = record { fd = fd; len = len; buf_group = buf_group; offset = 0 }

-- the flags are BUFFER_SELECT alone, without the mark of a registered file
abbrev pub read_multi_words : ReadMulti → Entry
read_multi_words read = record (on read.fd (blank opcodes.READ_MULTISHOT)) { flags = bits_in BUFFER_SELECT; off = read.offset; len = read.len; buf = read.buf_group }

abbrev pub new_wait_id : ℕ → ℕ → ℤ → WaitId
new_wait_id idtype id options = record { idtype = idtype; id = id; options = options; infop = 0; flags = 0 }

abbrev pub wait_id_words : WaitId → Entry
wait_id_words wait = record (blank opcodes.WAITID) { fd = signed_of wait.id; off = wait.infop; len = wait.idtype; op = wait.flags; idx = bits_of wait.options }

abbrev pub new_futex_wait : ℕ → ℕ → ℕ → ℕ → FutexWait
new_futex_wait futex val mask futex_flags = record { futex = futex; val = val; mask = mask; futex_flags = futex_flags; flags = 0 }

abbrev pub futex_wait_words : FutexWait → Entry
futex_wait_words wait = record (blank opcodes.FUTEX_WAIT) { fd = signed_of wait.futex_flags; off = wait.val; addr = wait.futex; op = wait.flags; third = wait.mask }

abbrev pub new_futex_wake : ℕ → ℕ → ℕ → ℕ → FutexWake
new_futex_wake futex val mask futex_flags = record { futex = futex; val = val; mask = mask; futex_flags = futex_flags; flags = 0 }

abbrev pub futex_wake_words : FutexWake → Entry
futex_wake_words wake = record (blank opcodes.FUTEX_WAKE) { fd = signed_of wake.futex_flags; off = wake.val; addr = wake.futex; op = wake.flags; third = wake.mask }

abbrev pub new_futex_wait_v : ℕ → ℕ → FutexWaitV
new_futex_wait_v futexv nr_futex = record { futexv = futexv; nr_futex = nr_futex; flags = 0 }

abbrev pub futex_wait_v_words : FutexWaitV → Entry
futex_wait_v_words wait = record (blank opcodes.FUTEX_WAITV) { addr = wait.futexv; len = wait.nr_futex; op = wait.flags }

abbrev pub new_fixed_fd_install : Fixed → ℕ → FixedFdInstall
new_fixed_fd_install fd file_flags = record { fd = fd; file_flags = file_flags }

abbrev pub fixed_fd_install_words : FixedFdInstall → Entry
fixed_fd_install_words install = on (registered install.fd.0) (record (blank opcodes.FIXED_FD_INSTALL) { op = install.file_flags })

abbrev pub new_readv_fixed : Target → ℕ → ℕ → ℕ → ReadvFixed
new_readv_fixed fd iovec len buf_index = record { fd = fd; iovec = iovec; len = len; buf_index = buf_index; ioprio = 0; offset = 0; rw_flags = pos 0 }

abbrev pub readv_fixed_words : ReadvFixed → Entry
readv_fixed_words read = on read.fd (record (blank opcodes.READV_FIXED) { prio = read.ioprio; off = read.offset; addr = read.iovec; len = read.len; op = bits_of read.rw_flags; buf = read.buf_index })

abbrev pub new_writev_fixed : Target → ℕ → ℕ → ℕ → WritevFixed
new_writev_fixed fd iovec len buf_index = record { fd = fd; iovec = iovec; len = len; buf_index = buf_index; ioprio = 0; offset = 0; rw_flags = pos 0; write_stream = 0 }

abbrev pub writev_fixed_words : WritevFixed → Entry
writev_fixed_words write = on write.fd (record (blank opcodes.WRITEV_FIXED) { prio = write.ioprio; off = write.offset; addr = write.iovec; len = write.len; op = bits_of write.rw_flags; buf = write.buf_index; idx = write.write_stream })

abbrev pub new_pipe : ℕ → Pipe
new_pipe fds = record { fds = fds; flags = 0; file_index = None }

abbrev pub pipe_words : Pipe → Entry
pipe_words pipe = record (blank opcodes.PIPE) { addr = pipe.fds; op = pipe.flags; idx = unwrap_or pipe.file_index 0 }
