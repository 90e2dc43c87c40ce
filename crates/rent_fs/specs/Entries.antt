-- The entries of the states of files.
use Rattle.std.specs.Prelude.{ℕ, ℤ}
use Rattle.std.specs.Int.{w32, cast_signed}
use Rattle.uring_base.specs.declared.squeue.Entry.{Entry}
use Rattle.uring_base.specs.declared.fsync_flags.FsyncFlags.{FsyncFlags}
use Rattle.uring_base.specs.declared.fcntl.TheConstants.{AT_EMPTY_PATH, AT_FDCWD, AT_REMOVEDIR, AT_SYMLINK_NOFOLLOW}
use Rattle.uring_base.specs.declared.stat.TheConstants.{STATX_ALL}
use Rattle.uring_base.specs.declared.types.Fd.{Fd}
use Rattle.uring_base.specs.declared.types.Target.TheVariants.{Fixed}
use Rattle.uring_base.specs.declared.types.Target.TheVariants as targets
use Rattle.uring_ops_file.specs.Rows.{new_close, close_words, new_fsync, fsync_words, new_open_at, open_at_words, new_read, read_words, new_statx, statx_words, new_write, write_words}
use Rattle.uring_ops_path.specs.Rows.{new_mk_dir_at, mk_dir_at_words, new_rename_at, rename_at_words, new_unlink_at, unlink_at_words}

-- a read of so many bytes of a registered file into a loan, from a position on
abbrev pub read_entry : ℕ → ℕ → ℕ → ℕ → Entry
read_entry file loan len position = read_words (record (new_read (Fixed file) loan len) { offset = position })

-- a write of so many bytes of a loan to a registered file, at a position
abbrev pub write_entry : ℕ → ℕ → ℕ → ℕ → Entry
write_entry file loan len position = write_words (record (new_write (Fixed file) loan len) { offset = position })

-- a sync of a registered file, with these flags
abbrev pub sync_entry : ℕ → FsyncFlags → Entry
sync_entry file flags = fsync_words (record (new_fsync (Fixed file)) { flags = flags })

-- without flags, all that belongs to the file is synced
abbrev pub sync_all_flags : FsyncFlags
sync_all_flags = record { 0 = 0 }

-- a descriptor word
abbrev pub fd_of : ℤ → Fd
fd_of n = record { 0 = n }

-- paths are seen from the current directory
abbrev pub here : Fd
here = fd_of AT_FDCWD

-- a file's number as a descriptor: its 32 bits
abbrev pub descriptor : ℕ → ℤ
descriptor file = cast_signed w32 file

-- an opening with these `O_` bits, by which a new file gets this mode
abbrev pub open_entry : ℕ → ℕ → Entry
open_entry bits mode = open_at_words (record (new_open_at here 0) { flags = cast_signed w32 bits; mode = mode })

abbrev pub close_entry : ℕ → Entry
close_entry file = close_words (new_close (targets.Fd (descriptor file)))

-- a stat of all common metadata, with these `AT_` bits
abbrev pub stat_entry : Fd → ℕ → Entry
stat_entry dirfd bits = statx_words (record (new_statx dirfd 0 0) { flags = cast_signed w32 bits; mask = STATX_ALL })

-- of what a path leads to
abbrev pub stat_path_entry : Entry
stat_path_entry = stat_entry here 0

-- of what a path names, which may be a symbolic link
abbrev pub stat_link_entry : Entry
stat_link_entry = stat_entry here AT_SYMLINK_NOFOLLOW

-- of a file, by an empty path
abbrev pub stat_file_entry : ℕ → Entry
stat_file_entry file = stat_entry (fd_of (descriptor file)) AT_EMPTY_PATH

abbrev pub mk_dir_entry : ℕ → Entry
mk_dir_entry mode = mk_dir_at_words (record (new_mk_dir_at here 0) { mode = mode })

abbrev pub remove_file_entry : Entry
remove_file_entry = unlink_at_words (new_unlink_at here 0)

abbrev pub remove_dir_entry : Entry
remove_dir_entry = unlink_at_words (record (new_unlink_at here 0) { flags = cast_signed w32 AT_REMOVEDIR })

abbrev pub rename_entry : Entry
rename_entry = rename_at_words (new_rename_at here 0 here 0)
