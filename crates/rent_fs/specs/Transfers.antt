-- What moves the whole buffers of files.
use Rattle.std.specs.Prelude.{ℕ, ◌+◌, ◌-◌, List, length}
use Rattle.uring_base.specs.declared.squeue.Entry.{Entry}
use Rattle.rent_fs.specs.declared.read_exact_at.WholeRead.{WholeRead}
use Rattle.rent_fs.specs.declared.write_all_at.WholeWrite.{WholeWrite}
use Rattle.rent_fs.specs.Entries.{read_entry, write_entry}

-- a buffer that is moved to or from a position ends so many bytes behind it
abbrev pub whole_read : ℕ → ℕ → List ℕ → WholeRead
whole_read file position buf = record { file = file; end = position + length buf }

abbrev pub whole_write : ℕ → ℕ → List ℕ → WholeWrite
whole_write file position buf = record { file = file; end = position + length buf }

-- the rest ends where the whole ends
abbrev pub rest_read : WholeRead → ℕ → Entry
rest_read read rest = read_entry read.file 0 rest (read.end - rest)

abbrev pub rest_write : WholeWrite → ℕ → Entry
rest_write write rest = write_entry write.file 0 rest (write.end - rest)
