-- Kinds of files.
use Rattle.std.specs.Prelude.{ℕ}
use Rattle.fs_data.specs.declared.file_type.FileType.{FileType}

abbrev pub kind_of : FileType → ℕ
kind_of file = file.kind
