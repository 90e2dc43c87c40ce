-- Files by number.
use Rattle.std.specs.Prelude.{ℕ}
use Rattle.rent_fs.specs.declared.file.File.{File}

abbrev pub file_number : File → ℕ
file_number file = file.number
