-- A file that is put in, for a partner that doesn't tell its files.
use Rattle.std.specs.Prelude.{ℕ, List}
use Rattle.std.specs.FinMap.{insert}
use Rattle.uring_model.specs.Machine.{Files}
use Rattle.uring_model.specs.Refines.{AnyFiles, same_files}
use Rattle.partner_traits.specs.Calls.{Puts}

-- a file put in stands in place of what was there
abbrev pub put_in : ℕ → List ℕ → Files → Files
put_in number bytes files = insert files number bytes

abbrev pub puts_in : Puts same_files AnyFiles put_in
puts_in = record { seen = λ number bytes files i. insert files number bytes; plain = λ number bytes files plain. tt }
