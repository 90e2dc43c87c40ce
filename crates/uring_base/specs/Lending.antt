-- A buffer whose bytes are lent to be written.
use Rattle.std.specs.Prelude.{ℕ, List, ◌++◌, length, take, drop}
use Rattle.std.specs.Borrow.{Lends, MutBor, Fml, Array, u8}
use Rattle.uring_base.specs.contracts.buffer.Buf.{the_row}

-- bytes that were laid over a buffer, which keeps its length
abbrev pub laid_over : List ℕ → List ℕ → List ℕ
laid_over buf bytes = take (length buf) (bytes ++ drop (length bytes) buf)

-- the buffer ends with the bytes that were left behind the slice, which are as many as it had
abbrev pub LendsBytes : MutBor (List ℕ) → MutBor (List ℕ) → Fml
LendsBytes buf slice = Lends the_row (Array u8 0) buf slice (laid_over buf.now)
