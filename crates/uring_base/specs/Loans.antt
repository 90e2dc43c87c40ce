-- The part of a lent buffer that an operation acts on.
use Rattle.std.specs.Prelude.{ℕ, List, [], ◌++◌, take, drop, Option, Some, None}
use Rattle.uring_base.specs.declared.buffer.Loan.{Loan}

-- the bytes that an operation acts on: those from the loan's place on
abbrev pub part_of : Option Loan → List ℕ
part_of None = []
part_of (Some loan) = drop loan.from loan.buf

-- the loan with other bytes there; those before its place stay
abbrev pub with_part : Option Loan → List ℕ → Option Loan
with_part None bytes = None
with_part (Some loan) bytes = Some (record loan { buf = take loan.from loan.buf ++ bytes })

-- the whole buffer
abbrev pub loan_buf : Option Loan → Option (List ℕ)
loan_buf None = None
loan_buf (Some loan) = Some loan.buf
