-- A loan's part, laid back, is read again.
use Rattle.std.specs.Prelude.{◌≡◌, ℕ, zero, suc, List, [], ◌∷◌, ◌++◌, length, take, drop, Option, Some, None, refl}
use Rattle.std.proofs.Common.{arith}
use Rattle.uring_base.specs.declared.buffer.Loan.{Loan}
use Rattle.uring_base.specs.Loans.{part_of, with_part}

no_bytes : (b : List ℕ) → length b ≡ 0 → [] ≡ b
no_bytes [] h = refl
no_bytes (x ∷ b) h = absurd (omega arith)

past_end : (n : ℕ) (b : List ℕ) → length b ≡ 0 → drop (suc n) b ≡ b
past_end n [] h = refl
past_end n (x ∷ b) h = absurd (omega arith)

behind_front : (from : ℕ) (buf b : List ℕ) → length b ≡ length (drop from buf) → drop from (take from buf ++ b) ≡ b
behind_front zero buf b h = refl
behind_front (suc n) [] b h = past_end n b h
behind_front (suc n) (x ∷ buf) b h = behind_front n buf b h

pub part_read : (l : Option Loan) (b : List ℕ) → length b ≡ length (part_of l) → part_of (with_part l b) ≡ b
part_read None b h = no_bytes b h
part_read (Some l) b h = behind_front l.from l.buf b h
