-- What a contract sees of the numbers that wait.
use Rattle.std.specs.Prelude.{ℕ, Option, Some, refl}
use Rattle.std.specs.Coded.{Coded, code_by, coded×, coded_ℕ}
use Rattle.std.specs.Ordering.{nat_cmp}
use Rattle.std.specs.FinMap.{FinMap, entries, code}
use Rattle.rent_table.specs.NumberedSlab.{picked}
use Rattle.rent_table.specs.declared.waiters.Link.{Link}

-- each waiting number's next number, and how many more can wait with no memory
pub record Waiting : Type 0 where
  pub next : FinMap nat_cmp ℕ
  pub spare : ℕ

abbrev pub waiting_code : Coded Waiting
waiting_code = code_by (FinMap nat_cmp ℕ × ℕ) (coded× (code coded_ℕ coded_ℕ) coded_ℕ) (λ w. (w.next, w.spare)) (λ p. record { next = p.0; spare = p.1 }) (λ _. refl)

abbrev pub next_in : Link → Option ℕ
next_in link = Some link.next

abbrev pub next_of : FinMap nat_cmp Link → FinMap nat_cmp ℕ
next_of links = picked next_in (entries links)
