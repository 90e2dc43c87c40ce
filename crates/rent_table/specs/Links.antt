-- Numbers in lists that are linked both ways, one list for each next number.
use Rattle.std.specs.Prelude.{◌≡◌, ℕ, ◌<◌, Bool, false, ◌==◌, cond, Option, Some, None}
use Rattle.std.specs.Ordering.{nat_cmp}
use Rattle.std.specs.FinMap.{FinMap}
use Rattle.rent_table.specs.NumberedSlab.{put}
use Rattle.rent_table.specs.declared.waiters.Link.{Link}

abbrev pub names : Option ℕ → ℕ → Bool
names None q = false
names (Some n) q = q == n

-- the number that is named gets another neighbour

abbrev pub with_above : Option ℕ → Option ℕ → ℕ → Link → Link
with_above named above q link = cond (names named q) (record link { above = above }) link

abbrev pub with_below : Option ℕ → Option ℕ → ℕ → Link → Link
with_below named below q link = cond (names named q) (record link { below = below }) link

-- the tops, once a number with this link is out: where it was a top, the one below it is the top now

abbrev pub passed_by : Option ℕ → Link → FinMap nat_cmp ℕ → FinMap nat_cmp ℕ
passed_by None link tops = put link.next link.below tops
passed_by (Some n) link tops = tops

abbrev pub passed : Link → FinMap nat_cmp ℕ → FinMap nat_cmp ℕ
passed link tops = passed_by link.above link tops

-- Number b has this link: it waits for the same as the number that names it.
pub record IsBeside (links : ℕ → Option Link) (next b : ℕ) : Type 0 where
  pub link : Link
  pub at : links b ≡ Some link
  pub next_is : link.next ≡ next

-- The top of each list has none above it, and each number with none above it is the top of its list. Who stands above a
-- number has it below, and the other way round. Ranks rise upwards, so that no list goes round in a circle.
pub record IsLinked (links : ℕ → Option Link) (tops : ℕ → Option ℕ) : Type 0 where
  pub rank : ℕ → ℕ
  pub most : ℕ
  pub ranked : (n : ℕ) (l : Link) → links n ≡ Some l → rank n < most
  pub top : (m n : ℕ) → tops m ≡ Some n → (b : IsBeside links m n) × (b.link.above ≡ None)
  pub topped : (n : ℕ) (l : Link) → links n ≡ Some l → l.above ≡ None → tops l.next ≡ Some n
  pub upward : (n a : ℕ) (l : Link) → links n ≡ Some l → l.above ≡ Some a → (b : IsBeside links l.next a) × (b.link.below ≡ Some n) × (rank n < rank a)
  pub downward : (n a : ℕ) (l : Link) → links n ≡ Some l → l.below ≡ Some a → (b : IsBeside links l.next a) × (b.link.above ≡ Some n)
