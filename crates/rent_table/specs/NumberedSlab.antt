-- A table of values by number.
use Rattle.std.specs.Prelude.{◌≡◌, ℕ, ◌-◌, ◌==◌, true, is_some, List, [], ◌∷◌, Option, Some, None, refl}
use Rattle.std.specs.Coded.{Coded, code_by, coded×, coded_ℕ}
use Rattle.std.specs.Ordering.{nat_cmp}
use Rattle.std.specs.FinMap.{FinMap, code, empty, get, insert, remove}
use Rattle.std.specs.Map.{lookup}
use Rattle.slab.specs.Slab as slab

-- what stands under each number, and how many more numbers fit with no memory
pub record SlabContents (T : Type 0) : Type 0 where
  pub entries : FinMap nat_cmp T
  pub spare : ℕ

abbrev pub contents_code : {T : Type 0} → Coded T → Coded (SlabContents T)
contents_code {T} coded = code_by (FinMap nat_cmp T × ℕ) (coded× (code coded_ℕ coded) coded_ℕ) (λ t. (t.entries, t.spare)) (λ p. record { entries = p.0; spare = p.1 }) (λ _. refl)

-- what stands under a number
abbrev pub at : {T : Type 0} → SlabContents T → ℕ → Option T
at t number = get t.entries number

module _ {T : Type 0} where
  abbrev pub put : ℕ → Option T → FinMap nat_cmp T → FinMap nat_cmp T
  put number None m = remove m number
  put number (Some value) m = insert m number value

-- Under each number that an entry has stands what is picked of it.
module _ {X T : Type 0} (pick : X → Option T) where
  abbrev pub picked : List (ℕ × X) → FinMap nat_cmp T
  picked [] = empty
  picked (e ∷ es) = put e.0 (pick e.1) (picked es)

-- the place that an index has for a number
abbrev pub indexed_place : {X : Type 0} → List (ℕ × X) → ℕ → Option X
indexed_place index number = lookup (λ k. number == k) index

-- each place of the index is taken, and two numbers have two places
pub record IsIndexed {T : Type 0} (index : List (ℕ × ℕ)) (places : slab.Slab T) : Type 0 where
  pub taken : (number place : ℕ) → indexed_place index number ≡ Some place → is_some (slab.get places place) ≡ true
  pub apart : (number other place : ℕ) → indexed_place index number ≡ Some place → indexed_place index other ≡ Some place → number ≡ other

abbrev pub slab_room : {T : Type 0} → slab.Slab T → ℕ
slab_room places = places.capacity - slab.slab_len places
