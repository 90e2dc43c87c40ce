-- Lists of entries of either size as bytes. One text serves entries and completions.
use Rattle.std.specs.Prelude.{◌≡◌, ℕ, ◌+◌, ◌<◌, Bool, true, false, ◌||◌, nat_eq, if◌then◌else◌, List, [], ◌∷◌, ◌++◌, length, drop, slice_index, Result, Ok, Err, ◌⊎◌}
use Rattle.std.specs.List.{AllByRecursion}
use Rattle.uring_mixed.specs.declared.listing.TheConstants.{SMALL_MARK, LARGE_MARK}
use Rattle.uring_mixed.specs.declared.fault.MixedFault.{MixedFault}
use Rattle.uring_mixed.specs.declared.fault.MixedFault.TheVariants.{Mark, Cut, NoMemory}

-- the bytes of an entry behind its mark, and the entry that such bytes hold; how many bytes a small and a large one have
pub record Form (T : Type 0) : Type 0 where
  pub code : T → List ℕ
  pub held : List ℕ → T
  pub small : ℕ
  pub large : ℕ

abbrev pub is_mark : ℕ → Bool
is_mark b = nat_eq b SMALL_MARK || nat_eq b LARGE_MARK

module _ {T : Type 0} (form : Form T) where
  -- how many bytes stand behind a mark
  abbrev pub size_for : ℕ → ℕ
  size_for mark = if nat_eq mark SMALL_MARK then form.small else form.large

  -- Its bytes are a mark and as many more as the mark says, and hold it: so it is with each entry whose words fit their types.
  pub record IsEntry (x : T) : Type 0 where
    pub mark : ℕ
    pub own : List ℕ
    pub bytes : form.code x ≡ mark ∷ own
    pub marked : is_mark mark ≡ true
    pub size : length own ≡ size_for mark
    pub holds : form.held (form.code x) ≡ x

  -- the bytes of a list
  abbrev pub encoding : List T → List ℕ
  encoding [] = []
  encoding (x ∷ xs) = form.code x ++ encoding xs

  -- the bytes before this place are those of whole entries, and it isn't the end
  pub record IsWholeBefore (place : ℕ) (bytes : List ℕ) : Type 0 where
    pub items : List T
    pub entries : AllByRecursion IsEntry items
    pub front : encoding items ++ drop place bytes ≡ bytes
    pub inside : place < length bytes

  -- What decoding may answer: a list whose encoding the bytes are, or the place of the first entry that isn't whole. The byte
  -- there is no mark, or fewer bytes follow than it says. Memory may lack at any time.
  abbrev pub IsReading : List ℕ → Result (List T) MixedFault → Type 0
  IsReading bytes (Ok items) = AllByRecursion IsEntry items × (encoding items ≡ bytes)
  IsReading bytes (Err (Mark place)) = IsWholeBefore place bytes × (is_mark (slice_index bytes place) ≡ false)
  IsReading bytes (Err (Cut place)) = IsWholeBefore place bytes × (is_mark (slice_index bytes place) ≡ true) × (length bytes < place + 1 + size_for (slice_index bytes place))
  IsReading bytes (Err NoMemory) = Unit {0}

  -- no other answer comes in question, but that memory lacks
  abbrev pub IsOnlyReading : List ℕ → Result (List T) MixedFault → Type 0
  IsOnlyReading bytes answer = (other : Result (List T) MixedFault) → IsReading bytes other → (answer ≡ Err NoMemory) ⊎ (other ≡ Err NoMemory) ⊎ (answer ≡ other)
